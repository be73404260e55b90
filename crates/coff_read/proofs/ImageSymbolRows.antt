-- Rows of the definition of an image's symbols, by a table worked out by hand.
use Rattle.std.proofs.Common.{◌≡◌, ℕ, ◌++◌, codes, refl, List, [], ◌∷◌, Some, None}
use Rattle.std.specs.Prelude.{replicate}
use Rattle.pe_head.specs.declared.headers.Headers.{Headers}
use Rattle.coff_read.specs.Field.{field}
use Rattle.coff_read.specs.ImageSymbols.{image_symbols, image_symbol_name}
use Rattle.coff_read.specs.Records.{Symbol}
use Rattle.coff_read.specs.declared.symbol.SymbolSection.TheVariants as belongs

-- eight bytes before the table, whose first record has an auxiliary record
abbrev before : List ℕ
before = replicate 8 0xee

abbrev first : List ℕ
first = codes "abcdefgh" ++ 1 ∷ 2 ∷ 3 ∷ 4 ∷ 5 ∷ 0 ∷ 6 ∷ 7 ∷ 8 ∷ 1 ∷ []

abbrev auxiliary : List ℕ
auxiliary = 11 ∷ 12 ∷ 13 ∷ 14 ∷ 15 ∷ 16 ∷ 17 ∷ 18 ∷ 19 ∷ 20 ∷ 21 ∷ 22 ∷ 23 ∷ 24 ∷ 25 ∷ 26 ∷ 27 ∷ 28 ∷ []

-- the record after these has a long name, and counts two auxiliary records
abbrev third : List ℕ
third = 0 ∷ 0 ∷ 0 ∷ 0 ∷ 5 ∷ 0 ∷ 0 ∷ 0 ∷ 9 ∷ 0 ∷ 0 ∷ 0 ∷ 0xfe ∷ 0xff ∷ 0 ∷ 0 ∷ 103 ∷ 2 ∷ []

-- a string table of 10 bytes
abbrev strings : List ℕ
strings = 10 ∷ 0 ∷ 0 ∷ 0 ∷ codes "xlong" ++ 0 ∷ []

abbrev file : List ℕ
file = before ++ first ++ auxiliary ++ third ++ strings

abbrev first_symbol : Symbol
first_symbol = record { name = codes "abcdefgh"; value = 0x04030201; section = belongs.Section 5; kind = 0x706; class = 8; aux = auxiliary }

-- of the auxiliary records of the last record the table has none
abbrev third_symbol : Symbol
third_symbol = record { name = codes "long"; value = 9; section = belongs.Debug; kind = 0; class = 103; aux = [] }

module _ (h : Headers) (at : h.pointer_to_symbol_table ≡ 8) (three : h.number_of_symbols ≡ 3) where
  row_whole : image_symbols file h ≡ (0, first_symbol) ∷ (2, third_symbol) ∷ []
  unfolding field
  row_whole = rw (at, three) refl

  -- a table that passes the end of its file: one byte of the third record is missing, and with it the string table
  row_cut : image_symbols (before ++ first ++ auxiliary ++ codes "seventeen bytes..") h ≡ (0, first_symbol) ∷ []
  unfolding field
  row_cut = rw (at, three) refl

  -- an auxiliary record that the file holds in part is not there
  row_no_auxiliary : image_symbols (before ++ first ++ codes "17 bytes of these") h
      ≡ (0, record { name = codes "abcdefgh"; value = 0x04030201; section = belongs.Section 5; kind = 0x706; class = 8; aux = [] }) ∷ []
  unfolding field
  row_no_auxiliary = rw (at, three) refl

-- a table past the end of its file
row_past : (h : Headers) → h.pointer_to_symbol_table ≡ 100 → h.number_of_symbols ≡ 3 → image_symbols file h ≡ []
unfolding field
row_past h at three = rw (at, three) refl

-- no table
row_none : (h : Headers) → h.pointer_to_symbol_table ≡ 0 → h.number_of_symbols ≡ 3 → image_symbols file h ≡ []
unfolding field
row_none h at three = rw at refl

-- names without a string: an offset into the size, one past the table, one of a string without an end, and none at all
row_into_size : image_symbol_name (0 ∷ 0 ∷ 0 ∷ 0 ∷ 3 ∷ 0 ∷ 0 ∷ 0 ∷ []) (Some strings) 0 ≡ None
unfolding field
row_into_size = refl

row_past_strings : image_symbol_name (0 ∷ 0 ∷ 0 ∷ 0 ∷ 10 ∷ 0 ∷ 0 ∷ 0 ∷ []) (Some strings) 0 ≡ None
unfolding field
row_past_strings = refl

row_without_end : image_symbol_name (0 ∷ 0 ∷ 0 ∷ 0 ∷ 4 ∷ 0 ∷ 0 ∷ 0 ∷ []) (Some (6 ∷ 0 ∷ 0 ∷ 0 ∷ codes "ab")) 0 ≡ None
unfolding field
row_without_end = refl

row_no_strings : image_symbol_name (0 ∷ 0 ∷ 0 ∷ 0 ∷ 4 ∷ 0 ∷ 0 ∷ 0 ∷ []) None 0 ≡ None
unfolding field
row_no_strings = refl

-- offset 0 is no name, and leads nowhere
row_unnamed : image_symbol_name (0 ∷ 0 ∷ 0 ∷ 0 ∷ 0 ∷ 0 ∷ 0 ∷ 0 ∷ []) None 0 ≡ Some []
unfolding field
row_unnamed = refl

-- a short name ends at its first zero byte
row_short : image_symbol_name (codes "main" ++ 0 ∷ 0x78 ∷ 0 ∷ 0 ∷ []) None 0 ≡ Some (codes "main")
unfolding field
row_short = refl
