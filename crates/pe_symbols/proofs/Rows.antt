-- Rows of the rules of an image's symbol table, by tables worked out by hand.
use Rattle.std.proofs.Common.{◌≡◌, ℕ, ◌++◌, codes, refl, List, [], ◌∷◌}
use Rattle.std.specs.Prelude.{replicate, length}
use Rattle.pe_head.specs.declared.headers.Headers.{Headers}
use Rattle.coff_read.specs.Field.{field}
use Rattle.pe_view.specs.Standing.{standing}
use Rattle.pe_view.specs.declared.fault.Fault.{Fault}
use Rattle.pe_view.specs.declared.fault.Place.TheVariants.{File}
use Rattle.pe_symbols.specs.SymbolTests.{image_symbol_tests}

-- eight bytes, and then a record of a section with one auxiliary record, whose number and count are its last arguments
abbrev record_in : ℕ → ℕ → ℕ → List ℕ
record_in low high count = codes "abcdefgh" ++ 1 ∷ 2 ∷ 3 ∷ 4 ∷ low ∷ high ∷ 6 ∷ 7 ∷ 8 ∷ count ∷ []

abbrev before : List ℕ
before = replicate 8 0xee

-- a string table without a string
abbrev strings : List ℕ
strings = 4 ∷ 0 ∷ 0 ∷ 0 ∷ []

abbrev finding : ℕ → ℕ → Fault
finding number at = record { number = number; image = 7; place = File at }

module _ (any : Headers) where
  -- headers of three sections and two records at 8
  abbrev h : Headers
  h = record any { pointer_to_symbol_table = 8; number_of_symbols = 2; number_of_sections = 3 }

  -- the section is the last one
  row_none : standing (image_symbol_tests 7 (before ++ record_in 3 0 1 ++ record_in 0 0 0 ++ strings) h) ≡ []
  unfolding field
  row_none = refl

  -- of two records the second is missing, and the first counts it
  row_cut : standing (image_symbol_tests 7 (before ++ record_in 3 0 1) h) ≡ finding 261 8 ∷ finding 264 8 ∷ []
  unfolding field
  row_cut = refl

  -- there is no string table, and one that is shorter than its own length
  row_no_strings : standing (image_symbol_tests 7 (before ++ record_in 3 0 1 ++ record_in 0 0 0) h) ≡ finding 262 44 ∷ []
  unfolding field
  row_no_strings = refl

  row_long_strings : standing (image_symbol_tests 7 (before ++ record_in 3 0 1 ++ record_in 0 0 0 ++ 5 ∷ 0 ∷ 0 ∷ 0 ∷ []) h) ≡ finding 262 44 ∷ []
  unfolding field
  row_long_strings = refl

  -- a section past the last, by either byte; ABSOLUTE and DEBUG are none
  row_stray : standing (image_symbol_tests 7 (before ++ record_in 4 0 0 ++ record_in 0 1 0 ++ strings) h) ≡ finding 263 8 ∷ finding 263 26 ∷ []
  unfolding field
  row_stray = refl

  row_words : standing (image_symbol_tests 7 (before ++ record_in 0xff 0xff 0 ++ record_in 0xfe 0xff 0 ++ strings) h) ≡ []
  unfolding field
  row_words = refl

  -- the second record counts one that is not there
  row_short : standing (image_symbol_tests 7 (before ++ record_in 1 0 0 ++ record_in 2 0 1 ++ strings) h) ≡ finding 264 26 ∷ []
  unfolding field
  row_short = refl

-- no symbol table
row_without : (any : Headers) → standing (image_symbol_tests 7 (before ++ strings) (record any { pointer_to_symbol_table = 0; number_of_symbols = 2 })) ≡ []
row_without any = refl
