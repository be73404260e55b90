-- The strings of version information: those of each table, each with the key of its table.
use Rattle.std.specs.Prelude.{List, ℕ, map, flat_map}
use Rattle.pe_version.specs.Tables.{Entry, Table, tables_of}

pub record Text : Type 0 where
  pub table : List ℕ  -- the key of its table
  pub key : List ℕ
  pub value : List ℕ

abbrev pub text_in : List ℕ → Entry → Text
text_in table e = record { table = table; key = e.key; value = e.value }

abbrev pub texts_of : Table → List Text
texts_of t = map (text_in t.key) t.strings

abbrev pub strings_of : List ℕ → List Text
strings_of bytes = flat_map texts_of (tables_of bytes)
