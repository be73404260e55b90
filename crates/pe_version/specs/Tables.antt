-- The string tables of version information: those of each block StringFileInfo, each with its strings.
use Rattle.std.specs.Prelude.{ℕ, List, [], ◌∷◌, if◌then◌else◌}
use Rattle.pe_version.specs.Block.{key_in, value_in, body_of, is_string_file_info}
use Rattle.pe_version.specs.Blocks.{in_blocks}
use Rattle.pe_version.specs.Root.{files_at, files_end}

-- nothing more at the end of some blocks
abbrev pub nothing : {X : Type 0} → ℕ → List X
nothing at = []

pub record Entry : Type 0 where
  pub key : List ℕ
  pub value : List ℕ

pub record Table : Type 0 where
  pub key : List ℕ
  pub strings : List Entry

abbrev pub entry_at : List ℕ → ℕ × ℕ → List Entry
entry_at bytes b = record { key = key_in bytes b; value = value_in bytes b } ∷ []

abbrev pub table_at : List ℕ → ℕ × ℕ → List Table
table_at bytes t = record { key = key_in bytes t; strings = in_blocks (entry_at bytes) nothing bytes t.1 (body_of bytes t) } ∷ []

abbrev pub file_tables : List ℕ → ℕ × ℕ → List Table
file_tables bytes f = if is_string_file_info bytes f then in_blocks (table_at bytes) nothing bytes f.1 (body_of bytes f) else []

abbrev pub tables_of : List ℕ → List Table
tables_of bytes = in_blocks (file_tables bytes) nothing bytes (files_end bytes) (files_at bytes)
