-- What an export table exports, by the indexes of its names and entries ("PE Format", The .edata Section).
use Rattle.std.specs.Prelude.{◌≡◌, ◌≢◌, ◌<◌, ℕ, ◌+◌, List, Option, Some}
use Rattle.pe_head.specs.declared.directory.Directory.{Directory}
use Rattle.pe_layout.specs.Image.{LaidOut}
use Rattle.pe_tables.specs.Key.{Target}
use Rattle.pe_tables.specs.Exports.{entry, name_text, target_of}
use Rattle.pe_tables.specs.declared.export_table.Table.{Table}

-- name k is the first of a table that is this string
pub record IsFirstName (i : LaidOut) (t : Table) (text : List ℕ) (k : ℕ) : Type 0 where
  pub within : k < t.name_count
  pub has : name_text i t k ≡ Some text
  pub first : (j : ℕ) → j < k → name_text i t j ≢ Some text

-- no name of a table is this string
abbrev pub IsUnnamed : LaidOut → Table → List ℕ → Type 0
IsUnnamed i t text = (k : ℕ) → k < t.name_count → name_text i t k ≢ Some text

-- no entry of a table has the ordinal
abbrev pub IsUnnumbered : Table → ℕ → Type 0
IsUnnumbered t ordinal = (k : ℕ) → k < t.entry_count → ordinal ≢ t.ordinal_base + k

-- two names of a table, of which one first occurs before the other
abbrev pub StandsBefore : LaidOut → Table → List ℕ → List ℕ → Type 0
StandsBefore i t text later = (j : ℕ) × (k : ℕ) × IsFirstName i t text j × IsFirstName i t later k × (j < k)

-- what entry k of a table exports
abbrev pub exported_at : LaidOut → Directory → Table → ℕ → Option Target
exported_at i d t k = target_of i d (entry i t k)
