-- The exports that were read, with strings as their bytes.
use Rattle.std.specs.Prelude.{ℕ, ◌<◌, List, map}
use Rattle.pe_layout.specs.Span.{IsTextOf}
use Rattle.pe_tables.specs.Key.{Target, target_view}
use Rattle.pe_tables.specs.Exports as table
use Rattle.pe_tables.specs.NameIndex.{export_view}
use Rattle.pe_tables.specs.declared.key.Target as code_target
use Rattle.pe_tables.specs.declared.exports.Name as code_name
use Rattle.pe_tables.specs.declared.export_lookup.Exports as code_exports
use Rattle.pe_tables.specs.declared.export_names.NamesByOrdinal as code_names

-- a name, and the index of the entry that it exports
abbrev pub name_view : code_name.Name → List ℕ × ℕ
name_view name = (name.text.bytes.now, name.entry)

-- a string of the file, and the index of an entry of the table
pub record IsNameOf (file : List ℕ) (entry_count : ℕ) (name : code_name.Name) : Type 0 where
  pub text : IsTextOf file name.text
  pub inside : name.entry < entry_count

abbrev pub ordinal_view : ℕ × code_target.Target → ℕ × Target
ordinal_view pair = (pair.0, target_view pair.1)

abbrev pub exports_view : {A : Type 0} → code_exports.Exports A → table.Exports
exports_view exports = record {
  ordinals = map ordinal_view exports.ordinals.items;
  names = map export_view exports.names.exports.items;
  name_ordinals = exports.names.ordinals.items;
}

-- the names ordered by ordinal, each its ordinal and its index
abbrev pub by_ordinal_view : {A : Type 0} → code_names.NamesByOrdinal A → List (ℕ × ℕ)
by_ordinal_view names = names.names.items
