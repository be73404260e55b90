-- Imports that are bound to nothing as C has them, with strings as their bytes.
use Rattle.std.specs.Prelude.{◌≡◌, ℕ, List, length}
use Rattle.pe_tables.specs.Imports.{Import}
use Rattle.pe_records_c.specs.ImportRows.{ImportText, import_row}
use Rattle.pe_records_c.specs.Rows.{Fills}
use Rattle.pe_records_c.specs.declared.unbound.UnboundRow.{UnboundRow}

-- the index of its image, and the import
pub record UnboundText : Type 0 where
  pub image : ℕ
  pub «import» : ImportText

abbrev pub unbound_row : ℕ × Import → UnboundText
unbound_row u = record { image = u.0; «import» = import_row u.1 }

abbrev pub unbound_text : UnboundRow → UnboundText
unbound_text row = record {
  image = row.image;
  «import» = record { module_name = row.«module».now; name = row.name.now; slot = row.slot; ordinal = row.ordinal; by_ordinal = row.by_ordinal };
}

-- some of the imports are in the first rows, as many as fit, and they are counted
pub record IsPut (told : List (ℕ × Import)) (old new : List UnboundRow) (count : ℕ) : Type 0 where
  pub rows : Fills (λ u row. unbound_text row ≡ unbound_row u) told old new
  pub count_is : count ≡ length told
