-- Imports as C has them, with strings as their bytes.
use Rattle.std.specs.Prelude.{◌≡◌, ◌==◌, ℕ, Bool, true, false, List, [], Option, None, Some}
use Rattle.std.specs.List.{find}
use Rattle.pe_tables.specs.Imports.{Import}
use Rattle.pe_tables.specs.Key.{Key, Ordinal, Name}
use Rattle.pe_records_c.specs.declared.import.ImportRow.{ImportRow}

-- an import: its name is empty or its ordinal is 0
pub record ImportText : Type 0 where
  pub module_name : List ℕ
  pub name : List ℕ
  pub slot : ℕ
  pub ordinal : ℕ
  pub by_ordinal : Bool

abbrev pub import_by : List ℕ → ℕ → Key → ImportText
import_by module_name slot (Ordinal ordinal) = record { module_name = module_name; name = []; slot = slot; ordinal = ordinal; by_ordinal = true }
import_by module_name slot (Name text) = record { module_name = module_name; name = text; slot = slot; ordinal = 0; by_ordinal = false }

abbrev pub import_row : Import → ImportText
import_row m = import_by m.module_name m.slot m.key

abbrev pub import_text : ImportRow → ImportText
import_text row = record { module_name = row.«module».now; name = row.name.now; slot = row.slot; ordinal = row.ordinal; by_ordinal = row.by_ordinal }

-- the import whose slot is at an RVA
abbrev pub import_of_slot : List Import → ℕ → Option Import
import_of_slot imports slot = find (λ x. x.slot == slot) imports

-- how an import is reported: status 0 and the import, or 3 if there is none
abbrev pub TellsImport : Option Import → ImportRow → ImportRow → ℕ → Type 0
TellsImport None before after status = (status ≡ 3) × (after ≡ before)
TellsImport (Some found) before after status = (status ≡ 0) × (import_text after ≡ import_row found)
