-- Exports as C has them, with strings as their bytes.
use Rattle.std.specs.Prelude.{◌≡◌, ℕ, List, [], Option, None, Some}
use Rattle.std.specs.List.{zip}
use Rattle.pe_tables.specs.Exports.{Exports}
use Rattle.pe_tables.specs.Key.{Ordinal, Name, Target, Rva, Forward}
use Rattle.pe_records_c.specs.declared.export.ExportRow.{ExportRow}
use Rattle.pe_records_c.specs.declared.export.TargetRecord.{TargetRecord}

-- what an export leads to: 0 an RVA, 1 an ordinal of another module, or 2 a name of one
pub record TargetText : Type 0 where
  pub kind : ℕ
  pub rva : ℕ
  pub ordinal : ℕ
  pub module_name : List ℕ
  pub name : List ℕ

abbrev pub target_of : Target → TargetText
target_of (Rva rva) = record { kind = 0; rva = rva; ordinal = 0; module_name = []; name = [] }
target_of (Forward module_name (Ordinal ordinal)) = record { kind = 1; rva = 0; ordinal = ordinal; module_name = module_name; name = [] }
target_of (Forward module_name (Name text)) = record { kind = 2; rva = 0; ordinal = 0; module_name = module_name; name = text }

abbrev pub target_text : TargetRecord → TargetText
target_text t = record { kind = t.kind; rva = t.rva; ordinal = t.ordinal; module_name = t.«module».now; name = t.name.now }

-- an export: its name is empty if it is one by ordinal
pub record ExportText : Type 0 where
  pub ordinal : ℕ
  pub name : List ℕ
  pub target : TargetText

abbrev pub export_by_ordinal : ℕ × Target → ExportText
export_by_ordinal e = record { ordinal = e.0; name = []; target = target_of e.1 }

abbrev pub export_by_name : (List ℕ × Target) × ℕ → ExportText
export_by_name e = record { ordinal = e.1; name = e.0.0; target = target_of e.0.1 }

-- the exports by name, each with its ordinal
abbrev pub named : Exports → List ((List ℕ × Target) × ℕ)
named e = zip e.names e.name_ordinals

abbrev pub export_text : ExportRow → ExportText
export_text row = record { ordinal = row.ordinal; name = row.name.now; target = target_text row.target }

-- how a target is reported: status 0 and the target, or 3 if there is none
abbrev pub TellsTarget : Option Target → TargetRecord → TargetRecord → ℕ → Type 0
TellsTarget None before after status = (status ≡ 3) × (after ≡ before)
TellsTarget (Some target) before after status = (status ≡ 0) × (target_text after ≡ target_of target)
