-- Sets of images as a caller has them.
use Rattle.std.specs.Prelude.{ℕ, nat_lt, if◌then◌else◌, Bool, true, false, List, Option, None, Some}
use Rattle.pe_set.specs.Set.{Entry}
use Rattle.pe_set.specs.declared.entry.Policy.{Policy}
use Rattle.pe_set.specs.declared.entry.Policy.TheVariants.{Strict, Known}
use Rattle.pe_text.specs.declared.outcome.Outcome.{Outcome}
use Rattle.pe_map_lines.specs.MapReport.{IsMapText}
use Rattle.pe_map_lines.specs.UnboundImports.{IsUnboundText}
use Rattle.petool_page.specs.declared.map.EntryRecord.{EntryRecord}

abbrev pub entry_of : EntryRecord → Entry
entry_of e = record { name = e.name.now; file = e.file.now; base = e.base }

-- whether an import from a module that is not in the set is no fault
abbrev pub policy_of : Bool → Policy
policy_of true = Known
policy_of false = Strict

-- so many bytes from an address on, if there are any
abbrev pub window_of : ℕ → ℕ → Option (ℕ × ℕ)
window_of address count = if nat_lt 0 count then Some (address, count) else None

-- the report of a set, with the imports that are bound to nothing if they are asked for
abbrev pub IsReport : Bool → Policy → List Entry → Option (ℕ × ℕ) → Outcome → List ℕ → Type 0
IsReport true = IsUnboundText
IsReport false = IsMapText
