-- The rule of the Rich header: before "Rich" is "DanS".
use Rattle.std.specs.Prelude.{ℕ, ◌*◌, List, Option, None, Some, is_some, option_and_then, if◌then◌else◌}
use Rattle.pe_view.specs.declared.fault.Fault.{Fault}
use Rattle.pe_view.specs.declared.fault.Place.TheVariants.{File}
use Rattle.pe_trust.specs.Rich.{rich_mark, rich_of}

abbrev pub fault_at : ℕ → ℕ → Fault
fault_at image mark = record { number = 241; image = image; place = File (4 * mark) }

abbrev pub rich_finding_of : ℕ → List ℕ → ℕ → Option Fault
rich_finding_of image file pe_offset =
    option_and_then (λ mark. if is_some (rich_of file pe_offset) then None else Some (fault_at image mark)) (rich_mark file pe_offset)
