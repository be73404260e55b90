-- What is written of a new archive.
use Rattle.std.specs.Prelude.{◌≡◌, ℕ, List, [], None, Some}
use Rattle.pe_view.specs.Faults.{first_standing}
use Rattle.coff_library.specs.Members.{Member}
use Rattle.coff_library.specs.WriteFaults.{write_tests}
use Rattle.coff_library.specs.Written.{IsArchiveOf}
use Rattle.pe_text.specs.declared.outcome.Outcome.{Outcome}
use Rattle.pe_text.specs.declared.outcome.Outcome.TheVariants.{Done, Refused}

-- the archive of members, or nothing if they have a fault
abbrev pub IsNewArchive : List Member → Outcome → List ℕ → Type 0
IsNewArchive members Done bytes = (first_standing (write_tests members) ≡ None) × IsArchiveOf members bytes
IsNewArchive members (Refused fault) bytes = (first_standing (write_tests members) ≡ Some fault) × (bytes ≡ [])
