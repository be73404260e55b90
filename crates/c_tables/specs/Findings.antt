-- The findings of an image's file.
use Rattle.std.specs.Prelude.{◌≢◌, ℕ, List, []}
use Rattle.pe_view.specs.declared.fault.Fault.{Fault}
use Rattle.pe_view.specs.Standing.{standing}
use Rattle.pe_head.specs.Head.{head_of}
use Rattle.pe_layout.specs.Image.{image_of_file}
use Rattle.pe_records.specs.FindingTests.{finding_tests}
use Rattle.pe_records_c.specs.Wants.{IsLaidOut}

unfoldable pub findings_of : List ℕ → List Fault
findings_of file = standing (finding_tests (head_of file).machine (image_of_file 0 file) file)

-- the file has none of faults 1 to 15, and its image has a finding
abbrev pub HasFinding : List ℕ → Type 0
HasFinding file = IsLaidOut file × (findings_of file ≢ [])
