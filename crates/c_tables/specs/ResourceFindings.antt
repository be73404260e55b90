-- All findings of an image's file, with those of its resources.
use Rattle.std.specs.Prelude.{◌≢◌, ◌⊎◌, ℕ, List, [], ◌++◌, Option, None, Some}
use Rattle.pe_view.specs.declared.fault.Fault.{Fault}
use Rattle.pe_view.specs.Standing.{standing}
use Rattle.pe_head.specs.Head.{head_of}
use Rattle.pe_head.specs.declared.headers.Headers.{Headers}
use Rattle.pe_delay.specs.Findings.{delay_tests}
use Rattle.pe_layout.specs.Image.{LaidOut, image_of_file}
use Rattle.pe_records_c.specs.Wants.{IsLaidOut}
use Rattle.pe_resources.specs.Single.{version_of}
use Rattle.pe_resources.specs.Texts.{data_of}
use Rattle.pe_resources.specs.Walk.{resource_tests}
use Rattle.pe_resources.specs.declared.leaf.Leaf.{Leaf}
use Rattle.pe_records.specs.FindingTests.{finding_tests}
use Rattle.pe_symbols.specs.SymbolTests.{image_symbol_tests}
use Rattle.c_tables.specs.AllFindings.{with_between}
use Rattle.c_tables.specs.TrustFindings.{trust_findings_of}
use Rattle.pe_version.specs.Findings.{version_tests}

abbrev pub found_in : LaidOut → Leaf → Option (List ℕ) → List Fault
found_in i leaf None = []
found_in i leaf (Some bytes) = standing (version_tests i.number leaf.rva bytes)

abbrev pub found_at : LaidOut → Option Leaf → List Fault
found_at i None = []
found_at i (Some leaf) = found_in i leaf (data_of i leaf)

-- those of the version information, if the image has any that the file holds in one run
abbrev pub version_found : LaidOut → List Fault
version_found i = found_at i (version_of i)

-- those of the tree, and then these
abbrev pub resource_findings : LaidOut → List Fault
resource_findings i = standing (resource_tests i) ++ version_found i

-- those of the delay-load directory table, and those of the resources
abbrev pub delay_and_resource_findings : LaidOut → List Fault
delay_and_resource_findings i = standing (delay_tests i) ++ resource_findings i

-- those of the other tables beyond the profile, and those of the symbol table
abbrev pub record_and_symbol_findings : List ℕ → Headers → LaidOut → List Fault
record_and_symbol_findings file h i = standing (finding_tests h.machine i file) ++ standing (image_symbol_tests i.number file h)

abbrev pub all_findings_of : List ℕ → List Fault
all_findings_of file =
    with_between (record_and_symbol_findings file (head_of file) (image_of_file 0 file)) (delay_and_resource_findings (image_of_file 0 file)) (trust_findings_of file (head_of file))

-- the image has a resource directory, or another of these tables has a finding
abbrev pub TablesWantMemory : List ℕ → Headers → LaidOut → Type 0
TablesWantMemory file h i =
    ((i.directory 2 ≢ None) ⊎ (standing (delay_tests i) ≢ []))
    ⊎ ((standing (finding_tests h.machine i file) ≢ []) ⊎ (standing (image_symbol_tests i.number file h) ≢ []))

-- memory is allocated for them: the file has none of faults 1 to 15, and its image has a resource directory, or another finding of its
-- tables
abbrev pub FindingsTakeMemory : List ℕ → Type 0
FindingsTakeMemory file = IsLaidOut file × TablesWantMemory file (head_of file) (image_of_file 0 file)
