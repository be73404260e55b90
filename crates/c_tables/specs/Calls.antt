-- When calls on an archive's file allocate memory.
use Rattle.std.specs.Prelude.{◌≡◌, ◌≢◌, ℕ, List, [], None}
use Rattle.pe_view.specs.Faults.{first_standing}
use Rattle.coff_archive.specs.FileTests.{file_tests, is_thin_file}
use Rattle.coff_archive.specs.Front.{names_of}
use Rattle.c_tables.specs.ArchiveFindings.{archive_findings_of}

-- the file is an archive with a finding
abbrev pub FindingsTakeMemory : List ℕ → Type 0
FindingsTakeMemory file = (first_standing (file_tests file) ≡ None) × (archive_findings_of (is_thin_file file) file ≢ [])

-- the file is an archive with long names
abbrev pub NamesTakeMemory : List ℕ → Type 0
NamesTakeMemory file = (first_standing (file_tests file) ≡ None) × (names_of (is_thin_file file) file ≢ [])
