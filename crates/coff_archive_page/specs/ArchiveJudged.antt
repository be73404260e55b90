-- The outcome of the page of an archive: that of the archive's dump.
use Rattle.std.specs.Prelude.{◌≡◌, ℕ, List}
use Rattle.std.specs.Option.{option_or}
use Rattle.pe_view.specs.Faults.{first_standing}
use Rattle.coff_archive.specs.FileTests.{file_tests, is_thin_file}
use Rattle.pe_text.specs.declared.outcome.Outcome.{Outcome}
use Rattle.coff_lines.specs.ArchiveLines.{archive_fault, outcome_by}

-- done if the file is an archive without a fault, otherwise refused by its first
abbrev pub archive_outcome : List ℕ → Outcome
archive_outcome file = outcome_by (option_or (first_standing (file_tests file)) (archive_fault (is_thin_file file) file))

-- the outcome is that, whatever the page's text is
abbrev pub IsArchiveJudged : List ℕ → Outcome → List ℕ → Type 0
IsArchiveJudged file outcome text = outcome ≡ archive_outcome file
