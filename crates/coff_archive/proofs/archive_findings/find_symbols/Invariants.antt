use Rattle.std.proofs.Common.{◌≡◌, ◌≢◌, [], ◌++◌, length}
use Rattle.std.specs.List.{flat_map}
use Rattle.pe_view.specs.Standing.{standing}
use Rattle.coff_archive.specs.ArchiveFile.{file_of, is_thin}
use Rattle.coff_archive.specs.Findings.{symbol_tests}
use Rattle.coff_archive.specs.Symbols.{symbols}
use Rattle.coff_archive.specs.SymbolsLeft.{symbols_left}
use Rattle.coff_archive.proofs.archive_findings.find_symbols.Given as goal

abbrev pub invariant-loop-symbol : goal.invariant-loop-symbol
invariant-loop-symbol g l =
    (l.found.items ++ standing (flat_map (symbol_tests (is_thin l.archive) (file_of l.archive) l.member.offset) (symbols_left l.symbols))
    ≡ l.fn.found.items ++ standing (flat_map (symbol_tests (is_thin l.archive) (file_of l.archive) l.member.offset) (symbols l.fn.linker l.member.bytes.now)))
    × (standing (flat_map (symbol_tests (is_thin l.archive) (file_of l.archive) l.member.offset) (symbols_left l.symbols)) ≢ [] → standing (flat_map (symbol_tests (is_thin l.archive) (file_of l.archive) l.member.offset) (symbols l.fn.linker l.member.bytes.now)) ≢ [])

abbrev pub decreases-loop-symbol : goal.decreases-loop-symbol
decreases-loop-symbol g l = length (symbols_left l.symbols)
