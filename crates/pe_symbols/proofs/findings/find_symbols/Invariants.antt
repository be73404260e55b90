use Rattle.std.proofs.Common.{◌≡◌, ◌≢◌, ◌-◌, ◌≤◌, [], ◌++◌}
use Rattle.std.specs.List.{flat_map}
use Rattle.coff_read.specs.ImageNames.{image_strings}
use Rattle.coff_read.specs.ImageSymbols.{image_symbols_from}
use Rattle.pe_view.specs.Standing.{standing}
use Rattle.pe_view.specs.View.{bytes_of}
use Rattle.pe_symbols.specs.SymbolTests.{symbol_tests}
use Rattle.pe_symbols.proofs.findings.find_symbols.Given as goal

abbrev pub invariant-loop-index : goal.invariant-loop-index
invariant-loop-index g l =
    let file = bytes_of l.file in
    let h = l.headers in
    let tests = λ (k : _). flat_map (symbol_tests l.image file h) (image_symbols_from file (image_strings file h) h.pointer_to_symbol_table k (l.held - k) 0) in
    (l.findings.items ++ standing (tests l.index) ≡ l.fn.findings.items ++ standing (tests 0))
    × (standing (tests l.index) ≢ [] → standing (tests 0) ≢ [])
    × (l.index ≤ l.held)

abbrev pub decreases-loop-index : goal.decreases-loop-index
decreases-loop-index g l = l.held - l.index
