use Rattle.std.proofs.Common.{◌≡◌, ◌++◌}
use Rattle.std.specs.List.{flat_map, range_with_len}
use Rattle.pe_view.specs.View.{bytes_of}
use Rattle.pe_view.specs.Standing.{standing}
use Rattle.pe_layout.specs.Layout.{image_of}
use Rattle.pe_records.specs.BoundImportTests.{record_tests}
use Rattle.pe_records.proofs.bound_finding.find_records.Given as goal

abbrev pub invariant-loop-index : goal.invariant-loop-index
invariant-loop-index g l =
    l.findings.items ≡ l.fn.findings.items ++ standing (flat_map (record_tests (image_of l.layout) l.imports.start (bytes_of l.imports.table)) (range_with_len 0 l.index))
