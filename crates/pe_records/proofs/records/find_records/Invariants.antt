use Rattle.std.proofs.Common.{◌≡◌, ◌++◌}
use Rattle.std.specs.List.{flat_map, range_with_len}
use Rattle.pe_view.specs.View.{bytes_of}
use Rattle.pe_view.specs.Standing.{standing}
use Rattle.pe_layout.specs.Layout.{image_of}
use Rattle.pe_records.specs.TableTests.{record_tests}
use Rattle.pe_records.proofs.records.find_records.Given as goal

abbrev pub invariant-loop-index : goal.invariant-loop-index
invariant-loop-index g l =
    let R = g.R.Record in
    l.findings.items
    ≡ l.fn.findings.items
    ++ standing (flat_map (record_tests R.record_at R.tests R.LEN (image_of l.layout) (bytes_of l.file) (bytes_of l.records.table) l.records.start) (range_with_len 0 l.index))
