use Rattle.std.proofs.Common.{◌≡◌, ◌++◌}
use Rattle.std.specs.List.{flat_map, range_with_len}
use Rattle.pe_view.specs.Standing.{standing}
use Rattle.pe_layout.specs.Layout.{image_of}
use Rattle.pe_records.specs.Callbacks.{entry_tests}
use Rattle.pe_records.specs.CallbackView.{callback_table}
use Rattle.pe_records.proofs.tls_finding.find_entries.Given as goal

abbrev pub invariant-loop-index : goal.invariant-loop-index
invariant-loop-index g l =
    l.findings.items ≡ l.fn.findings.items ++ standing (flat_map (entry_tests (image_of l.layout) (callback_table l.callbacks)) (range_with_len 0 l.index))
