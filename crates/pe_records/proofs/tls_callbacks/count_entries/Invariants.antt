use Rattle.std.proofs.Common.{◌≡◌, ◌-◌, ◌/◌}
use Rattle.pe_view.specs.View.{bytes_of, size_of}
use Rattle.pe_records.specs.Callbacks.{callback_count, entry_at, first_zero}
use Rattle.pe_records.specs.Structure.{address_width}
use Rattle.pe_records.proofs.tls_callbacks.count_entries.Given as goal

abbrev pub invariant-loop-index : goal.invariant-loop-index
invariant-loop-index l =
    let address = address_width l.is_plus in
    callback_count address (bytes_of l.bytes) ≡ first_zero (entry_at address (bytes_of l.bytes)) l.index (size_of l.bytes / address - l.index)
