use Rattle.std.proofs.Common.{◌∙◌, sym}
use Rattle.std.proofs.lemmas.List.FromFn.{length-map-range_with_len}
use Rattle.pe_view.specs.View.{bytes_of}
use Rattle.pe_records.specs.Callbacks.{callback_count, entry_at}
use Rattle.pe_records.specs.Structure.{address_width}
use Rattle.pe_records.proofs.tls_callbacks.TlsCallbacks.len.Goals as goal

pub returns : goal.returns
returns c =
    let r = c.args.self.now in
    r.counted ∙ sym (length-map-range_with_len (entry_at (address_width r.is_plus) (bytes_of r.bytes)) 0 (callback_count (address_width r.is_plus) (bytes_of r.bytes)))
