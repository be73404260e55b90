use Rattle.std.proofs.Common.{◌∙◌, ◌<◌, Some, ap, sym}
use Rattle.pe_view.specs.View.{bytes_of}
use Rattle.pe_records.specs.Callbacks.{callback_count, entry_at}
use Rattle.pe_records.specs.Structure.{address_width}
use Rattle.pe_records.proofs.Rows.{made_at, made_none}
use Rattle.pe_records.proofs.tls_callbacks.TlsCallbacks.get.Goals as goal

pub returns-then-index-self : goal.returns-then-index-self
returns-then-index-self c =
    let r = c.args.self.now in
    let counted = r.counted in
    let past = c.if-index-self.true in
    sym (made_none (entry_at (address_width r.is_plus) (bytes_of r.bytes)) (callback_count (address_width r.is_plus) (bytes_of r.bytes)) c.args.index (rw counted at past))

pub returns : goal.returns
returns c =
    let r = c.args.self.now in
    let counted = r.counted in
    let lt : c.args.index < r.count = c.if-index-self.false in
    ap Some (c.entry.ensures ∙ ap (entry_at (address_width r.is_plus) (bytes_of r.bytes)) c.from.ensures)
    ∙ sym (made_at (entry_at (address_width r.is_plus) (bytes_of r.bytes)) (callback_count (address_width r.is_plus) (bytes_of r.bytes)) c.args.index (rw counted at lt))
