use Rattle.std.proofs.Common.{◌∙◌, ◌<◌, Some, ap, sym}
use Rattle.pe_view.specs.View.{bytes_of}
use Rattle.pe_records.specs.BoundImports.{bound_import_at}
use Rattle.pe_records.specs.Callbacks.{callback_count}
use Rattle.pe_records.proofs.Rows.{made_at, made_none}
use Rattle.pe_records.proofs.bound_imports.BoundImports.get.Goals as goal

pub returns-then-index-self : goal.returns-then-index-self
returns-then-index-self c =
    let r = c.args.self.now in
    let counted = r.counted in
    let past = c.if-index-self.true in
    sym (made_none (bound_import_at (bytes_of r.table)) (callback_count 8 (bytes_of r.table)) c.args.index (rw counted at past))

pub returns : goal.returns
returns c =
    let r = c.args.self.now in
    let counted = r.counted in
    let lt : c.args.index < r.count = c.if-index-self.false in
    ap Some (c.bound_import.ensures ∙ ap (bound_import_at (bytes_of r.table)) c.from.ensures)
    ∙ sym (made_at (bound_import_at (bytes_of r.table)) (callback_count 8 (bytes_of r.table)) c.args.index (rw counted at lt))
