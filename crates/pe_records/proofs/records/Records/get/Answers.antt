use Rattle.std.proofs.Common.{◌≡◌, ◌∙◌, ◌*◌, ◌/◌, ◌<◌, ℕ, Some, ap, sym}
use Rattle.pe_view.specs.View.{bytes_of, size_of}
use Rattle.pe_records.proofs.Rows.{made_at, made_none}
use Rattle.pe_records.proofs.records.Records.get.Goals as goal

pub returns-then-index-self : goal.returns-then-index-self
returns-then-index-self g c =
    let r = c.args.self.now in
    let past = c.if-index-self.true in
    let counted = r.counted in
    sym (made_none (λ (k : ℕ). g.R.Record.record_at (bytes_of r.table) (g.R.Record.LEN * k)) (size_of r.table / g.R.Record.LEN) c.args.index (rw counted at past))

pub returns : goal.returns
returns g c =
    let r = c.args.self.now in
    let counted = r.counted in
    let lt : c.args.index < r.count = c.if-index-self.false in
    let offset : c.from.result ≡ g.R.Record.LEN * c.args.index = c.from.ensures ∙ ap (λ (n : ℕ). n * c.args.index) c.LEN.ensures in
    ap Some (c.read.ensures ∙ ap (g.R.Record.record_at (bytes_of r.table)) offset)
    ∙ sym (made_at (λ (k : ℕ). g.R.Record.record_at (bytes_of r.table) (g.R.Record.LEN * k)) (size_of r.table / g.R.Record.LEN) c.args.index (rw counted at lt))
