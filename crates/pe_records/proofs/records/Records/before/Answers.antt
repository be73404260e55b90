use Rattle.std.proofs.Common.{◌∙◌, ◌*◌, ◌/◌, ◌-◌, ◌<◌, ℕ, sym, arith}
use Rattle.pe_view.specs.View.{bytes_of, size_of}
use Rattle.pe_records.proofs.Rows.{before_some, made_at}
use Rattle.pe_records.proofs.records.Records.before.Goals as goal

pub returns : goal.returns
returns g c =
    let r = c.args.self.now in
    let counted = r.counted in
    let lt : c.args.index - 1 < r.count = omega arith in
    c.get.ensures
    ∙ made_at (λ (k : ℕ). g.R.Record.record_at (bytes_of r.table) (g.R.Record.LEN * k)) (size_of r.table / g.R.Record.LEN) (c.args.index - 1) (rw counted at lt)
    ∙ sym (before_some g.R.Record.record_at g.R.Record.LEN (bytes_of r.table) c.args.index c.if-index-eq0.false)
