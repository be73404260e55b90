use Rattle.std.proofs.Common.{◌∙◌, ◌*◌, ◌/◌, ℕ, sym}
use Rattle.std.proofs.lemmas.List.FromFn.{length-map-range_with_len}
use Rattle.pe_view.specs.View.{bytes_of, size_of}
use Rattle.pe_records.proofs.records.Records.len.Goals as goal

pub returns : goal.returns
returns g c =
    let r = c.args.self.now in
    r.counted ∙ sym (length-map-range_with_len (λ (k : ℕ). g.R.Record.record_at (bytes_of r.table) (g.R.Record.LEN * k)) 0 (size_of r.table / g.R.Record.LEN))
