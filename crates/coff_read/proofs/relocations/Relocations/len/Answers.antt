use Rattle.std.proofs.Common.{◌+◌, ◌*◌, ℕ, sym}
use Rattle.std.proofs.lemmas.List.FromFn.{length-map-range_with_len}
use Rattle.pe_view.specs.View.{bytes_of}
use Rattle.coff_read.specs.Reading.{relocation_at}
use Rattle.coff_read.proofs.relocations.Relocations.len.Goals as goal

pub returns-clause-value : goal.returns-clause-value
returns-clause-value c =
    let r = c.args.self.now in
    sym (length-map-range_with_len (λ (k : ℕ). relocation_at (bytes_of r.view) (r.start + 10 * k)) 0 r.count)
