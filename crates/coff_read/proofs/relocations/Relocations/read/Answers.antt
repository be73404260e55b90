-- One relocation more.
use Rattle.std.proofs.Common.{◌+◌, ◌*◌, ℕ, sym, zero-add}
use Rattle.std.proofs.lemmas.List.FromFn.{map-range_with_len_more}
use Rattle.pe_view.specs.View.{bytes_of}
use Rattle.coff_read.specs.Reading.{relocation_at}
use Rattle.coff_read.proofs.relocations.Relocations.read.Goals as goal

pub loop-k-preserved : goal.loop-k-preserved
loop-k-preserved g c =
    rw (c.in_ok-push.ensures.items, c.loop-k.invariant, c.relocation_at.ensures)
    (sym (map-range_with_len_more (λ (k : ℕ). relocation_at (bytes_of c.args.self.view) (c.args.self.start + 10 * k)) 0 c.loop-k.k c.loop-k.k (zero-add _)))
