use Rattle.std.proofs.Common.{◌≡◌, ◌+◌, ◌*◌}
use Rattle.std.specs.Prelude.{map}
use Rattle.std.specs.List.{range_with_len}
use Rattle.pe_view.specs.View.{bytes_of}
use Rattle.coff_read.specs.Reading.{relocation_at}
use Rattle.coff_read.proofs.relocations.Relocations.read.Given as goal

abbrev pub invariant-loop-k : goal.invariant-loop-k
invariant-loop-k g l = l.list.items ≡ map (λ k. relocation_at (bytes_of l.self.view) (l.self.start + 10 * k)) (range_with_len 0 l.k)
