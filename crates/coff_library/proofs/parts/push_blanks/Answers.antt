-- The first of sixteen blanks.
use Rattle.std.proofs.Common.{◌++◌, ℕ, List, ap}
use Rattle.std.proofs.lemmas.List.{take-replicate}
use Rattle.coff_library.proofs.Loops.{on_ok_if}
use Rattle.coff_library.proofs.parts.push_blanks.Goals as goal

pub returns : goal.returns
returns g c = on_ok_if c.extend_from_slice.result _ _ _ _ c.extend_from_slice.ensures.items (ap (λ (bs : List ℕ). c.args.bytes.now.items ++ bs) (take-replicate c.args.count 16 32 c.requires))
