use Rattle.std.proofs.Common.{ℕ, ◌≡◌, ◌+◌, ◌-◌, ◌≤◌, List, ◌++◌, take, drop, length, length-take, length-drop, arith, sym, ◌∙◌, ap}
use Rattle.std.proofs.Math.Seq.{take-add, take-append_seam}
use Rattle.pe_vectors.proofs.devices.StepReaderSource.read.Goals as goal

-- the next `count` bytes are those that were copied to the buffer's beginning
given_more : (given count : ℕ) (bytes copied rest : List ℕ) → given + count ≤ length bytes → copied ≡ take (given + count - given) (drop given bytes) → take (given + count) bytes ≡ take given bytes ++ take count (copied ++ rest)
given_more given count bytes copied rest within same =
    let size : given + count - given ≡ count = omega arith in
    let next : copied ≡ take count (drop given bytes) = rw size at same in
    let len : length copied ≡ count = ap length next ∙ simp (length-take, length-drop) (omega arith) in
    rw (take-add, ← next) (ap (λ (xs : List ℕ). take given bytes ++ xs) (sym (rw len at (take-append_seam {A = ℕ} copied rest))))

pub returns-clause-given : goal.returns-clause-given
returns-clause-given c = let h = c.copy_from_slice.ensures.after in given_more _ _ _ _ _ (omega arith) h
