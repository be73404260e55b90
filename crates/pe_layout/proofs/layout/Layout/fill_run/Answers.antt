-- What is written is the beginning of the run.
use Rattle.std.proofs.Common.{◌≡◌, ◌∙◌, ◌++◌, ap, sym, take, drop, length, length-take, List, ℕ, arith}
use Rattle.std.specs.Prelude.{replicate}
use Rattle.pe_layout.specs.Layout.{headers_of, file_of, image_of}
use Rattle.pe_layout.proofs.Runs.{raw_beginning, zero_beginning}
use Rattle.pe_layout.proofs.layout.Layout.fill_run.Goals as goal

pub returns-in-Raw-clause-filled : goal.returns-in-Raw-clause-filled
unfolding image_of
returns-in-Raw-clause-filled c =
    let l = c.args.self.now in
    let bytes = rw c.unwrap-bytes.ensures at c.slice.ensures.value in
    ap (λ (xs : List ℕ). xs ++ drop c.min-count.result c.args.buffer.now)
    (c.copy_from_slice.ensures.after ∙ bytes ∙ sym (raw_beginning (headers_of l) (file_of l) c.args.rva c.in-Raw.file c.in-Raw.len c.min-count.result c.in-Raw.ensures (omega arith)))

pub returns-in-Zeros-clause-filled : goal.returns-in-Zeros-clause-filled
unfolding image_of
returns-in-Zeros-clause-filled c =
    let l = c.args.self.now in
    let count : length (take c.min-count-in-Zeros.result c.args.buffer.now) ≡ c.min-count-in-Zeros.result = simp length-take (omega arith) in
    ap (λ (xs : List ℕ). xs ++ drop c.min-count-in-Zeros.result c.args.buffer.now)
    (c.fill.ensures.after (λ y e. e) ∙ ap (λ (n : ℕ). replicate n 0) count ∙ sym (zero_beginning (headers_of l) (file_of l) c.args.rva c.in-Zeros.len c.min-count-in-Zeros.result c.in-Zeros.ensures (omega arith)))
