-- The appended bytes are those of the run.
use Rattle.std.proofs.Common.{◌∙◌, ◌+◌, ◌-◌, ◌++◌, List, ℕ, Bool, cond, take, ap, sym, arith}
use Rattle.std.specs.Prelude.{replicate, vec_len}
use Rattle.std.proofs.lemmas.List.{take_all}
use Rattle.pe_view.specs.Number.{part}
use Rattle.pe_layout.specs.Layout.{headers_of, file_of, image_of}
use Rattle.pe_layout.proofs.Runs.{raw_beginning, push_step, on_ok}
use Rattle.pe_layout.proofs.layout.Layout.push_run.Goals as goal

pub returns-in-Raw-clause-first : goal.returns-in-Raw-clause-first
unfolding image_of
returns-in-Raw-clause-first g c = on_ok _ _ (λ ok.
    let old = c.args.bytes.now.items in
    let l = c.args.self.now in
    let bytes = rw c.unwrap.ensures at c.slice.ensures.value in
    push_step (image_of l).byte old c.unwrap.result.now c.extend_from_slice.new.self.items c.len.result c.in-Raw.len (let len = c.args.bytes.now.ok.0 in let here = c.len.ensures in omega (arith, len, here)) c.requires.first
    (raw_beginning (headers_of l) (file_of l) c.len.result c.in-Raw.file c.in-Raw.len c.in-Raw.len c.in-Raw.ensures (omega arith) ∙ ap (part (file_of l) c.in-Raw.file) (sym c.from.ensures) ∙ sym bytes)
    (c.extend_from_slice.ensures.items ∙ ap (λ (b : Bool). cond b (old ++ c.unwrap.result.now) old) ok))

pub returns-in-Zeros-clause-first : goal.returns-in-Zeros-clause-first
unfolding image_of
returns-in-Zeros-clause-first g c = on_ok _ _ (λ ok.
    let old = c.args.bytes.now.items in
    let l = c.args.self.now in
    let n = c.in-Zeros.len in
    push_step (image_of l).byte old (replicate n 0) c.resize.new.self.items c.len.result n (let len = c.args.bytes.now.ok.0 in let here = c.len.ensures in omega (arith, len, here)) c.requires.first c.in-Zeros.ensures.bytes_are
    (c.resize.ensures.items ∙ ap (λ (b : Bool). cond b (take (c.len-in-Zeros.result + n) old ++ replicate (c.len-in-Zeros.result + n - vec_len c.args.bytes.now) 0) old) ok
    ∙ ap (λ (xs : List ℕ). xs ++ replicate (c.len-in-Zeros.result + n - vec_len c.args.bytes.now) 0) (take_all (c.len-in-Zeros.result + n) old (let len = c.args.bytes.now.ok.0 in let here = c.len-in-Zeros.ensures in omega (arith, len, here)))
    ∙ ap (λ (m : ℕ). old ++ replicate m 0) (let here = c.len-in-Zeros.ensures in omega (arith, here))))
