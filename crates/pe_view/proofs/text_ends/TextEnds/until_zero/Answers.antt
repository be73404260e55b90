-- The first zero byte is among the first bytes, or `zero_from` finds it or that there is none.
use Rattle.std.proofs.Common.{◌≡◌, ◌+◌, ◌-◌, ℕ, List, Option, None, Some, length, sym, ap, ◌∙◌, arith}
use Rattle.std.specs.Prelude.{option_map, IsSome, IfSome}
use Rattle.std.specs.Borrow.{Bor}
use Rattle.pe_view.specs.View.{bytes_of}
use Rattle.pe_view.specs.Number.{part}
use Rattle.pe_view.proofs.Zeros.{found, text_at, no_text_at}
use Rattle.pe_view.proofs.text_ends.TextEnds.until_zero.Goals as goal

pub returns-in-Some-clause-text : goal.returns-in-Some-clause-text
returns-in-Some-clause-text g c =
    let file = bytes_of c.args.view in
    let o : ℕ = c.args.offset in
    let text = c.in-Some.text.now in
    let long = c.if-end-offset-lt-SHORT.false in
    let low = c.if-end-offset.false in
    let inside = c.if-end-len.false in
    let size = c.len.ensures in
    let f = found file o (o + 256) (omega (arith, long, low, inside, size)) text (omega arith) (sym c.until_zero-2.ensures ∙ ap (option_map (λ bytes. bytes.now)) c.in-Some.is) in
    let short = f.short in
    let len : o + length text - o ≡ length text = omega arith in
    ap (λ (t : List ℕ). Some t) (f.taken ∙ ap (part file o) (sym len))
    ∙ sym (text_at file o c.args.end (omega (arith, inside, size)) (o + length text) (omega arith) (omega (arith, short, long, low)) f.none f.zero_behind)

pub returns-then-zero-end-clause-text : goal.returns-then-zero-end-clause-text
returns-then-zero-end-clause-text g c =
    let inside = c.if-end-len.false in
    let size = c.len.ensures in
    sym (no_text_at (bytes_of c.args.view) c.args.offset c.args.end (omega (arith, inside, size)) c.zero_from-zero.result c.if-end-offset.false c.if-zero-end.true c.zero_from-zero.ensures.none)

some_value : (o : Option (Bor (List ℕ))) (bytes : List ℕ) → IsSome o → IfSome o (λ x. x.now ≡ bytes) → option_map (λ x. x.now) o ≡ Some bytes
some_value None bytes some is = absurd cc
some_value (Some x) bytes some is = ap (λ (t : List ℕ). Some t) is

pub returns-clause-text : goal.returns-clause-text
returns-clause-text g c =
    let inside = c.if-end-len.false in
    let size = c.len.ensures in
    let lt = c.if-zero-end.false in
    let from = c.zero_from-zero.ensures.from in
    some_value c.slice.result _ (c.slice.ensures.inside.1 (omega (arith, inside, size, lt, from))) c.slice.ensures.value
    ∙ sym (text_at (bytes_of c.args.view) c.args.offset c.args.end (omega (arith, inside, size)) c.zero_from-zero.result from lt c.zero_from-zero.ensures.none (c.zero_from-zero.ensures.zero lt))
