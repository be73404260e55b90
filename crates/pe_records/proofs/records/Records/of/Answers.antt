use Rattle.std.proofs.Common.{◌≡◌, ◌∙◌, ◌/◌, ◌≤◌, ℕ, length, ap, sym, arith}
use Rattle.std.proofs.lemmas.List.{length-take-le}
use Rattle.pe_view.specs.View.{size_of}
use Rattle.pe_layout.specs.Layout.{size_small}
use Rattle.pe_records.proofs.records.Records.of.Goals as goal

pub invariant_of-result-2 : goal.invariant_of-result-2
invariant_of-result-2 g c =
    let held = c.raw_bytes-held.result.now in
    let le : c.min-len.result ≤ length held = omega (arith, c.min-len.ensures) in
    let size : size_of c.new-2.result ≡ c.min-len.result = ap (λ (xs : _). length xs) c.new-2.ensures ∙ length-take-le c.min-len.result held le in
    let small = size_small c.args.layout.now in
    let inside = c.raw_bytes-held.ensures.inside in
    record {
      counted = ap (λ (n : ℕ). c.min-len.result / n) c.LEN.ensures ∙ ap (λ (n : ℕ). n / g.R.Record.LEN) (sym size);
      inside = λ some. omega (arith, some, size, le, small, inside);
    }
