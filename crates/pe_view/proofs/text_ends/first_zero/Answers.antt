-- Where a string ends, or that none ends.
use Rattle.std.proofs.Common.{◌≡◌, ◌+◌, ℕ, length, sym, ap, ◌∙◌, arith, inl, inr}
use Rattle.std.specs.Prelude.{option_map}
use Rattle.std.proofs.lemmas.Bool.{cases_eq}
use Rattle.pe_view.specs.View.{bytes_of}
use Rattle.pe_view.specs.Number.{byte_of}
use Rattle.pe_view.proofs.Zeros.{found, not_found}
use Rattle.pe_view.proofs.text_ends.first_zero.Goals as goal

pub returns-in-Some-clause-behind : goal.returns-in-Some-clause-behind
returns-in-Some-clause-behind c =
    let file = bytes_of c.args.view in
    let o : ℕ = c.args.offset in
    let text = c.in-Some.text.now in
    let before = c.requires.before in
    let f = found file o c.args.end c.requires.inside text (omega (arith, before)) (sym c.until_zero.ensures ∙ ap (option_map (λ bytes. bytes.now)) c.in-Some.is) in
    elim (cases_eq (length text) 0) [
      | inl none ↦
          (let here : o + length text ≡ o = omega (arith, none) in
          absurd (c.requires.nonzero (ap (byte_of file) (sym here) ∙ f.zero_behind)))
      | inr some ↦ omega (arith, some)
    ]

pub returns-in-Some-clause-none : goal.returns-in-Some-clause-none
returns-in-Some-clause-none c =
    let before = c.requires.before in
    (found (bytes_of c.args.view) c.args.offset c.args.end c.requires.inside c.in-Some.text.now (omega (arith, before)) (sym c.until_zero.ensures ∙ ap (option_map (λ bytes. bytes.now)) c.in-Some.is)).none

pub returns-in-None-clause-none : goal.returns-in-None-clause-none
returns-in-None-clause-none c =
    let before = c.requires.before in
    not_found (bytes_of c.args.view) c.args.offset c.args.end c.requires.inside (omega (arith, before)) (sym c.until_zero.ensures ∙ ap (option_map (λ bytes. bytes.now)) c.in-None.is)
