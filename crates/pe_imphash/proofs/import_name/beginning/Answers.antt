use Rattle.std.proofs.Common.{◌≡◌, ◌∙◌, ℕ, length, take, sym, ap, arith, inl, inr}
use Rattle.std.proofs.lemmas.Bool.{cases_lt}
use Rattle.std.proofs.lemmas.List.{take_all}
use Rattle.pe_imphash.proofs.import_name.beginning.Goals as goal

pub returns-clause-value : goal.returns-clause-value
returns-clause-value c =
    let name = c.args.name.now in
    let least = c.min.ensures in
    elim (cases_lt 512 (length name)) [
      | inl long ↦ ap (λ (n : ℕ). take n name) (let is : c.min.result ≡ 512 = omega (arith, least, long) in is)
      | inr short ↦ take_all c.min.result name (omega (arith, least, short)) ∙ sym (take_all 512 name short)
    ]
