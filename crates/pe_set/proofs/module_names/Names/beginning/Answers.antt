-- All of a name, or one byte more than the longest has.
use Rattle.std.proofs.Common.{◌≡◌, ◌∙◌, ◌+◌, ℕ, length, take, sym, ap, arith, inl, inr}
use Rattle.std.proofs.lemmas.Bool.{cases_lt}
use Rattle.std.proofs.lemmas.List.{take_all}
use Rattle.pe_set.proofs.module_names.Names.beginning.Goals as goal

pub returns : goal.returns
returns g c =
    let name = c.args.name.now in
    let more : ℕ = c.args.self.now.longest + 1 in
    let least = c.min.ensures in
    let one = c.saturating_add.ensures in
    elim (cases_lt more (length name)) [
      | inl long ↦ ap (λ (n : ℕ). take n name) (let is : c.min.result ≡ more = omega (arith, least, one, long) in is)
      | inr short ↦ take_all c.min.result name (omega (arith, least, one, short)) ∙ sym (take_all more name short)
    ]
