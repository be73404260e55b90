use Rattle.std.proofs.Common.{◌∙◌, ℕ, List, length, sym, ap, arith}
use Rattle.std.specs.Prelude.{Option}
use Rattle.pe_trust.specs.Names.{behind_set, common_name_of, or_other}
use Rattle.pe_trust.proofs.NameSets.{fewer_left, name_step}
use Rattle.pe_trust.proofs.name.common_name.Goals as goal

pub returns-in-Some-common_name_in : goal.returns-in-Some-common_name_in
returns-in-Some-common_name_in c =
    let sets = c.loop-set.sets.now in
    ap (λ (o : Option (List ℕ)). or_other o (common_name_of (behind_set sets))) c.in-Some-common_name_in.ensures
    ∙ sym (name_step sets c.in-Some.set.now c.in-Some.ensures)
    ∙ c.loop-set.invariant

pub loop-set-smaller : goal.loop-set-smaller
loop-set-smaller c =
    let less = fewer_left c.loop-set.sets.now c.in-Some.set.now c.in-Some.ensures in
    let rest = ap length c.behind_set-sets.ensures in
    omega (arith, less, rest)

pub loop-set-preserved : goal.loop-set-preserved
loop-set-preserved c =
    let sets = c.loop-set.sets.now in
    ap common_name_of c.behind_set-sets.ensures
    ∙ ap (λ (o : Option (List ℕ)). or_other o (common_name_of (behind_set sets))) c.in_default-common_name_in.ensures
    ∙ sym (name_step sets c.in-Some.set.now c.in-Some.ensures)
    ∙ c.loop-set.invariant
