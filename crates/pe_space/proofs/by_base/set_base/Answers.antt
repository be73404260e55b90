use Rattle.std.proofs.Common.{◌≡◌, ◌∙◌, ◌<◌, Bool, cond, List, length, get_or, refl, ap, sym, arith}
use Rattle.std.proofs.lemmas.List.{get_or-set_same, get_or-set_other, get_or_default}
use borrow.Author.Tests.{eq-eqb, ne_eqb}
use Rattle.pe_space.specs.ByBase.{with_base}
use Rattle.pe_space.specs.declared.by_base.NumberAt.{NumberAt}
use Rattle.pe_space.proofs.Ordering.{changed_more, changed_all}
use Rattle.pe_space.proofs.by_base.set_base.Goals as goal
use Rattle.pe_space.proofs.by_base.set_base.Goals.{then-at-number, else-at-number}

nowhere : NumberAt
nowhere = record { base = 0; number = 0 }

pub loop-at-init : goal.loop-at-init
loop-at-init c = record { count = refl; changed = λ k d lt. absurd (omega (arith, lt)); left = λ k d le. refl }

pub loop-at-preserved : goal.loop-at-preserved
unfolding nowhere
loop-at-preserved c =
    let k = c.loop-at.at-index in
    let xs = c.loop-at.at-items in
    let lt : k < length xs = omega (arith, c.loop-at-test.true, c.loop-at.auto.at-items) in
    changed_more (with_base c.args.number c.args.base) c.args.order.now xs c.if-at-number.at-items k c.loop-at.invariant c.if-at-number.auto.at-items
    (λ d.
    let same : get_or xs k nowhere ≡ get_or xs k d = get_or_default xs k nowhere d lt in
    elim c.if-at-number.branch [
      | then-at-number w ↦
          ap (λ (ys : List NumberAt). get_or ys k d) w.at-items-is ∙ get_or-set_same xs k _ d lt
          ∙ ap (λ (e : NumberAt). record { base = c.args.base; number = e.number }) same
          ∙ sym (ap (λ (b : Bool). cond b (record (get_or xs k d) { base = c.args.base }) (get_or xs k d)) (eq-eqb _ _ (ap (λ (e : NumberAt). e.number) (sym same) ∙ w.if-at-number.true)))
      | else-at-number w ↦
          ap (λ (ys : List NumberAt). get_or ys k d) w.at-items-is ∙ get_or-set_same xs k _ d lt ∙ same
          ∙ sym (ap (λ (b : Bool). cond b (record (get_or xs k d) { base = c.args.base }) (get_or xs k d)) (ne_eqb _ _ (λ is. w.if-at-number.false (ap (λ (e : NumberAt). e.number) same ∙ is))))
    ])
    (λ j d other. elim c.if-at-number.branch [
      | then-at-number w ↦ ap (λ (ys : List NumberAt). get_or ys j d) w.at-items-is ∙ get_or-set_other xs k j _ d other
      | else-at-number w ↦ ap (λ (ys : List NumberAt). get_or ys j d) w.at-items-is ∙ get_or-set_other xs k j _ d other
    ])

pub returns : goal.returns
returns c = changed_all (with_base c.args.number c.args.base) c.args.order.now c.loop-at.at-items c.loop-at.at-index c.loop-at.invariant c.loop-at-test.false
