-- The exports of lesser ordinals come before all others.
use Rattle.std.proofs.Common.{◌≡◌, ℕ, refl, arith, rules, inl, inr}
use Rattle.std.specs.Prelude.{nat_lt}
use Rattle.std.specs.List.Sorted.{IsPartitionedBy}
use Rattle.std.proofs.lemmas.Bool.{cases_lt, ltb-true, ltb-false, lt-ltb}
use Rattle.std.proofs.lemmas.List.Sorted.{IsPartitionPoint-from_clause}
use Rattle.pe_tables.specs.declared.key.Target.{Target}
use Rattle.pe_tables.proofs.export_lookup.first_from.Goals as goal

pub returns-clause-before : goal.returns-clause-before
returns-clause-before c = λ k e lt.
    let parted : IsPartitionedBy (λ (x : ℕ × Target). nat_lt x.0 c.args.ordinal) c.args.exports.now = λ i j d le below test. (let b = ltb-true _ _ test in elim (cases_lt i j) [
      | inl less ↦ (let a = c.requires i j d less below in lt-ltb _ _ (omega arith))
      | inr not_less ↦ (let same : j ≡ i = omega arith in rw same at test)
    ]) in
    let point = IsPartitionPoint-from_clause (λ (x : ℕ × Target). nat_lt x.0 c.args.ordinal) _ _ c.partition_point.ensures.partitioned parted (λ a r q k. search rules) in
    ltb-true _ _ (point.0 k e (omega arith) lt)

pub returns-clause-after : goal.returns-clause-after
returns-clause-after c = λ k e le lt.
    let parted : IsPartitionedBy (λ (x : ℕ × Target). nat_lt x.0 c.args.ordinal) c.args.exports.now = λ i j d le below test. (let b = ltb-true _ _ test in elim (cases_lt i j) [
      | inl less ↦ (let a = c.requires i j d less below in lt-ltb _ _ (omega arith))
      | inr not_less ↦ (let same : j ≡ i = omega arith in rw same at test)
    ]) in
    let point = IsPartitionPoint-from_clause (λ (x : ℕ × Target). nat_lt x.0 c.args.ordinal) _ _ c.partition_point.ensures.partitioned parted (λ a r q k. search rules) in
    ltb-false _ _ (point.1 k e le lt)

pub returns-then-has_ordinal-clause-before : goal.returns-then-has_ordinal-clause-before
returns-then-has_ordinal-clause-before c = λ k e lt.
    let within = c.if-has_ordinal.ensures.within refl in
    let same = c.if-has_ordinal.ensures.same refl e in
    let less = c.requires k c.guess_of-guess.result e lt within in
    omega arith
