-- The names with lower indexes come first.
use Rattle.std.proofs.Common.{◌≡◌, ℕ, List, arith, rules, inl, inr}
use Rattle.std.specs.Prelude.{nat_lt}
use Rattle.std.specs.List.Sorted.{IsPartitionedBy}
use Rattle.std.proofs.lemmas.Bool.{cases_lt, ltb-true, ltb-false, lt-ltb}
use Rattle.std.proofs.lemmas.List.Sorted.{IsPartitionPoint-from_clause}
use denote.Bor.{Bor}
use Rattle.pe_page.proofs.symbol_names.first_from.Goals as goal

pub returns-clause-point : goal.returns-clause-point
returns-clause-point c =
    let parted : IsPartitionedBy (λ (x : ℕ × Bor (List ℕ)). nat_lt x.0 c.args.index) c.args.names.now = λ i j d le below test. (let b = ltb-true _ _ test in elim (cases_lt i j) [
      | inl less ↦ (let a = c.requires i j d less below in lt-ltb _ _ (omega arith))
      | inr not_less ↦ (let same : j ≡ i = omega arith in rw same at test)
    ]) in
    let point = IsPartitionPoint-from_clause (λ (x : ℕ × Bor (List ℕ)). nat_lt x.0 c.args.index) _ _ c.partition_point.ensures.partitioned parted (λ a r q k. search rules) in
    (λ k e low lt. ltb-true _ _ (point.0 k e low lt), λ k e low lt. ltb-false _ _ (point.1 k e low lt))
