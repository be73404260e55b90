-- A search by halves finds where the ranges that start below an RVA end.
use Rattle.std.proofs.Common.{◌≡◌, ℕ, arith, rules, inl, inr}
use Rattle.std.specs.Prelude.{nat_lt}
use Rattle.std.specs.List.Sorted.{IsPartitionedBy}
use Rattle.std.proofs.lemmas.Bool.{cases_lt, ltb-true, lt-ltb}
use Rattle.std.proofs.lemmas.List.Sorted.{IsPartitionPoint-from_clause}
use Rattle.pe_ranges.proofs.Runs.{filter-front}
use Rattle.pe_ranges.proofs.ranges.search_below.Goals as goal

pub returns-clause-these : goal.returns-clause-these
returns-clause-these c =
    let parted : IsPartitionedBy (λ (x : ℕ × ℕ). nat_lt x.0 c.args.rva) c.args.run.now = λ i j d le below test. (let b = ltb-true _ _ test in elim (cases_lt i j) [
      | inl less ↦ (let a = c.requires i j d less below in let first = a.0 in lt-ltb _ _ (omega arith))
      | inr not_less ↦ (let same : j ≡ i = omega arith in rw same at test)
    ]) in
    let point = IsPartitionPoint-from_clause (λ (x : ℕ × ℕ). nat_lt x.0 c.args.rva) _ _ c.partition_point.ensures.partitioned parted (λ a r q k. search rules) in
    filter-front (λ (range : ℕ × ℕ). nat_lt range.0 c.args.rva) c.args.run.now c.partition_point.result
    (λ i d lt within. point.0 i d (omega arith) lt)
    (λ i d le within. point.1 i d le within)
