-- The sections that begin at or before an RVA come first.
use Rattle.std.proofs.Common.{rules, arith}
use Rattle.std.proofs.lemmas.Bool.{leb-true, leb-false}
use Rattle.std.proofs.lemmas.List.Sorted.{IsPartitionPoint-from_clause}
use Rattle.pe_layout.proofs.Begun.{begins_by, parted}
use Rattle.pe_layout.proofs.sections.sections_begun.Goals as goal

pub returns-clause-before : goal.returns-clause-before
returns-clause-before c = λ k s lt.
    let bound = c.partition_point.ensures.bound in
    let point = IsPartitionPoint-from_clause (begins_by c.args.rva) _ _ c.partition_point.ensures.partitioned (parted _ c.requires c.args.rva) (λ a r q k. search rules) in
    leb-true _ _ (point.0 k s (omega (arith, lt, bound)) lt)

pub returns-clause-after : goal.returns-clause-after
returns-clause-after c = λ k s le lt.
    let point = IsPartitionPoint-from_clause (begins_by c.args.rva) _ _ c.partition_point.ensures.partitioned (parted _ c.requires c.args.rva) (λ a r q k. search rules) in
    leb-false _ _ (point.1 k s le lt)
