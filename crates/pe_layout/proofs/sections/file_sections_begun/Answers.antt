-- The rows of the sections that begin at or before an RVA come first.
use Rattle.std.proofs.Common.{rules, arith, []}
use Rattle.std.proofs.lemmas.List.Sorted.{IsPartitionPoint-from_clause}
use Rattle.pe_head.specs.Checked.{checked_file}
use Rattle.pe_head.specs.Head.{coff_field}
use Rattle.pe_layout.proofs.Begun.{count_of, row_begins_by, parted_rows, row_begun, row_later}
use Rattle.pe_layout.proofs.sections.file_sections_begun.Goals as goal

pub returns-clause-before : goal.returns-clause-before
returns-clause-before c = λ k s lt.
    let file = checked_file c.args.headers.now in
    let n = coff_field file 2 2 in
    let rows = c.rows.result.now in
    let count = c.rows.ensures.count in
    let all = c.rows.ensures.sections in
    let bound = c.partition_point.ensures.bound in
    let point = IsPartitionPoint-from_clause (row_begins_by c.args.rva) _ _ c.partition_point.ensures.partitioned (parted_rows file rows n count all c.requires c.args.rva) (λ a r q k. search rules) in
    row_begun file rows n count all c.args.rva k s (omega (arith, lt, bound, count)) (point.0 k [] (omega (arith, lt, bound)) lt)

pub returns-clause-after : goal.returns-clause-after
returns-clause-after c = λ k s le lt.
    let file = checked_file c.args.headers.now in
    let n = coff_field file 2 2 in
    let rows = c.rows.result.now in
    let count = c.rows.ensures.count in
    let all = c.rows.ensures.sections in
    let point = IsPartitionPoint-from_clause (row_begins_by c.args.rva) _ _ c.partition_point.ensures.partitioned (parted_rows file rows n count all c.requires c.args.rva) (λ a r q k. search rules) in
    row_later file rows n count all c.args.rva k s (omega (arith, lt, count_of file)) (point.1 k [] le (omega (arith, lt, count, count_of file)))
