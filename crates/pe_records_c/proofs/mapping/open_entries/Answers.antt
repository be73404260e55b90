use Rattle.std.specs.Prelude.{map}
use Rattle.pe_records_c.specs.SetRows.{entry_text}
use Rattle.pe_records_c.specs.Spaces.{IsOwnSpaceOf}
use Rattle.pe_records_c.proofs.Counted.{answer_counts, memory_counts}
use Rattle.pe_records_c.proofs.mapping.open_entries.Goals as goal

pub returns-clause-exact : goal.returns-clause-exact
returns-clause-exact c =
    answer_counts c.args.policy (λ es owner. IsOwnSpaceOf c.args.policy es owner.value) (c.errors_count_class_by_class.ensures.names c.args.policy) (c.accepted_sets_have_no_fault.ensures.names c.args.policy)
    (map entry_text c.args.rows.now) c.open_counted.result c.open_counted.ensures.exact

pub returns-clause-named : goal.returns-clause-named
returns-clause-named c wants = memory_counts (map entry_text c.args.rows.now) (c.open_counted.ensures.named wants)
