-- The set is checked by the entries that are read.
use Rattle.std.proofs.Common.{◌≡◌, List, length, inl, inr, subst, arith}
use Rattle.std.proofs.lemmas.Bool.{cases_lt}
use Rattle.std.proofs.lemmas.List.{length-map}
use Rattle.std.specs.Prelude.{map}
use Rattle.pe_set.specs.Set.{Entry}
use Rattle.pe_set.specs.SetErrors.{set_error, SetAnswers}
use Rattle.pe_set.specs.SetView.{entries_of, IsAcceptedFrom}
use Rattle.pe_set.specs.declared.entry.Policy.{Policy}
use Rattle.pe_records_c.specs.SetRows.{entry_text, policy_of}
use Rattle.pe_records_c.proofs.Counted.{answer_counts, none_put, memory_counts}
use Rattle.pe_records_c.proofs.set.judged.Goals as goal

pub returns-clause-exact : goal.returns-clause-exact
returns-clause-exact c =
    let set = entries_of c.put_entries.result.now in
    let known = subst (λ (p : Policy). SetAnswers (set_error p set) (IsAcceptedFrom set) c.judge.result) c.policy_of.ensures c.judge.ensures.exact in
    let counts = subst (λ (es : List Entry). SetAnswers (set_error (policy_of c.args.known) es) (IsAcceptedFrom es) c.judge.result) c.put_entries.ensures known in
    answer_counts (policy_of c.args.known) (λ es accepted. IsAcceptedFrom es accepted) (c.errors_count_class_by_class.ensures.names (policy_of c.args.known)) (c.accepted_sets_have_no_fault.ensures.names (policy_of c.args.known))
    (map entry_text c.args.set.now) c.judge.result counts

pub returns-clause-named : goal.returns-clause-named
returns-clause-named c wants = memory_counts (map entry_text c.args.set.now) (rw c.put_entries.ensures at c.judge.ensures.named wants)

pub returns-clause-not_empty : goal.returns-clause-not_empty
returns-clause-not_empty c wants =
    let set = c.args.set.now in
    elim (cases_lt 0 (length set)) [
      | inl some ↦ some
      | inr few ↦
          let none : length (map entry_text set) ≡ 0 = omega (arith, few, length-map set entry_text) in
          absurd (c.judge.ensures.no_memory (inl (none_put c.put_entries.result.now (map entry_text set) c.put_entries.ensures none)) wants)
    ]
