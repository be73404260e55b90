-- The imports of an accepted set that are bound to nothing, or its first error.
use Rattle.std.proofs.Common.{◌∙◌, ◌≤◌, ℕ, List, true, length, map, sym, ap, subst, arith}
use Rattle.std.proofs.lemmas.List.{length-map}
use Rattle.std.specs.Prelude.{All}
use Rattle.pe_tables.specs.Imports.{Import}
use Rattle.pe_set.specs.Set.{Module, modules_of}
use Rattle.pe_set.specs.SetView.{module_view, modules_view}
use Rattle.pe_set.proofs.Classes.{modules_count}
use Rattle.pe_set.proofs.Distinct.{few_entries}
use Rattle.pe_set.specs.Bindings.{bindings_of}
use Rattle.pe_unbound.specs.Unbound.{unbound_of, HaveOwnSlots}
use Rattle.pe_unbound.proofs.Passed.{all_own_slots, all_few}
use Rattle.pe_records_c.specs.SetRows.{entry_text, policy_of}
use Rattle.pe_records_c.specs.UnboundRows.{unbound_row, unbound_text, IsPut}
use Rattle.pe_records_c.proofs.Rows.{table_of}
use Rattle.pe_records_c.proofs.unbound.tell_unbound.Goals as goal

pub put_unbound-requires-clause-few : goal.put_unbound-requires-clause-few
put_unbound-requires-clause-few c =
    let es = map entry_text c.args.set.now in
    let none = c.accepted_sets_have_no_fault.ensures.names (policy_of true) es c.in_ok-accepted.ensures.exact.0 in
    let count = ap length c.in_ok-accepted.ensures.exact.1.modules ∙ modules_count es in
    omega (arith, few_entries es none, count, ap length c.deref.ensures.value, length-map c.in_ok-accepted.accepted.modules.items module_view)

pub put_unbound-requires-clause-bound : goal.put_unbound-requires-clause-bound
put_unbound-requires-clause-bound c =
    c.deref-2.ensures.value
    ∙ c.in_ok-accepted.ensures.exact.1.bindings
    ∙ ap bindings_of (sym (ap modules_view c.deref.ensures.value ∙ c.in_ok-accepted.ensures.exact.1.modules))

pub put_unbound-requires-clause-apart : goal.put_unbound-requires-clause-apart
put_unbound-requires-clause-apart c =
    let es = map entry_text c.args.set.now in
    let none = c.accepted_sets_have_no_fault.ensures.files (policy_of true) es c.in_ok-accepted.ensures.exact.0 in
    subst (All (λ (m : Module). HaveOwnSlots m.imports)) (sym (ap modules_view c.deref.ensures.value ∙ c.in_ok-accepted.ensures.exact.1.modules))
    (all_own_slots (record {
      images_small = c.images_are_small.ensures;
      slots_inside = c.slots_are_apart.ensures.inside;
      slots_apart = c.slots_are_apart.ensures.apart;
      slots_few = c.slots_are_apart.ensures.few;
      fields_inside = c.fields_are_apart.ensures.inside;
      fields_apart = c.fields_are_apart.ensures.apart;
      fields_off = c.fields_are_apart.ensures.off_slots;
      fields_few = c.fields_are_apart.ensures.few;
      targets = c.targets_are_inside.ensures;
    }) es none)

pub put_unbound-requires-clause-small : goal.put_unbound-requires-clause-small
put_unbound-requires-clause-small c =
    let es = map entry_text c.args.set.now in
    let none = c.accepted_sets_have_no_fault.ensures.files (policy_of true) es c.in_ok-accepted.ensures.exact.0 in
    subst (All (λ (m : Module). length m.imports ≤ 1048576)) (sym (ap modules_view c.deref.ensures.value ∙ c.in_ok-accepted.ensures.exact.1.modules))
    (all_few (record {
      images_small = c.images_are_small.ensures;
      slots_inside = c.slots_are_apart.ensures.inside;
      slots_apart = c.slots_are_apart.ensures.apart;
      slots_few = c.slots_are_apart.ensures.few;
      fields_inside = c.fields_are_apart.ensures.inside;
      fields_apart = c.fields_are_apart.ensures.apart;
      fields_off = c.fields_are_apart.ensures.off_slots;
      fields_few = c.fields_are_apart.ensures.few;
      targets = c.targets_are_inside.ensures;
    }) es none)

pub returns-clause-table : goal.returns-clause-table
returns-clause-table c =
    let es = map entry_text c.args.set.now in
    let is = ap modules_view c.deref.ensures.value ∙ c.in_ok-accepted.ensures.exact.1.modules in
    let put = subst (λ (us : List (ℕ × Import)). IsPut us c.args.rows.now c.put_unbound.new.rows c.put_unbound.result) (ap unbound_of is) c.put_unbound.ensures in (
      c.in_ok-accepted.ensures.exact.0,
      table_of unbound_text unbound_row (unbound_of (modules_of es)) c.args.rows.now c.put_unbound.new.rows c.put_unbound.result c.table_status.result put.rows put.count_is c.table_status.ensures,
    )
