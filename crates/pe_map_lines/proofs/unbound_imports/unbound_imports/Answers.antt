use Rattle.std.proofs.Common.{◌∙◌, ◌≤◌, length, map, sym, ap, subst, inl, inr, arith}
use Rattle.std.specs.Prelude.{All}
use Rattle.pe_set.specs.Bindings.{bindings_of}
use Rattle.pe_set.specs.Set.{Module, modules_of}
use Rattle.pe_set.specs.SetView.{entries_of, modules_view}
use Rattle.pe_set.proofs.Classes.{few_images, count_modules}
use Rattle.pe_set.proofs.Distinct.{few_entries}
use Rattle.pe_unbound.specs.Unbound.{unbound_of, HaveOwnSlots}
use Rattle.pe_map_lines.specs.UnboundImports.{unbound_view}
use Rattle.pe_unbound.proofs.Passed.{all_own_slots}
use Rattle.pe_map_lines.proofs.Unbound.{if_err, exact_unless}
use Rattle.pe_map_lines.proofs.unbound_imports.unbound_imports.Goals as goal

pub gather_all-requires-clause-few : goal.gather_all-requires-clause-few
gather_all-requires-clause-few g c =
    let es = entries_of c.args.set.now in
    let none = c.accepted_sets_have_no_fault.ensures.names c.args.policy es c.in-Ok.ensures.exact.0 in
    let few = few_images c.args.set.now (few_entries es none) in
    let count = count_modules c.args.set.now c.in-Ok.accepted.modules.items c.in-Ok.ensures.exact.1.modules in
    rw c.deref.ensures.value (omega arith)

pub gather_all-requires-clause-bound : goal.gather_all-requires-clause-bound
gather_all-requires-clause-bound g c =
    c.deref-in-Ok.ensures.value
    ∙ c.in-Ok.ensures.exact.1.bindings
    ∙ ap bindings_of (sym (ap modules_view c.deref.ensures.value ∙ c.in-Ok.ensures.exact.1.modules))

pub gather_all-requires-clause-apart : goal.gather_all-requires-clause-apart
gather_all-requires-clause-apart g c =
    let es = entries_of c.args.set.now in
    let none = c.accepted_sets_have_no_fault.ensures.files c.args.policy es c.in-Ok.ensures.exact.0 in
    subst (All (λ (m : Module). HaveOwnSlots m.imports)) (sym (ap modules_view c.deref.ensures.value ∙ c.in-Ok.ensures.exact.1.modules))
    (all_own_slots (record {
      images_small = c.images_are_small.ensures;
      slots_inside = c.slots_are_apart.ensures.inside;
      slots_apart = c.slots_are_apart.ensures.apart;
      slots_few = c.slots_are_apart.ensures.few;
      fields_inside = c.fields_are_apart.ensures.inside;
      fields_apart = c.fields_are_apart.ensures.apart;
      fields_off = c.fields_are_apart.ensures.off_slots;
      fields_few = c.fields_are_apart.ensures.few;
      targets = c.targets_are_inside.ensures;
    }) es none)

pub returns-in-Ok-clause-exact : goal.returns-in-Ok-clause-exact
returns-in-Ok-clause-exact g c =
    let is = ap modules_view c.deref.ensures.value ∙ c.in-Ok.ensures.exact.1.modules in
    exact_unless c.gather_all.result (λ unbound. map unbound_view unbound.items) _ _ _ (ap unbound_of is) c.gather_all.ensures.exact

pub returns-in-Ok-clause-no_memory : goal.returns-in-Ok-clause-no_memory
returns-in-Ok-clause-no_memory g c =
    let es = entries_of c.args.set.now in
    let none = c.accepted_sets_have_no_fault.ensures.names c.args.policy es c.in-Ok.ensures.exact.0 in
    let few = few_images c.args.set.now (few_entries es none) in
    let count = ap length c.deref.ensures.value ∙ count_modules c.args.set.now c.in-Ok.accepted.modules.items c.in-Ok.ensures.exact.1.modules in
    λ size. elim size [
      | inl empty ↦ c.gather_all.ensures.empty (count ∙ empty)
      | inr more ↦ absurd (omega (arith, few, more))
    ]

pub returns-in-Ok-clause-named : goal.returns-in-Ok-clause-named
returns-in-Ok-clause-named g c =
    if_err _ _ (c.accepted_sets_have_no_fault.ensures.names c.args.policy (entries_of c.args.set.now) c.in-Ok.ensures.exact.0)
