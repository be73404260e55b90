-- Imports are tested after classes without a fault.
use Rattle.std.proofs.Common.{◌≡◌, ◌∙◌, ◌≤◌, ◌^◌, All, List, length, map, ap, subst, sym, arith, inl, inr, None}
use Rattle.std.proofs.lemmas.List.{with_items_is}
use Rattle.std.proofs.lemmas.Result.{err_from_is_err_and}
use Rattle.pe_set.specs.Bindings.{bindings_of}
use Rattle.pe_set.specs.DelayedErrors.{delayed_errors}
use Rattle.pe_set.specs.DelayedImports.{delayed_in, with_delayed}
use Rattle.pe_set.specs.DelayedView.{imports_view}
use Rattle.pe_set.specs.NamesView.{AreDistinct, lowered}
use Rattle.pe_set.specs.Search.{pairs_of}
use Rattle.pe_set.specs.Set.{Module, modules_of}
use Rattle.pe_set.specs.SetFaults.{placed_tests}
use Rattle.pe_set.specs.SetErrors.{ErrorIs, first_error, imports_errors}
use Rattle.pe_set.specs.SetView.{entries_of, modules_view}
use Rattle.pe_set.specs.Sound.{IsSoundImage}
use Rattle.pe_set.proofs.Classes.{few_images, count_modules}
use Rattle.pe_set.proofs.Distinct.{few_entries, distinct}
use Rattle.pe_set.proofs.Faultless.{placed_classes}
use Rattle.pe_set.proofs.Owning.{HasOwn, all_own}
use Rattle.pe_set.proofs.Errors.{in_class, past, past_class}
use Rattle.pe_set.proofs.judging.judge_delayed.Goals as goal

pub returns-in_err-modules-clause-exact : goal.returns-in_err-modules-clause-exact
unfolding delayed_errors
returns-in_err-modules-clause-exact g c =
    let es = entries_of c.args.set.now in
    let p = err_from_is_err_and c.from_residual.result c.from_residual.ensures.1 in
    let error = c.in_err-modules.field-0.0 in
    rw (p.1, p.2) ((in_class (placed_tests es) _ error c.in_err-modules.ensures.exact))

pub new-requires : goal.new-requires
new-requires g c =
    let es = entries_of c.args.set.now in
    subst AreDistinct (sym (ap modules_view c.deref.ensures.value ∙ c.in_ok-modules.ensures.exact.1)) (distinct es (placed_classes es c.in_ok-modules.ensures.exact.0).names)

pub returns-in_err-names-clause-exact : goal.returns-in_err-names-clause-exact
returns-in_err-names-clause-exact g c = let p = err_from_is_err_and c.from_residual-in_err-names.result c.from_residual-in_err-names.ensures.1 in rw (p.1, p.2) tt

pub bind_with_delayed-requires-clause-few : goal.bind_with_delayed-requires-clause-few
bind_with_delayed-requires-clause-few g c =
    let few = few_images c.args.set.now (few_entries (entries_of c.args.set.now) (placed_classes (entries_of c.args.set.now) c.in_ok-modules.ensures.exact.0).names) in
    let count = count_modules c.args.set.now c.in_ok-modules.modules.items c.in_ok-modules.ensures.exact.1 in
    rw c.deref-2.ensures.value (omega arith)

pub bind_with_delayed-requires-clause-named : goal.bind_with_delayed-requires-clause-named
bind_with_delayed-requires-clause-named g c = c.in_ok-names.ensures.names ∙ ap (λ xs. lowered (modules_view xs)) (c.deref.ensures.value ∙ sym c.deref-2.ensures.value)

pub bind_with_delayed-requires-clause-few_exports : goal.bind_with_delayed-requires-clause-few_exports
bind_with_delayed-requires-clause-few_exports g c =
    let es = entries_of c.args.set.now in
    let ok = placed_classes es c.in_ok-modules.ensures.exact.0 in
    let is = ap modules_view c.deref-2.ensures.value ∙ c.in_ok-modules.ensures.exact.1 in
    subst (λ (s : List Module). pairs_of s ≤ 2 ^ 25) (sym is) (c.sets_export_little.ensures es ok.names ok.files)

pub bind_with_delayed-requires-clause-own : goal.bind_with_delayed-requires-clause-own
bind_with_delayed-requires-clause-own g c =
    let es = entries_of c.args.set.now in
    subst (λ (s : List Module). All HasOwn s) (sym (ap modules_view c.deref-2.ensures.value ∙ c.in_ok-modules.ensures.exact.1)) (all_own es)

pub returns-in_err-bound-clause-exact : goal.returns-in_err-bound-clause-exact
unfolding delayed_errors
returns-in_err-bound-clause-exact g c =
    let es = entries_of c.args.set.now in
    let p = err_from_is_err_and c.from_residual-in_err-bound.result c.from_residual-in_err-bound.ensures.1 in
    let error = c.in_err-bound.field-0.0 in
    let is = ap modules_view c.deref-2.ensures.value ∙ c.in_ok-modules.ensures.exact.1 in
    let own = subst (λ (s : List Module). ErrorIs (first_error (imports_errors c.args.policy (with_delayed s))) error) is c.in_err-bound.ensures.exact in
    rw (p.1, p.2) ((past_class (placed_tests es) _ error c.in_ok-modules.ensures.exact.0 own))

pub returns-in_err-names-clause-no_memory : goal.returns-in_err-names-clause-no_memory
returns-in_err-names-clause-no_memory g c = λ e refused.
    let few = few_images c.args.set.now (few_entries (entries_of c.args.set.now) (placed_classes (entries_of c.args.set.now) c.in_ok-modules.ensures.exact.0).names) in
    let count = count_modules c.args.set.now c.in_ok-modules.modules.items c.in_ok-modules.ensures.exact.1 in
    elim e [ inl none ↦ (let h = c.in_err-names.ensures.empty (ap length c.deref.ensures.value ∙ count ∙ none) in absurd cc) | inr many ↦ absurd (omega arith) ]

pub returns-in_err-bound-clause-no_memory : goal.returns-in_err-bound-clause-no_memory
returns-in_err-bound-clause-no_memory g c = λ e refused.
    let few = few_images c.args.set.now (few_entries (entries_of c.args.set.now) (placed_classes (entries_of c.args.set.now) c.in_ok-modules.ensures.exact.0).names) in
    let count = count_modules c.args.set.now c.in_ok-modules.modules.items c.in_ok-modules.ensures.exact.1 in
    elim e [ inl none ↦ (let h = c.in_err-bound.ensures.empty (ap length c.deref-2.ensures.value ∙ count ∙ none) in absurd cc) | inr many ↦ absurd (omega arith) ]

pub returns-in_err-modules-clause-no_memory : goal.returns-in_err-modules-clause-no_memory
returns-in_err-modules-clause-no_memory g c = λ e refused.
    let p = err_from_is_err_and c.from_residual.result c.from_residual.ensures.1 in
    let kept = c.in_err-modules.ensures.no_memory e in
    absurd (kept (cc))

pub returns-in_err-modules-clause-named : goal.returns-in_err-modules-clause-named
returns-in_err-modules-clause-named g c = λ refused.
    let p = err_from_is_err_and c.from_residual.result c.from_residual.ensures.1 in
    let is = rw (p.1, p.2) at refused in
    c.in_err-modules.ensures.named (cc)

pub returns-in_err-names-clause-named : goal.returns-in_err-names-clause-named
returns-in_err-names-clause-named g c = λ refused. (placed_classes (entries_of c.args.set.now) c.in_ok-modules.ensures.exact.0).names

pub returns-in_err-bound-clause-named : goal.returns-in_err-bound-clause-named
returns-in_err-bound-clause-named g c = λ refused. (placed_classes (entries_of c.args.set.now) c.in_ok-modules.ensures.exact.0).names

pub returns-clause-no_memory : goal.returns-clause-no_memory
returns-clause-no_memory g c = λ e refused. absurd cc

pub returns-clause-named : goal.returns-clause-named
returns-clause-named g c = λ refused. (placed_classes (entries_of c.args.set.now) c.in_ok-modules.ensures.exact.0).names

pub add_delayed-requires-clause-sound : goal.add_delayed-requires-clause-sound
add_delayed-requires-clause-sound g c =
    let es = entries_of c.args.set.now in
    let is = ap modules_view c.as_mut_slice.ensures.value ∙ c.in_ok-modules.ensures.exact.1 in
    subst (λ (s : List Module). All IsSoundImage s) (sym is) (c.images_are_sound.ensures es (placed_classes es c.in_ok-modules.ensures.exact.0).files)

pub add_delayed-requires-clause-delayed : goal.add_delayed-requires-clause-delayed
add_delayed-requires-clause-delayed g c =
    ap (map imports_view) c.deref-3.ensures.value
    ∙ c.in_ok-bound.ensures.kept
    ∙ ap (λ (s : List Module). map (delayed_in s) s) (ap modules_view (c.deref-2.ensures.value ∙ sym c.as_mut_slice.ensures.value))

pub returns-in_err-add_delayed-clause-no_memory : goal.returns-in_err-add_delayed-clause-no_memory
returns-in_err-add_delayed-clause-no_memory g c = λ e refused.
    let few = few_images c.args.set.now (few_entries (entries_of c.args.set.now) (placed_classes (entries_of c.args.set.now) c.in_ok-modules.ensures.exact.0).names) in
    let count = count_modules c.args.set.now c.in_ok-modules.modules.items c.in_ok-modules.ensures.exact.1 in
    elim e [ inl none ↦ (let h = c.in_err-add_delayed.ensures.empty (ap length c.as_mut_slice.ensures.value ∙ count ∙ none) in absurd cc) | inr many ↦ absurd (omega arith) ]

pub returns-in_err-add_delayed-clause-named : goal.returns-in_err-add_delayed-clause-named
returns-in_err-add_delayed-clause-named g c = λ refused. (placed_classes (entries_of c.args.set.now) c.in_ok-modules.ensures.exact.0).names

pub returns-clause-exact : goal.returns-clause-exact
unfolding delayed_errors
returns-clause-exact g c =
    let es = entries_of c.args.set.now in
    let is = ap modules_view c.as_mut_slice.ensures.value ∙ c.in_ok-modules.ensures.exact.1 in
    let seen = ap modules_view c.deref-2.ensures.value ∙ c.in_ok-modules.ensures.exact.1 in
    let no_import = subst (λ (s : List Module). first_error (imports_errors c.args.policy (with_delayed s)) ≡ None) seen c.in_ok-bound.ensures.exact.0 in (
      past (placed_tests es) _ c.in_ok-modules.ensures.exact.0 ∙ no_import,
      record {
        modules = ap modules_view (with_items_is c.in_ok-modules.modules c.add_delayed.new.modules (c.add_delayed.auto.modules ∙ c.as_mut_slice.ensures.len))
            ∙ c.in_ok-add_delayed.ensures.added ∙ ap with_delayed is;
        bindings = c.in_ok-bound.ensures.exact.1 ∙ ap (λ (s : List Module). bindings_of (with_delayed s)) seen;
      },
    )
