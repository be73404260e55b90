-- Imports are tested after classes without a fault.
use Rattle.std.proofs.Common.{◌≡◌, ◌∙◌, ◌≤◌, ◌^◌, All, List, length, ap, subst, sym, arith, inl, inr, None}
use Rattle.std.proofs.lemmas.Result.{err_from_is_err_and}
use Rattle.pe_set.specs.Bindings.{bindings_of}
use Rattle.pe_set.specs.NamesView.{AreDistinct, lowered}
use Rattle.pe_set.specs.Search.{pairs_of}
use Rattle.pe_set.specs.Set.{Module, modules_of}
use Rattle.pe_set.specs.SetFaults.{placed_tests}
use Rattle.pe_set.specs.SetErrors.{ErrorIs, first_error, imports_errors}
use Rattle.pe_set.specs.SetView.{entries_of, modules_view}
use Rattle.pe_set.proofs.Classes.{few_images, count_modules}
use Rattle.pe_set.proofs.Distinct.{few_entries, distinct}
use Rattle.pe_set.proofs.Faultless.{placed_classes}
use Rattle.pe_set.proofs.Owning.{HasOwn, all_own}
use Rattle.pe_set.proofs.Errors.{placed_first, in_class, past, past_class}
use Rattle.pe_set.proofs.judging.judge.Goals as goal

pub returns-in_err-modules-clause-exact : goal.returns-in_err-modules-clause-exact
returns-in_err-modules-clause-exact g c =
    let es = entries_of c.args.set.now in
    let p = err_from_is_err_and c.from_residual.result c.from_residual.ensures.1 in
    let error = c.in_err-modules.field-0.0 in
    rw (p.1, p.2) (subst (λ es. ErrorIs (first_error es) error) (sym (placed_first c.args.policy es)) (in_class (placed_tests es) _ error c.in_err-modules.ensures.exact))

pub new-requires : goal.new-requires
new-requires g c =
    let es = entries_of c.args.set.now in
    subst AreDistinct (sym (ap modules_view c.deref.ensures.value ∙ c.in_ok-modules.ensures.exact.1)) (distinct es (placed_classes es c.in_ok-modules.ensures.exact.0).names)

pub returns-in_err-names-clause-exact : goal.returns-in_err-names-clause-exact
returns-in_err-names-clause-exact g c = let p = err_from_is_err_and c.from_residual-in_err-names.result c.from_residual-in_err-names.ensures.1 in rw (p.1, p.2) tt

pub bind-requires-clause-few : goal.bind-requires-clause-few
bind-requires-clause-few g c =
    let few = few_images c.args.set.now (few_entries (entries_of c.args.set.now) (placed_classes (entries_of c.args.set.now) c.in_ok-modules.ensures.exact.0).names) in
    let count = count_modules c.args.set.now c.in_ok-modules.modules.items c.in_ok-modules.ensures.exact.1 in
    rw c.deref-2.ensures.value (omega arith)

pub bind-requires-clause-named : goal.bind-requires-clause-named
bind-requires-clause-named g c = c.in_ok-names.ensures.names ∙ ap (λ xs. lowered (modules_view xs)) (c.deref.ensures.value ∙ sym c.deref-2.ensures.value)

pub bind-requires-clause-few_exports : goal.bind-requires-clause-few_exports
bind-requires-clause-few_exports g c =
    let es = entries_of c.args.set.now in
    let ok = placed_classes es c.in_ok-modules.ensures.exact.0 in
    let is = ap modules_view c.deref-2.ensures.value ∙ c.in_ok-modules.ensures.exact.1 in
    subst (λ (s : List Module). pairs_of s ≤ 2 ^ 25) (sym is) (c.sets_export_little.ensures es ok.names ok.files)

pub bind-requires-clause-own : goal.bind-requires-clause-own
bind-requires-clause-own g c =
    let es = entries_of c.args.set.now in
    subst (λ (s : List Module). All HasOwn s) (sym (ap modules_view c.deref-2.ensures.value ∙ c.in_ok-modules.ensures.exact.1)) (all_own es)

pub returns-in_err-bindings-clause-exact : goal.returns-in_err-bindings-clause-exact
returns-in_err-bindings-clause-exact g c =
    let es = entries_of c.args.set.now in
    let p = err_from_is_err_and c.from_residual-in_err-bindings.result c.from_residual-in_err-bindings.ensures.1 in
    let error = c.in_err-bindings.field-0.0 in
    let is = ap modules_view c.deref-2.ensures.value ∙ c.in_ok-modules.ensures.exact.1 in
    let own = subst (λ (s : List Module). ErrorIs (first_error (imports_errors c.args.policy s)) error) is c.in_err-bindings.ensures.exact in
    rw (p.1, p.2) (subst (λ es. ErrorIs (first_error es) error) (sym (placed_first c.args.policy es)) (past_class (placed_tests es) _ error c.in_ok-modules.ensures.exact.0 own))

pub returns-in_err-names-clause-no_memory : goal.returns-in_err-names-clause-no_memory
returns-in_err-names-clause-no_memory g c = λ e refused.
    let few = few_images c.args.set.now (few_entries (entries_of c.args.set.now) (placed_classes (entries_of c.args.set.now) c.in_ok-modules.ensures.exact.0).names) in
    let count = count_modules c.args.set.now c.in_ok-modules.modules.items c.in_ok-modules.ensures.exact.1 in
    elim e [ inl none ↦ (let h = c.in_err-names.ensures.empty (ap length c.deref.ensures.value ∙ count ∙ none) in absurd cc) | inr many ↦ absurd (omega arith) ]

pub returns-in_err-bindings-clause-no_memory : goal.returns-in_err-bindings-clause-no_memory
returns-in_err-bindings-clause-no_memory g c = λ e refused.
    let few = few_images c.args.set.now (few_entries (entries_of c.args.set.now) (placed_classes (entries_of c.args.set.now) c.in_ok-modules.ensures.exact.0).names) in
    let count = count_modules c.args.set.now c.in_ok-modules.modules.items c.in_ok-modules.ensures.exact.1 in
    elim e [ inl none ↦ (let h = c.in_err-bindings.ensures.empty (ap length c.deref-2.ensures.value ∙ count ∙ none) in absurd cc) | inr many ↦ absurd (omega arith) ]

pub returns-in_err-modules-clause-no_memory : goal.returns-in_err-modules-clause-no_memory
returns-in_err-modules-clause-no_memory g c = λ e refused.
    let p = err_from_is_err_and c.from_residual.result c.from_residual.ensures.1 in
    let kept = c.in_err-modules.ensures.no_memory e in
    absurd (kept (cc))

pub returns-in_err-modules-clause-named : goal.returns-in_err-modules-clause-named
returns-in_err-modules-clause-named g c = λ refused.
    let p = err_from_is_err_and c.from_residual.result c.from_residual.ensures.1 in
    let is = rw (p.1, p.2) at refused in
    c.in_err-modules.ensures.named (cc)

pub returns-in_err-names-clause-named : goal.returns-in_err-names-clause-named
returns-in_err-names-clause-named g c = λ refused. (placed_classes (entries_of c.args.set.now) c.in_ok-modules.ensures.exact.0).names

pub returns-in_err-bindings-clause-named : goal.returns-in_err-bindings-clause-named
returns-in_err-bindings-clause-named g c = λ refused. (placed_classes (entries_of c.args.set.now) c.in_ok-modules.ensures.exact.0).names

pub returns-clause-no_memory : goal.returns-clause-no_memory
returns-clause-no_memory g c = λ e refused. absurd cc

pub returns-clause-named : goal.returns-clause-named
returns-clause-named g c = λ refused. (placed_classes (entries_of c.args.set.now) c.in_ok-modules.ensures.exact.0).names

pub returns-clause-exact : goal.returns-clause-exact
returns-clause-exact g c =
    let es = entries_of c.args.set.now in
    let is = ap modules_view c.deref-2.ensures.value ∙ c.in_ok-modules.ensures.exact.1 in
    let no_import = subst (λ (s : List Module). first_error (imports_errors c.args.policy s) ≡ None) is c.in_ok-bindings.ensures.exact.0 in (
      ap first_error (placed_first c.args.policy es) ∙ past (placed_tests es) _ c.in_ok-modules.ensures.exact.0 ∙ no_import,
      record { modules = c.in_ok-modules.ensures.exact.1; bindings = c.in_ok-bindings.ensures.exact.1 ∙ ap bindings_of is },
    )
