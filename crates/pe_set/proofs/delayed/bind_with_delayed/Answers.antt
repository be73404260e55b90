use Rattle.std.proofs.Common.{◌≡◌, ◌∙◌, ◌+◌, ◌++◌, ◌∷◌, [], ℕ, List, drop, map, sym, ap, subst, None, append-nil, append_assoc, refl}
use Rattle.std.specs.List.{flat_map, filter_map}
use Rattle.std.proofs.lemmas.List.{drop_all, map-append}
use Rattle.std.proofs.lemmas.Result.{err_from_is_err_and}
use Rattle.pe_layout.specs.Image.{LaidOut}
use Rattle.pe_layout.specs.Layout.{image_of}
use Rattle.pe_tables.specs.ImportView.{import_view}
use Rattle.pe_tables.specs.Imports.{Import, imports_of}
use Rattle.pe_set.specs.Bindings.{binding_of}
use Rattle.pe_set.specs.DelayedImports.{with_own_slots, staying, delayed_in}
use Rattle.pe_set.specs.DelayedView.{imports_view}
use Rattle.pe_set.specs.Numbered.{numbered}
use Rattle.pe_set.specs.Set.{Module}
use Rattle.pe_set.specs.SetErrors.{ErrorIs, first_error, import_errors}
use Rattle.pe_set.specs.SetView.{module_view, modules_view}
use Rattle.pe_set.specs.declared.binding.Binding.{Binding}
use Rattle.pe_set.specs.declared.reading.Module as code_module
use Rattle.pe_set.specs.declared.entry.Policy.TheVariants.{Known}
use Rattle.pe_set.specs.declared.error.MapError.{MapError}
use Rattle.pe_set.proofs.Asking.{next_here, gathered}
use Rattle.pe_set.proofs.AskingErrors.{error_past, error-front, error-back, errors_past, errors_in, errors_all, error-whole}
use Rattle.pe_set.proofs.DelayedSearch.{errors_in as all_errors, bound_in, own_errors, own_bound, errors_delayed, bindings_delayed}
use Rattle.pe_set.proofs.Owning.{own_at, own_image}
use Rattle.pe_set.proofs.Searching.{own_imports}
use Rattle.pe_set.proofs.delayed.bind_with_delayed.Goals as goal

-- the delay-loaded imports of an image that was read
own_is : {A : Type 0} (m : code_module.Module A) (imports : List Import) → imports ≡ map import_view m.image.imports.items
    → with_own_slots (image_of m.image.layout) imports ≡ with_own_slots (module_view m).image (module_view m).imports
own_is m imports is = ap (λ (i : LaidOut). with_own_slots i imports) (sym (own_image m)) ∙ ap (with_own_slots (module_view m).image) (is ∙ sym (own_imports m))

two_parts : (old mid new first second : List Binding) → mid ≡ old ++ first → new ≡ mid ++ second → new ≡ old ++ (first ++ second)
two_parts old mid new first second is_mid is_new = is_new ∙ ap (λ bs. bs ++ second) is_mid ∙ append_assoc old first second

pub bind_imports-requires-clause-own : goal.bind_imports-requires-clause-own
bind_imports-requires-clause-own g c =
    let m = c.index-modules-index.result in
    let own = own_at c.args.modules.now c.loop-index.index m c.loop-index-test.true c.index-modules-index.is c.requires.own in
    ap (map import_view) c.as_slice.ensures.value ∙ sym (own_imports m) ∙ own ∙ ap imports_of (own_image m)

pub returns-in_err-bind_imports-clause-exact : goal.returns-in_err-bind_imports-clause-exact
returns-in_err-bind_imports-clause-exact g c =
    let ms = c.args.modules.now in
    let s = modules_view ms in
    let i : ℕ = c.loop-index.index in
    let m = c.index-modules-index.result in
    let own = module_view m in
    let error = c.in_err-bind_imports.field-0.0 in
    let p = err_from_is_err_and c.from_residual.result c.from_residual.ensures.1 in
    let imports = ap (map import_view) c.as_slice.ensures.value ∙ sym (own_imports m) in
    let refused = subst (λ xs. ErrorIs (first_error (flat_map (import_errors c.args.policy s i) xs)) error) imports c.in_err-bind_imports.ensures.exact in
    let all = subst (λ es. ErrorIs (first_error es) error) (sym (own_errors s i own c.args.policy))
    (error-front (flat_map (import_errors c.args.policy s i) own.imports) (flat_map (import_errors Known s i) (with_own_slots own.image own.imports)) error refused) in
    rw (p.1, p.2) (rw (errors_delayed c.args.policy s)
    (error-whole (first_error (all_errors c.args.policy s i own)) (first_error (numbered (all_errors c.args.policy s) 0 s))
    (errors_in module_view (all_errors c.args.policy s) ms i m (next_here ms i m c.index-modules-index.is c.loop-index-test.true) c.loop-index.invariant.rest)
    error all))

pub loop-index-init : goal.loop-index-init
loop-index-init g c =
    let s = modules_view c.args.modules.now in
    record {
      known = c.new-ends.ensures s;
      rest = refl;
      bound = ap (λ xs. xs ++ numbered (bound_in s) 0 s) c.new-bindings.ensures.items;
      kept = ap (λ xs. map imports_view xs ++ map (delayed_in s) s) c.new-imports.ensures.items;
    }

pub returns-in_err-delayed-clause-exact : goal.returns-in_err-delayed-clause-exact
returns-in_err-delayed-clause-exact g c =
    let ms = c.args.modules.now in
    let s = modules_view ms in
    let i : ℕ = c.loop-index.index in
    let m = c.index-modules-index.result in
    let own = module_view m in
    let error = c.in_err-delayed.field-0.0 in
    let p = err_from_is_err_and c.from_residual-in_err-delayed.result c.from_residual-in_err-delayed.ensures.1 in
    let imports = ap (map import_view) c.as_slice.ensures.value ∙ sym (own_imports m) in
    let none = subst (λ xs. first_error (flat_map (import_errors c.args.policy s i) xs) ≡ None) imports c.in_ok-bind_imports.ensures.exact.0 in
    let refused = subst (λ xs. ErrorIs (first_error (flat_map (import_errors Known s i) xs)) error) (own_is m _ (ap (map import_view) c.as_slice-in-loop-index.ensures.value)) c.in_err-delayed.ensures.exact in
    let all = subst (λ es. ErrorIs (first_error es) error) (sym (own_errors s i own c.args.policy))
    (error-back (flat_map (import_errors c.args.policy s i) own.imports) (flat_map (import_errors Known s i) (with_own_slots own.image own.imports)) error none refused) in
    rw (p.1, p.2) (rw (errors_delayed c.args.policy s)
    (error-whole (first_error (all_errors c.args.policy s i own)) (first_error (numbered (all_errors c.args.policy s) 0 s))
    (errors_in module_view (all_errors c.args.policy s) ms i m (next_here ms i m c.index-modules-index.is c.loop-index-test.true) c.loop-index.invariant.rest)
    error all))

pub loop-index-preserved : goal.loop-index-preserved
loop-index-preserved g c =
    let ms = c.args.modules.now in
    let s = modules_view ms in
    let i : ℕ = c.loop-index.index in
    let m = c.index-modules-index.result in
    let own = module_view m in
    let next = next_here ms i m c.index-modules-index.is c.loop-index-test.true in
    let imports = ap (map import_view) c.as_slice.ensures.value ∙ sym (own_imports m) in
    let mine = own_is m _ (ap (map import_view) c.as_slice-in-loop-index.ensures.value) in
    let none = subst (λ xs. first_error (flat_map (import_errors c.args.policy s i) xs) ≡ None) imports c.in_ok-bind_imports.ensures.exact.0 in
    let none_delayed = subst (λ xs. first_error (flat_map (import_errors Known s i) xs) ≡ None) mine c.in_ok-delayed.ensures.exact.0 in
    let first = subst (λ xs. c.bind_imports.new.bindings.items ≡ c.loop-index.bindings.items ++ filter_map (binding_of s i) xs) imports c.in_ok-bind_imports.ensures.exact.1 in
    let second = subst (λ xs. c.bind_delayed.new.bindings.items ≡ c.bind_imports.new.bindings.items ++ filter_map (binding_of s i) xs) mine c.in_ok-delayed.ensures.exact.1 in
    let kept : imports_view c.in_ok-delayed.delayed ≡ delayed_in s own = c.in_ok-delayed.ensures.kept ∙ ap (staying s) mine in
    record {
      known = c.in_ok-delayed.ensures.known;
      rest = errors_past module_view (all_errors c.args.policy s) ms i m next c.loop-index.invariant.rest
          (ap first_error (own_errors s i own c.args.policy) ∙ error_past (flat_map (import_errors c.args.policy s i) own.imports) (flat_map (import_errors Known s i) (with_own_slots own.image own.imports)) none ∙ none_delayed);
      bound = gathered module_view ms i m next c.loop-index.bindings.items (numbered (bound_in s) 0 s) (bound_in s) c.loop-index.invariant.bound c.bind_delayed.new.bindings.items
          (two_parts c.loop-index.bindings.items c.bind_imports.new.bindings.items c.bind_delayed.new.bindings.items _ _ first second ∙ ap (λ bs. c.loop-index.bindings.items ++ bs) (sym (own_bound s i own)));
      kept =
          ap (λ vs. map imports_view vs ++ map (delayed_in s) (modules_view (drop (i + 1) ms))) c.in_ok-push.ensures.items
          ∙ ap (λ xs. xs ++ map (delayed_in s) (modules_view (drop (i + 1) ms))) (map-append imports_view c.loop-index.imports.items (c.in_ok-delayed.delayed ∷ []))
          ∙ append_assoc (map imports_view c.loop-index.imports.items) (imports_view c.in_ok-delayed.delayed ∷ []) (map (delayed_in s) (modules_view (drop (i + 1) ms)))
          ∙ ap (λ xs. map imports_view c.loop-index.imports.items ++ xs ∷ map (delayed_in s) (modules_view (drop (i + 1) ms))) kept
          ∙ ap (λ ys. map imports_view c.loop-index.imports.items ++ map (delayed_in s) (modules_view ys)) (sym next)
          ∙ c.loop-index.invariant.kept;
    }

pub returns-clause-exact : goal.returns-clause-exact
returns-clause-exact g c =
    let ms = c.args.modules.now in
    let s = modules_view ms in
    let i : ℕ = c.loop-index.index in (
      ap first_error (errors_delayed c.args.policy s) ∙ errors_all module_view (all_errors c.args.policy s) ms i c.loop-index-test.false c.loop-index.invariant.rest,
      sym (append-nil c.loop-index.bindings.items)
          ∙ ap (λ xs. c.loop-index.bindings.items ++ numbered (bound_in s) i (map module_view xs)) (sym (drop_all i ms c.loop-index-test.false))
          ∙ c.loop-index.invariant.bound
          ∙ sym (bindings_delayed s),
    )

pub returns-clause-kept : goal.returns-clause-kept
returns-clause-kept g c =
    let ms = c.args.modules.now in
    let s = modules_view ms in
    let i : ℕ = c.loop-index.index in
    sym (append-nil (map imports_view c.loop-index.imports.items))
    ∙ ap (λ xs. map imports_view c.loop-index.imports.items ++ map (delayed_in s) (modules_view xs)) (sym (drop_all i ms c.loop-index-test.false))
    ∙ c.loop-index.invariant.kept
