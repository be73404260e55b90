use Rattle.std.proofs.Common.{◌≡◌, ◌∙◌, ◌++◌, ℕ, List, map, sym, ap, subst, None, append-nil, refl}
use Rattle.std.specs.List.{flat_map, filter_map}
use Rattle.std.proofs.lemmas.List.{drop_all}
use Rattle.std.proofs.lemmas.Result.{err_from_is_err_and}
use Rattle.pe_tables.specs.ImportView.{import_view}
use Rattle.pe_set.specs.Numbered.{numbered}
use Rattle.pe_set.specs.Bindings.{binding_of, bindings_in, bindings_of}
use Rattle.pe_set.specs.Set.{Module}
use Rattle.pe_set.specs.SetErrors.{ErrorIs, first_error, import_errors, imports_errors}
use Rattle.pe_set.specs.SetView.{module_view, modules_view}
use Rattle.pe_set.specs.declared.error.MapError.{MapError}
use Rattle.pe_set.proofs.Asking.{next_here, gathered}
use Rattle.pe_set.proofs.AskingErrors.{errors_past, errors_in, errors_all, error-whole}
use Rattle.pe_tables.specs.Imports.{imports_of}
use Rattle.pe_set.proofs.Owning.{own_at, own_image}
use Rattle.pe_set.proofs.Searching.{own_imports}
use Rattle.pe_set.proofs.binding.bind.Goals as goal

pub returns-in_err-bind_imports-clause-exact : goal.returns-in_err-bind_imports-clause-exact
unfolding imports_errors
returns-in_err-bind_imports-clause-exact g c =
    let ms = c.args.modules.now in
    let s = modules_view ms in
    let i : ℕ = c.loop-index.index in
    let m = c.index-modules-index.result in
    let f : ℕ → Module → List MapError = (λ n (m : Module). flat_map (import_errors c.args.policy s n) m.imports) in
    let p = err_from_is_err_and c.from_residual.result c.from_residual.ensures.1 in
    let imports = ap (map import_view) c.as_slice.ensures.value ∙ sym (own_imports m) in
    let refused = subst (λ xs. ErrorIs (first_error (flat_map (import_errors c.args.policy s i) xs)) c.in_err-bind_imports.field-0.0) imports c.in_err-bind_imports.ensures.exact in
    rw (p.1, p.2)
    (error-whole (first_error (f i (module_view m))) (first_error (numbered f 0 s))
    (errors_in module_view f ms i m (next_here ms i m c.index-modules-index.is c.loop-index-test.true) c.loop-index.invariant.rest)
    c.in_err-bind_imports.field-0.0 refused)

pub loop-index-preserved : goal.loop-index-preserved
loop-index-preserved g c =
    let ms = c.args.modules.now in
    let s = modules_view ms in
    let i : ℕ = c.loop-index.index in
    let m = c.index-modules-index.result in
    let f : ℕ → Module → List MapError = (λ n (m : Module). flat_map (import_errors c.args.policy s n) m.imports) in
    let next = next_here ms i m c.index-modules-index.is c.loop-index-test.true in
    let imports = ap (map import_view) c.as_slice.ensures.value ∙ sym (own_imports m) in
    let none = subst (λ xs. first_error (flat_map (import_errors c.args.policy s i) xs) ≡ None) imports c.in_ok-bind_imports.ensures.exact.0 in
    let more = subst (λ xs. c.bind_imports.new.bindings.items ≡ c.loop-index.bindings.items ++ filter_map (binding_of s i) xs) imports c.in_ok-bind_imports.ensures.exact.1 in
    record {
      known = c.in_ok-bind_imports.ensures.known;
      rest = errors_past module_view f ms i m next c.loop-index.invariant.rest none;
      bound = gathered module_view ms i m next c.loop-index.bindings.items (numbered (bindings_in s) 0 s) (bindings_in s) c.loop-index.invariant.bound c.bind_imports.new.bindings.items more;
    }

pub returns-clause-exact : goal.returns-clause-exact
unfolding imports_errors bindings_of
returns-clause-exact g c =
    let ms = c.args.modules.now in
    let s = modules_view ms in
    let i : ℕ = c.loop-index.index in
    let f : ℕ → Module → List MapError = (λ n (m : Module). flat_map (import_errors c.args.policy s n) m.imports) in (
      errors_all module_view f ms i c.loop-index-test.false c.loop-index.invariant.rest,
      sym (append-nil c.loop-index.bindings.items)
          ∙ ap (λ xs. c.loop-index.bindings.items ++ numbered (bindings_in s) i (map module_view xs)) (sym (drop_all i ms c.loop-index-test.false))
          ∙ c.loop-index.invariant.bound,
    )

pub bind_imports-requires-clause-own : goal.bind_imports-requires-clause-own
bind_imports-requires-clause-own g c =
    let m = c.index-modules-index.result in
    let own = own_at c.args.modules.now c.loop-index.index m c.loop-index-test.true c.index-modules-index.is c.requires.own in
    ap (map import_view) c.as_slice.ensures.value ∙ sym (own_imports m) ∙ own ∙ ap imports_of (own_image m)

pub loop-index-init : goal.loop-index-init
loop-index-init g c =
    let s = modules_view c.args.modules.now in
    record {
      known = c.new-ends.ensures s;
      rest = refl;
      bound = ap (λ xs. xs ++ numbered (bindings_in s) 0 s) c.new-bindings.ensures.items;
    }
