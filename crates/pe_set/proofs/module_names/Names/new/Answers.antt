use Rattle.std.proofs.Common.{arith, ◌≡◌, ◌∙◌, ◌++◌, ◌∷◌, [], ℕ, List, Bool, false, sym, ap, subst, map, take, cond, length, refl}
use Rattle.std.specs.List.{list_any}
use Rattle.std.specs.Char.{to_ascii_lowercase}
use Rattle.std.specs.Str.{bytes_eq, str_to_ascii_lowercase}
use Rattle.std.proofs.lemmas.Result.{err_from_is_err_and}
use Rattle.std.proofs.lemmas.List.{take_all, take_more, take-map, map-append, length-map}
use Rattle.std.proofs.lemmas.Option.{slice_get-map, slice_get_read}
use Rattle.std.specs.Prelude.{max, option_map}
use Rattle.pe_set.specs.Set.{Module, same_name}
use Rattle.pe_set.specs.NameLengths.{AreWithin}
use Rattle.pe_set.specs.NamesView.{lowered}
use Rattle.pe_set.specs.SetView.{module_view, modules_view}
use Rattle.pe_set.proofs.LongNames.{within_more}
use Rattle.pe_set.proofs.Searching.{own_name, list_any-map}
use Rattle.pe_set.proofs.module_names.Names.new.Goals as goal

pub loop-module-preserved : goal.loop-module-preserved
loop-module-preserved g c =
    let ms = c.args.modules.now in
    let i : ℕ = c.loop-module.module-index in
    let m = c.module-item.result in
    let name : List ℕ = m.name.now in
    let keys = c.loop-module.names.keys in
    let buffer = c.lower_into.new.buffer in
    let at = slice_get-map module_view ms i ∙ ap (option_map module_view) (slice_get_read ms (length ms) i m refl c.loop-module-test.true c.module-item.is) in
    let new : list_any (λ y. bytes_eq buffer.items y.items) keys ≡ false =
    sym (list_any-map (bytes_eq buffer.items) (λ y. y.items) keys)
    ∙ ap (list_any (bytes_eq buffer.items)) c.loop-module.invariant.names
    ∙ ap (λ low. list_any (bytes_eq low) (lowered (modules_view (take i ms)))) c.in_ok-lower_into.ensures
    ∙ list_any-map (bytes_eq (str_to_ascii_lowercase name)) (λ (b : Module). str_to_ascii_lowercase b.name) (modules_view (take i ms))
    ∙ ap (list_any (λ (b : Module). same_name name b.name)) (sym (take-map module_view i ms))
    ∙ ap (λ n. list_any (λ (b : Module). same_name n b.name) (take i (modules_view ms))) (sym (own_name m))
    ∙ c.requires i (module_view m) at in
    let pushed = c.in_ok-insert.ensures.keys ∙ ap (λ (b : Bool). cond b keys (keys ++ buffer ∷ [])) new in
    record {
      names =
          ap (map (λ y. y.items)) pushed
          ∙ map-append (λ y. y.items) keys (buffer ∷ [])
          ∙ ap (λ (ns : List (List ℕ)). ns ++ buffer.items ∷ []) c.loop-module.invariant.names
          ∙ ap (λ low. lowered (modules_view (take i ms)) ++ low ∷ []) (c.in_ok-lower_into.ensures ∙ ap str_to_ascii_lowercase (sym (own_name m)))
          ∙ sym (map-append (λ (b : Module). str_to_ascii_lowercase b.name) (modules_view (take i ms)) (module_view m ∷ []))
          ∙ ap lowered (sym (map-append module_view (take i ms) (m ∷ [])))
          ∙ ap (λ xs. lowered (modules_view (take i ms ++ xs ∷ []))) c.module-item.is
          ∙ ap (λ xs. lowered (modules_view xs)) (sym (take_more ms i m c.loop-module-test.true));
      within =
          rw c.max-longest.ensures
          (subst (AreWithin (max c.loop-module.longest (length name))) (sym (ap (map (λ y. y.items)) pushed ∙ map-append (λ y. y.items) keys (buffer ∷ [])))
          (subst (λ (n : ℕ). AreWithin (max c.loop-module.longest n) (map (λ y. y.items) keys ++ buffer.items ∷ []))
          (ap (λ (bytes : List ℕ). length bytes) c.in_ok-lower_into.ensures ∙ length-map name to_ascii_lowercase)
          (within_more c.loop-module.longest (map (λ y. y.items) keys) buffer.items c.loop-module.invariant.within)));
    }

pub returns-in_err-names-clause-names : goal.returns-in_err-names-clause-names
returns-in_err-names-clause-names g c = let p = err_from_is_err_and c.from_residual.result c.from_residual.ensures.1 in rw p.1 tt

pub returns-in_err-names-clause-empty : goal.returns-in_err-names-clause-empty
returns-in_err-names-clause-empty g c = λ none. let made = c.in_err-names.ensures.succeeds none in absurd cc

pub returns-in_err-lower_into-clause-names : goal.returns-in_err-lower_into-clause-names
returns-in_err-lower_into-clause-names g c = let p = err_from_is_err_and c.from_residual-in_err-lower_into.result c.from_residual-in_err-lower_into.ensures.1 in rw p.1 tt

pub returns-in_err-lower_into-clause-empty : goal.returns-in_err-lower_into-clause-empty
returns-in_err-lower_into-clause-empty g c = λ none. absurd (omega (arith, c.loop-module-test.true))

pub returns-in_err-insert-clause-names : goal.returns-in_err-insert-clause-names
returns-in_err-insert-clause-names g c = let p = err_from_is_err_and c.from_residual-in_err-insert.result c.from_residual-in_err-insert.ensures.1 in rw p.1 tt

pub returns-in_err-insert-clause-empty : goal.returns-in_err-insert-clause-empty
returns-in_err-insert-clause-empty g c = λ none. absurd (omega (arith, c.loop-module-test.true))

pub returns-clause-names : goal.returns-clause-names
returns-clause-names g c = c.loop-module.invariant.names ∙ ap (λ xs. lowered (modules_view xs)) (take_all c.loop-module.module-index c.args.modules.now c.loop-module-test.false)
