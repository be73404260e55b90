use Rattle.std.proofs.Common.{rules, ◌≡◌, ◌∙◌, ◌+◌, ◌<◌, ◌≤◌, ◌++◌, ℕ, List, map, take, drop, length, get_or, All, sym, ap, subst, arith, append-nil, length-append, take-append-drop}
use Rattle.std.specs.Prelude.{Vec, slice_set}
use Rattle.std.proofs.lemmas.List.{drop_all, get_or-map, length-map, map-set, take_all}
use Rattle.pe_tables.specs.ImportView.{import_view}
use Rattle.pe_tables.specs.declared.import.Import.{Import}
use Rattle.pe_set.specs.DelayedImports.{delayed_in, with_imports, with_delayed}
use Rattle.pe_set.specs.DelayedView.{imports_view}
use Rattle.pe_set.specs.Set.{Module}
use Rattle.pe_set.specs.SetView.{module_view, modules_view}
use Rattle.pe_set.specs.Sound.{IsSoundImage}
use Rattle.pe_set.specs.declared.reading.Module as code_module
use Rattle.pe_set.proofs.Changed.{changed, unchanged}
use Rattle.pe_set.proofs.adding.add_delayed.Goals as goal

-- there are as many lists as images
as_many : {A : Type 0} (ms : List (code_module.Module A)) (delayed : List (Vec Import A)) → map imports_view delayed ≡ map (delayed_in (modules_view ms)) (modules_view ms) → length delayed ≡ length ms
as_many ms delayed is = sym (length-map delayed imports_view) ∙ ap length is ∙ length-map (modules_view ms) (delayed_in (modules_view ms)) ∙ length-map ms module_view

-- as many images as before
still_many : {A : Type 0} (s : List Module) (f : Module → Module) (i : ℕ) (ms : List (code_module.Module A)) → modules_view ms ≡ map f (take i s) ++ drop i s → length ms ≡ length s
still_many s f i ms is =
    let parts = length-append (take i s) (drop i s) in
    let whole = ap length (take-append-drop i s) in
    let new = length-append (map f (take i s)) (drop i s) in
    let front = length-map (take i s) f in
    let count = sym (length-map ms module_view) ∙ ap length is in
    omega (arith, parts, whole, new, front, count)

module _ {A : Type 0} (first ms : List (code_module.Module A)) (delayed : List (Vec Import A)) (i : ℕ)
    (lists : map imports_view delayed ≡ map (delayed_in (modules_view first)) (modules_view first)) (lt : i < length delayed)
    (so_far : modules_view ms ≡ map (λ (m : Module). with_imports (delayed_in (modules_view first) m) m) (take i (modules_view first)) ++ drop i (modules_view first)) where
  abbrev s : List Module
  s = modules_view first

  abbrev f : Module → Module
  f = λ (m : Module). with_imports (delayed_in (modules_view first) m) m

  inside_s : i < length s
  inside_s =
      let count = as_many first delayed lists in
      let view = length-map first module_view in
      omega (arith, lt, count, view)

  inside : i < length ms
  inside =
      let count = still_many s f i ms so_far in
      let own = inside_s in
      omega (arith, count, own)

  -- image i is as it was
  here : (d : code_module.Module A) → module_view (get_or ms i d) ≡ get_or s i (module_view d)
  here d = sym (get_or-map module_view ms i d (module_view d) inside) ∙ unchanged f s i (module_view d) inside_s (modules_view ms) so_far

  sound_here : (d : code_module.Module A) → All IsSoundImage s → IsSoundImage (module_view (get_or ms i d))
  sound_here d all = subst IsSoundImage (sym (here d)) (all i (module_view d) inside_s)

  -- these are its delay-loaded imports
  own_list : (v : Vec Import A) (d : code_module.Module A) → v ≡ get_or delayed i v → imports_view v ≡ delayed_in s (module_view (get_or ms i d))
  own_list v d is =
      ap imports_view is
      ∙ sym (get_or-map imports_view delayed i v (delayed_in s (module_view d)) lt)
      ∙ ap (λ xs. get_or xs i (delayed_in s (module_view d))) lists
      ∙ get_or-map (delayed_in s) s i (module_view d) (delayed_in s (module_view d)) inside_s
      ∙ ap (delayed_in s) (sym (here d))

  one_more : (new d : code_module.Module A) (v : Vec Import A) → v ≡ get_or delayed i v → module_view new ≡ with_imports (imports_view v) (module_view (get_or ms i d))
      → modules_view (slice_set ms i new) ≡ map f (take (i + 1) s) ++ drop (i + 1) s
  one_more new d v at is =
      map-set module_view ms i new
      ∙ ap (λ (m : Module). slice_set (modules_view ms) i m) (is ∙ ap (λ xs. with_imports xs (module_view (get_or ms i d))) (own_list v d at) ∙ ap f (here d))
      ∙ changed f s i (module_view d) inside_s (modules_view ms) so_far

pub bounds-modules-index : goal.bounds-modules-index
bounds-modules-index g c = inside c.args.modules.now c.loop-index.modules c.args.delayed.now c.loop-index.index c.requires.delayed c.loop-index-test.true c.loop-index.invariant

pub offset_bounds-modules-index : goal.offset_bounds-modules-index
offset_bounds-modules-index g c =
    let count = as_many c.args.modules.now c.args.delayed.now c.requires.delayed in
    let lt = c.loop-index-test.true in
    let within : c.loop-index.index < length c.args.modules.now = omega (arith, count, lt) in
    search (rules, within)

pub add_imports-requires : goal.add_imports-requires
add_imports-requires g c =
    sound_here c.args.modules.now c.loop-index.modules c.args.delayed.now c.loop-index.index c.requires.delayed c.loop-index-test.true c.loop-index.invariant c.index-modules-index.result c.requires.sound

pub loop-index-preserved : goal.loop-index-preserved
loop-index-preserved g c =
    one_more c.args.modules.now c.loop-index.modules c.args.delayed.now c.loop-index.index c.requires.delayed c.loop-index-test.true c.loop-index.invariant
    c.add_imports.new.own c.index-modules-index.result c.index-delayed-index.result c.index-delayed-index.is
    (c.in_ok-add_imports.ensures ∙ ap (λ xs. with_imports (map import_view xs) (module_view (get_or c.loop-index.modules c.loop-index.index c.index-modules-index.result))) c.as_slice.ensures.value)

pub returns-clause-added : goal.returns-clause-added
unfolding with_delayed
returns-clause-added g c =
    let s = modules_view c.args.modules.now in
    let count = as_many c.args.modules.now c.args.delayed.now c.requires.delayed in
    let view = length-map c.args.modules.now module_view in
    let past = c.loop-index-test.false in
    let all : length s ≤ c.loop-index.index = omega (arith, count, view, past) in
    let f : Module → Module = λ (m : Module). with_imports (delayed_in s m) m in
    c.loop-index.invariant
    ∙ ap (λ xs. map f xs ++ drop c.loop-index.index s) (take_all c.loop-index.index s all)
    ∙ ap (λ xs. map f s ++ xs) (drop_all c.loop-index.index s all)
    ∙ append-nil (map f s)

pub returns-in_err-add_imports-clause-empty : goal.returns-in_err-add_imports-clause-empty
returns-in_err-add_imports-clause-empty g c = λ none.
    let count = as_many c.args.modules.now c.args.delayed.now c.requires.delayed in
    let lt = c.loop-index-test.true in
    absurd (omega (arith, count, lt, none))
