use Rattle.std.proofs.Common.{◌≡◌, ◌∙◌, ◌<◌, ◌∷◌, ◌++◌, ℕ, List, [], Bool, true, false, not, length, map, take, get_or, arith, append-nil, refl, sym, ap, Some}
use Rattle.std.proofs.lemmas.List.{take-map}
use Rattle.std.proofs.lemmas.Simd.{map-map}
use Rattle.pe_head.specs.declared.optional.Magic.{Magic}
use Rattle.pe_view.specs.Faults.{first_standing}
use Rattle.pe_view.specs.declared.fault.Place.TheVariants.{Item}
use Rattle.pe_set.specs.Placement.{Placement, base_tests}
use Rattle.pe_set.specs.Set.{Module, placement_of}
use Rattle.pe_set.specs.SetFaults.{same_magic, has_other_magic, placing_tests, places_tests}
use Rattle.pe_set.specs.SetView.{module_view, modules_view}
use Rattle.pe_set.proofs.Asking.{next_here, asked_past, asked_in, asked_all}
use Rattle.pe_set.proofs.Magics.{same_magic-sameb}
use Rattle.pe_set.proofs.Searching.{own_base}
use Rattle.pe_set.specs.declared.reading.Module as code_module
use Rattle.pe_set.proofs.place_faults.check_places.Goals as goal

-- the first image is compared
first_decides : {A : Type 0} (ms : List (code_module.Module A)) (first : code_module.Module A) (m : Module) (b : Bool) → 0 < length ms → first ≡ get_or ms 0 first
    → not (same_magic (module_view first).magic m.magic) ≡ b → has_other_magic (modules_view ms) m ≡ b
first_decides [] first m b some is decides = absurd (omega arith)
first_decides (x ∷ ms) first m b some is decides = ap (λ (y : code_module.Module _). not (same_magic (module_view y).magic m.magic)) (sym is) ∙ decides

tests_other : (s : List Module) (i : ℕ) (m : Module) → has_other_magic s m ≡ true → first_standing (placing_tests s i m) ≡ Some (record { number = 43; image = i; place = Item i })
tests_other s i m other = rw other refl

tests_base : (s : List Module) (i : ℕ) (m : Module) → has_other_magic s m ≡ false → first_standing (placing_tests s i m) ≡ first_standing (base_tests (map placement_of (take i s)) i (placement_of m))
tests_base s i m same = rw same refl

-- the Magic of the first and of this one are compared
compared : (m own a b : Magic) (r : Bool) → a ≡ m → b ≡ own → not (denote.Enum.Bare.sameb Rattle.pe_head.specs.contracts.optional.Magic.the_type a b) ≡ r → not (same_magic m own) ≡ r
compared m own a b r is_a is_b differs =
    ap (λ (g : Magic). not (same_magic m g)) (sym is_b) ∙ ap (λ (g : Magic). not (same_magic g b)) (sym is_a) ∙ ap not (sym (same_magic-sameb a b)) ∙ differs

-- an image is tested with those before it
beside : {A : Type 0} (ms : List (code_module.Module A)) (i : ℕ) (own : code_module.Module A)
    → base_tests (map (λ (m : code_module.Module A). placement_of (module_view m)) (take i ms) ++ []) i (record (placement_of (module_view own)) { base = own.base })
    ≡ base_tests (map placement_of (take i (modules_view ms))) i (placement_of (module_view own))
beside {A = A} ms i own =
    let before : map (λ (m : code_module.Module A). placement_of (module_view m)) (take i ms) ++ [] ≡ map placement_of (take i (modules_view ms)) =
    append-nil (map (λ (m : code_module.Module A). placement_of (module_view m)) (take i ms))
    ∙ sym (map-map placement_of module_view (take i ms)) ∙ ap (map placement_of) (sym (take-map module_view i ms)) in
    ap (λ (ps : List Placement). base_tests ps i (record (placement_of (module_view own)) { base = own.base })) before
    ∙ ap (λ (base : ℕ). base_tests (map placement_of (take i (modules_view ms))) i (record (placement_of (module_view own)) { base = base })) (sym (own_base own))

pub returns-then-ne-clause-exact : goal.returns-then-ne-clause-exact
unfolding places_tests
returns-then-ne-clause-exact g c =
    let ms = c.args.modules.now in
    let i : ℕ = c.loop-index.index in
    let lt = c.loop-index-test.true in
    let own = c.index-modules-index.result in
    let first = c.index-modules-0.result in
    let s = modules_view ms in
    let differs = compared (module_view first).magic (module_view own).magic c.magic.result c.magic-in-loop-index.result true c.magic.ensures c.magic-in-loop-index.ensures (sym c.ne.ensures ∙ c.if-ne.true) in
    let other = first_decides ms first (module_view own) true (omega arith) c.index-modules-0.is differs in
    rw (c.fault.ensures, c.from.ensures)
    (asked_in module_view (placing_tests s) ms i own (next_here ms i own c.index-modules-index.is lt) c.loop-index.invariant _ (tests_other s i (module_view own) other))

pub returns-in-Some-clause-exact : goal.returns-in-Some-clause-exact
unfolding places_tests
returns-in-Some-clause-exact g c =
    let ms = c.args.modules.now in
    let i : ℕ = c.loop-index.index in
    let lt = c.loop-index-test.true in
    let own = c.index-modules-index.result in
    let first = c.index-modules-0.result in
    let s = modules_view ms in
    let differs = compared (module_view first).magic (module_view own).magic c.magic.result c.magic-in-loop-index.result false c.magic.ensures c.magic-in-loop-index.ensures (sym c.ne.ensures ∙ c.if-ne.false) in
    let same = first_decides ms first (module_view own) false (omega arith) c.index-modules-0.is differs in
    let found = tests_base s i (module_view own) same ∙ ap first_standing (sym (beside ms i own)) ∙ sym c.base_fault.ensures ∙ c.in-Some.is in
    asked_in module_view (placing_tests s) ms i own (next_here ms i own c.index-modules-index.is lt) c.loop-index.invariant c.in-Some.fault found

pub loop-index-preserved : goal.loop-index-preserved
loop-index-preserved g c =
    let ms = c.args.modules.now in
    let i : ℕ = c.loop-index.index in
    let lt = c.loop-index-test.true in
    let own = c.index-modules-index.result in
    let first = c.index-modules-0.result in
    let s = modules_view ms in
    let differs = compared (module_view first).magic (module_view own).magic c.magic.result c.magic-in-loop-index.result false c.magic.ensures c.magic-in-loop-index.ensures (sym c.ne.ensures ∙ c.if-ne.false) in
    let same = first_decides ms first (module_view own) false (omega arith) c.index-modules-0.is differs in
    let none = tests_base s i (module_view own) same ∙ ap first_standing (sym (beside ms i own)) ∙ sym c.base_fault.ensures ∙ c.in_default.is in
    asked_past module_view (placing_tests s) ms i own (next_here ms i own c.index-modules-index.is lt) c.loop-index.invariant none

pub returns-clause-exact : goal.returns-clause-exact
unfolding places_tests
returns-clause-exact g c = (asked_all module_view (placing_tests (modules_view c.args.modules.now)) c.args.modules.now c.loop-index.index c.loop-index-test.false c.loop-index.invariant, tt)
