-- The tests of a move: the place of an image, alone and beside all others.
use Rattle.std.proofs.Common.{◌≡◌, ◌∙◌, ◌+◌, ◌%◌, ◌&&◌, ◌<◌, ℕ, zero, suc, Bool, true, cond, not, List, [], ◌∷◌, map, length, get_or, ◌≤◌, ◌^◌, false, None, Some, refl, sym, ap, arith}
use Rattle.std.specs.Prelude.{nat_lt, ◌==◌}
use Rattle.std.proofs.lemmas.List.{length-map}
use Rattle.std.specs.List.{list_any}
use Rattle.std.proofs.lemmas.Bool.{ltb-false}
use borrow.Author.Tests.{lt-ltb}
use Rattle.pe_view.specs.Faults.{first_standing}
use Rattle.pe_view.specs.FirstStanding.{none_stands}
use Rattle.pe_view.specs.declared.fault.Fault.{Fault}
use Rattle.pe_view.specs.declared.fault.Place.TheVariants.{Address, Item}
use Rattle.pe_head.specs.declared.optional.Magic.{Magic}
use Rattle.pe_head.specs.declared.optional.Magic.TheVariants.{Pe32, Pe32Plus}
use Rattle.pe_set.specs.Placement.{Placement, address_limit, overlap, base_tests, placement_at, others_than, move_tests}

-- the place of the image with a number
pub own_at : {X : Type 0} (place : X → Placement) (xs : List X) (own : X) (i : ℕ) → i < length xs → own ≡ get_or xs i own → placement_at (map place xs) i ≡ place own
own_at place [] own i lt is = absurd (omega arith)
own_at place (x ∷ xs) own zero lt is = ap place (sym is)
own_at place (x ∷ xs) own (suc i) lt is = own_at place xs own i (omega arith) is

pub move_asked : {X : Type 0} (place : X → Placement) (xs : List X) (own : X) (i base : ℕ) → i < length xs → own ≡ get_or xs i own
    → first_standing (base_tests (others_than i (map place xs)) i (record (place own) { base = base })) ≡ first_standing (move_tests (map place xs) i base)
move_asked place xs own i base lt is =
    let ps = map place xs in
    let count = length-map xs place in
    let there : nat_lt i (length ps) ≡ true = lt-ltb i (length ps) (omega (arith, lt, count)) in
    ap (λ (p : Placement). first_standing (base_tests (others_than i ps) i (record p { base = base }))) (sym (own_at place xs own i lt is))
    ∙ sym (ap (λ (b : Bool). cond (not b) (Some (record { number = 55; image = i; place = Item i })) (first_standing (base_tests (others_than i ps) i (record (placement_at ps i) { base = base })))) there)

pub limit_le : (magic : Magic) → address_limit magic ≤ 2 ^ 64
limit_le Pe32 = omega arith
limit_le Pe32Plus = omega arith

-- ---- the tests of a base alone, and then beside other images
alone_some : (a b c d : Bool) (f g h k fault : Fault) → cond a (Some f) (cond b (Some g) (cond c (Some h) None)) ≡ Some fault → Some fault ≡ cond a (Some f) (cond b (Some g) (cond c (Some h) (cond d (Some k) None)))
alone_some true b c d f g h k fault is = sym is
alone_some false true c d f g h k fault is = sym is
alone_some false false true d f g h k fault is = sym is
alone_some false false false d f g h k fault is = absurd cc

alone_none : (a b c d : Bool) (f g h k : Fault) → cond a (Some f) (cond b (Some g) (cond c (Some h) None)) ≡ None → cond d (Some k) None ≡ cond a (Some f) (cond b (Some g) (cond c (Some h) (cond d (Some k) None)))
alone_none true b c d f g h k is = absurd cc
alone_none false true c d f g h k is = absurd cc
alone_none false false true d f g h k is = absurd cc
alone_none false false false d f g h k is = refl

-- a fault of a base
at_base : ℕ → Placement → ℕ → Fault
at_base i p n = record { number = n; image = i; place = Address p.base }

pub base_alone_some : (others : List Placement) (i : ℕ) (p : Placement) (fault : Fault) → first_standing (base_tests [] i p) ≡ Some fault → Some fault ≡ first_standing (base_tests others i p)
unfolding at_base
base_alone_some others i p fault is =
    alone_some (not (p.base % 65536 == 0)) (nat_lt (address_limit p.magic) (p.base + p.size)) (p.is_stripped && not (p.base == p.image_base)) (list_any (overlap p) others) (at_base i p 44) (at_base i p 45) (at_base i p 46) (at_base i p 47) fault is

pub base_alone_none : (others : List Placement) (i : ℕ) (p : Placement) (b : Bool) → first_standing (base_tests [] i p) ≡ None → list_any (overlap p) others ≡ b
    → cond b (Some (record { number = 47; image = i; place = Address p.base })) None ≡ first_standing (base_tests others i p)
unfolding at_base
base_alone_none others i p b is met =
    ap (λ (t : Bool). cond t (Some (at_base i p 47)) None) (sym met)
    ∙ alone_none (not (p.base % 65536 == 0)) (nat_lt (address_limit p.magic) (p.base + p.size)) (p.is_stripped && not (p.base == p.image_base)) (list_any (overlap p) others) (at_base i p 44) (at_base i p 45) (at_base i p 46) (at_base i p 47) is

-- the image ends inside the address space
pub base_room : (i : ℕ) (p : Placement) → first_standing (base_tests [] i p) ≡ None → p.base + p.size ≤ 2 ^ 64
base_room i p none =
    let room = ltb-false (address_limit p.magic) (p.base + p.size) (none_stands (base_tests [] i p) 1 _ none refl) in
    let most = limit_le p.magic in
    omega arith
