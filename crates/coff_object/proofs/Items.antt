-- The first item for which a test holds, by its index.
use Rattle.std.proofs.Common.{◌≡◌, ℕ, suc, ◌+◌, ◌-◌, ◌^◌, Bool, true, false, cond, List, [], ◌∷◌, length, Option, Some, None, refl, sym, ap, ◌∙◌, arith, inl, inr}
use Rattle.std.specs.Prelude.{position, nat_lt, not, option_map, min}
use Rattle.std.specs.List.{prefix_len}
use Rattle.std.proofs.lemmas.Bool.{cases_Bool, lt-ltb, le-ltb, ltb-true, ltb-false}
use Rattle.pe_view.specs.Faults.{first_standing}
use Rattle.pe_view.specs.declared.fault.Fault.{Fault}
use Rattle.pe_view.specs.declared.fault.Place.TheVariants.{Item}
use Rattle.coff_object.specs.WriteFaults.{each_item}

-- the fault of an item
abbrev pub item_fault : ℕ → ℕ → Fault
item_fault number k = record { number = number; image = 0; place = Item (min k (2 ^ 32 - 1)) }

ltb-suc : (a b : ℕ) → nat_lt (1 + a) (suc b) ≡ nat_lt a b
ltb-suc a b = elim (cases_Bool (nat_lt a b)) [
  | inl less ↦ (let lt = ltb-true a b less in lt-ltb (1 + a) (suc b) (omega arith) ∙ sym less)
  | inr more ↦ (let le = ltb-false a b more in le-ltb (1 + a) (suc b) (omega arith) ∙ sym more)
]

position-cons : {X : Type 0} (p : X → Bool) (x : X) (xs : List X) → p x ≡ false → position p (x ∷ xs) ≡ option_map (λ n. 1 + n) (position p xs)
position-cons p x xs none =
    let n : ℕ = prefix_len (λ y. not (p y)) xs in
    rw none (ap (λ (b : Bool). cond b (Some (1 + n)) None) (ltb-suc n (length xs)) ∙ shift (nat_lt n (length xs)) n)
  where
    shift : (b : Bool) (n : ℕ) → cond b (Some (1 + n)) None ≡ option_map (λ n. 1 + n) (cond b (Some n) None)
    shift true n = refl
    shift false n = refl

position-here : {X : Type 0} (p : X → Bool) (x : X) (xs : List X) → p x ≡ true → position p (x ∷ xs) ≡ Some 0
position-here p x xs is = rw is (ap (λ (b : Bool). cond b (Some 0) None) (lt-ltb 0 (suc (length xs)) (omega arith)))

shifted : (number k : ℕ) (o : Option ℕ) → option_map (λ i. item_fault number (k + 1 + i)) o ≡ option_map (λ i. item_fault number (k + i)) (option_map (λ n. 1 + n) o)
shifted number k None = refl
shifted number k (Some i) = let e : k + 1 + i ≡ k + (1 + i) = omega arith in ap (λ (n : ℕ). Some (item_fault number n)) e

pub each_first : {X : Type 0} (number : ℕ) (p : X → Bool) (k : ℕ) (xs : List X) → first_standing (each_item number p k xs) ≡ option_map (λ i. item_fault number (k + i)) (position p xs)
each_first number p k [] = refl
each_first number p k (x ∷ xs) = elim (cases_Bool (p x)) [
  | inl is ↦
      (let e : k ≡ k + 0 = omega arith in
      ap (λ (b : Bool). cond b (Some (item_fault number k)) (first_standing (each_item number p (k + 1) xs))) is ∙ ap (λ (n : ℕ). Some (item_fault number n)) e
      ∙ sym (ap (option_map (λ i. item_fault number (k + i))) (position-here p x xs is)))
  | inr none ↦
      ap (λ (b : Bool). cond b (Some (item_fault number k)) (first_standing (each_item number p (k + 1) xs))) none ∙ each_first number p (k + 1) xs
      ∙ shifted number k (position p xs) ∙ sym (ap (option_map (λ i. item_fault number (k + i))) (position-cons p x xs none))
]

pub item_found : {X : Type 0} (number : ℕ) (p : X → Bool) (k i : ℕ) (xs ys : List X) → xs ≡ ys → Some i ≡ position p xs → first_standing (each_item number p k ys) ≡ Some (item_fault number (k + i))
item_found number p k i xs ys same is =
    ap (λ (zs : List _). first_standing (each_item number p k zs)) (sym same) ∙ each_first number p k xs ∙ ap (option_map (λ i. item_fault number (k + i))) (sym is)

pub no_item : {X : Type 0} (number : ℕ) (p : X → Bool) (k : ℕ) (xs ys : List X) → xs ≡ ys → None ≡ position p xs → first_standing (each_item number p k ys) ≡ None
no_item number p k xs ys same is =
    ap (λ (zs : List _). first_standing (each_item number p k zs)) (sym same) ∙ each_first number p k xs ∙ ap (option_map (λ i. item_fault number (k + i))) (sym is)

-- an index capped at the greatest of 64 bits is still past the greatest that a place can hold
pub same_item : (number k i n : ℕ) → n ≡ min (k + i) (2 ^ 64 - 1) → item_fault number n ≡ item_fault number (k + i)
same_item number k i n is = let e : min n (2 ^ 32 - 1) ≡ min (k + i) (2 ^ 32 - 1) = omega arith in ap (λ (m : ℕ). record { number = number; image = 0; place = Item m }) e

pub first_told : (number i : ℕ) (y : Fault) → y ≡ item_fault number i → Some (item_fault number (0 + i)) ≡ Some y
first_told number i y is = let e : 0 + i ≡ i = omega arith in ap (λ (n : ℕ). Some (item_fault number n)) e ∙ ap (λ (z : Fault). Some z) (sym is)

pub later_told : (number k i n : ℕ) (y : Fault) → n ≡ min (k + i) (2 ^ 64 - 1) → y ≡ item_fault number n → Some (item_fault number (k + i)) ≡ Some y
later_told number k i n y is told = ap (λ (z : Fault). Some z) (sym (same_item number k i n is) ∙ sym told)
