-- A window has the byte of each of its addresses.
use Rattle.std.proofs.Common.{◌≡◌, ℕ, zero, suc, ◌+◌, ◌-◌, ◌<◌, ◌==◌, Bool, true, false, cond, List, [], ◌∷◌, length, map, get_or, refl, ap, ◌∙◌, sym, subst, arith}
use Rattle.std.specs.Prelude.{Option, Some, unwrap_or, Result, Ok, Err}
use Rattle.std.proofs.lemmas.Bool.{eqb-true}
use Rattle.std.proofs.lemmas.List.{length-map}
use Rattle.pe_view.specs.declared.fault.Fault.{Fault}
use Rattle.pe_set.specs.Placement.{Placement, placement_at}
use Rattle.pe_space.specs.Content.{Content, placement_of, nth_image, is_in, placed_from, byte_at, byte_held, byte_in, bytes_from, image_at, window_in, window_at}
use Rattle.pe_space.proofs.Addressing.{Holds, holder_inside, placed_at, window_lies}
use Rattle.pe_space.proofs.SlotsAndFields.{is_in-true, true-is_in}

-- if an image contains the address, one is found
first_of : (b : Bool) (n : ℕ) (o : Option ℕ) → (j : ℕ) × (o ≡ Some j) → (j : ℕ) × (cond b (Some n) o ≡ Some j)
first_of true n o later = (n, refl)
first_of false n o later = later

someone : (n : ℕ) (ps : List Placement) (a k : ℕ) → k < length ps → is_in (placement_at ps k).base (placement_at ps k).size a ≡ true → (j : ℕ) × (placed_from n ps a ≡ Some j)
someone n [] a k lt holds = absurd (omega arith)
someone n (p ∷ ps) a zero lt holds = (n, ap (λ (b : Bool). cond b (Some n) (placed_from (n + 1) ps a)) holds)
someone n (p ∷ ps) a (suc k) lt holds = first_of (is_in p.base p.size a) n (placed_from (n + 1) ps a) (someone (n + 1) ps a k (omega arith) holds)

some_byte : (c : Content) (a k : ℕ) → Holds c.images a k → (v : ℕ) × (byte_at c a ≡ Some v)
some_byte c a k holds =
    let count = length-map c.images placement_of in
    let found = someone 0 (map placement_of c.images) a k (omega (arith, count, holds.0)) (subst (λ (p : Placement). is_in p.base p.size a ≡ true) (sym (placed_at c.images k)) holds.1) in
    (byte_in c found.0 (a - (nth_image c.images found.0).base), ap (byte_held c a) found.1)

-- each byte of a window inside an image
in_window : (c : Content) (a n j k : ℕ) → image_at c a n ≡ Ok j → k < n → (v : ℕ) × (byte_at c (a + k) ≡ Some v)
in_window c a n j k lies lt =
    let both = window_lies c.images a n j lies in
    let at = holder_inside 0 c.images a j both.0 in
    let same : at.0 ≡ j = (let e = at.1 in omega (arith, e)) in
    let holds : Holds c.images a j = subst (Holds c.images a) same at.2 in
    let low = (is_in-true _ _ a holds.1).0 in
    let high = both.1 in
    some_byte c (a + k) j (holds.0, true-is_in (nth_image c.images j).base (nth_image c.images j).size (a + k) (omega (arith, low)) (omega (arith, lt, high)))

-- ---- the bytes of a window
counted : (c : Content) (a n : ℕ) → length (bytes_from c a n) ≡ n
counted c a zero = refl
counted c a (suc n) = ap (λ k. suc k) (counted c (a + 1) n)

nth_byte : (c : Content) (a n k : ℕ) → k < n → get_or (bytes_from c a n) k 0 ≡ unwrap_or (byte_at c (a + k)) 0
nth_byte c a zero k lt = absurd (omega arith)
nth_byte c a (suc n) zero lt = let here : a ≡ a + 0 = omega arith in ap (λ b. unwrap_or (byte_at c b) 0) here
nth_byte c a (suc n) (suc k) lt =
    let there : a + 1 + k ≡ a + suc k = omega arith in
    nth_byte c (a + 1) n k (omega arith) ∙ ap (λ b. unwrap_or (byte_at c b) 0) there

pub record IsWindow (c : Content) (a n : ℕ) (bytes : List ℕ) : Type 0 where
  pub bytes_are : bytes ≡ bytes_from c a n
  pub each : (k : ℕ) → k < n → (v : ℕ) × (byte_at c (a + k) ≡ Some v)

same_ok : (xs ys : List ℕ) → (let r : Result (List ℕ) Fault = Ok xs in r ≡ Ok ys) → ys ≡ xs
same_ok xs ys e = cc

by_image : (c : Content) (a n : ℕ) (bytes : List ℕ) (o : Result ℕ Fault) → image_at c a n ≡ o → window_in c a n o ≡ Ok bytes → IsWindow c a n bytes
by_image c a n bytes (Ok j) lies is = record { bytes_are = same_ok (bytes_from c a n) bytes is; each = λ k lt. in_window c a n j k lies lt }
by_image c a n bytes (Err fault) lies is = absurd cc

by_count : (c : Content) (a n : ℕ) (bytes : List ℕ) (b : Bool) → (n == 0) ≡ b → cond b (Ok []) (window_in c a n (image_at c a n)) ≡ Ok bytes → IsWindow c a n bytes
by_count c a n bytes true none is =
    let zero_bytes : n ≡ 0 = eqb-true n 0 none in
    record { bytes_are = same_ok [] bytes is ∙ ap (bytes_from c a) (sym zero_bytes); each = λ k lt. absurd (omega (arith, zero_bytes, lt)) }
by_count c a n bytes false some is = by_image c a n bytes (image_at c a n) refl is

answered : (c : Content) (a n : ℕ) (bytes : List ℕ) → window_at c a n ≡ Ok bytes → IsWindow c a n bytes
answered c a n bytes is = by_count c a n bytes (n == 0) refl is

pub as_many : (c : Content) (a n : ℕ) (bytes : List ℕ) → window_at c a n ≡ Ok bytes → length bytes ≡ n
as_many c a n bytes is = ap length (answered c a n bytes is).bytes_are ∙ counted c a n

some_is : (o : Option ℕ) (v : ℕ) → o ≡ Some v → o ≡ Some (unwrap_or o 0)
some_is o v is = rw is refl

pub each_byte : (c : Content) (a n k : ℕ) (bytes : List ℕ) → window_at c a n ≡ Ok bytes → k < n → byte_at c (a + k) ≡ Some (get_or bytes k 0)
each_byte c a n k bytes is lt =
    let window = answered c a n bytes is in
    let byte = window.each k lt in
    some_is (byte_at c (a + k)) byte.0 byte.1
    ∙ ap (λ v. Some v) (sym (nth_byte c a n k lt) ∙ ap (λ xs. get_or xs k 0) (sym window.bytes_are))
