-- The order of the strings that have no slot: by length, and then by bytes.
use Rattle.std.proofs.Common.{◌≡◌, ℕ, Bool, false, List, length, Some, refl, sym, ap, ◌∙◌, arith, inl, inr, eq-eqb}
use Rattle.std.specs.Prelude.{if◌then◌else◌, cond}
use Rattle.std.specs.Borrow.{Bor}
use Rattle.std.specs.Str.{bytes_eq}
use Rattle.std.specs.Ordering.{nat_cmp, ordering_then, is_eq}
use Rattle.std.specs.declared.cmp.Ordering.{Ordering}
use Rattle.std.specs.declared.cmp.Ordering.TheVariants.{Less, Equal, Greater}
use Rattle.std.specs.Cmp.Lexicographic.{slice_cmp}
use Rattle.std.specs.BTreeMap.{BTreeMap, Updates}
use Rattle.std.proofs.lemmas.Bool.{cases_Bool, le-ltb}
use Rattle.std.proofs.lemmas.Map.Text.{is_eq-slice_cmp}
use Rattle.std.proofs.lemmas.Slice.Eq.{bytes_eq-Decides}
use Rattle.coff_object.specs.Slots.{held}

abbrev pub Key : Type 0
Key = ℕ × Bor (List ℕ)

abbrev pub compare : Key → Key → Ordering
compare x y = ordering_then (nat_cmp x.0 y.0) (slice_cmp nat_cmp x.1.now y.1.now)

then_apart : (x y : Ordering) → is_eq y ≡ false → is_eq (ordering_then x y) ≡ false
then_apart Less y apart = refl
then_apart Equal y apart = apart
then_apart Greater y apart = refl

cmp_itself : (n : ℕ) → nat_cmp n n ≡ Equal
cmp_itself n = rw (le-ltb n n (omega arith), eq-eqb n n refl) refl

-- strings that compare as equal in the order are equal
pub same_key : (a b : List ℕ) → is_eq (ordering_then (nat_cmp (length a) (length b)) (slice_cmp nat_cmp a b)) ≡ bytes_eq a b
same_key a b = elim (cases_Bool (bytes_eq a b)) [
  | inl same ↦
      (let lengths : length a ≡ length b = ap length ((bytes_eq-Decides a b).0 same) in
      rw (lengths, cmp_itself (length b)) (is_eq-slice_cmp a b))
  | inr apart ↦
      (then_apart (nat_cmp (length a) (length b)) (slice_cmp nat_cmp a b) (is_eq-slice_cmp a b ∙ apart) ∙ sym apart)
]

-- what is stored for a string after another one was added
pub held_after : (t : Bor (List ℕ)) (offset : ℕ) (old new : BTreeMap Key ℕ) → Updates compare old new (length t.now, t) (Some offset) → (text : List ℕ) → held new text ≡ (if bytes_eq t.now text then Some offset else held old text)
held_after t offset old new updates text =
    let q : Bor (List ℕ) = record { ref_ptr = (0, 0); now = text } in
    updates.0 (length text, q) ∙ ap (λ (b : Bool). cond b (Some offset) (held old text)) (same_key t.now text)
