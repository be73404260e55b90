-- The entries of the certificate table, one step.
use Rattle.std.proofs.Common.{◌≡◌, ◌∙◌, refl, ℕ, zero, suc, Bool, cond, ◌+◌, ◌-◌, ◌*◌, ◌/◌, ◌≤◌, true, false, List, [], ◌∷◌, sym, ap, inl, inr, arith}
use Rattle.std.specs.Prelude.{Some, None}
use Rattle.std.proofs.lemmas.Option.{same_Some}
use Rattle.std.proofs.lemmas.Bool.{cases_Bool, and_parts, leb-true}
use Rattle.pe_trust.specs.CertificateTests.{stop_from, stop_of}
use Rattle.pe_trust.specs.Certificates.{Entry, length_at, entry_at, is_whole, next_of, whole_entry, entries_from, entries}

record Whole (file : List ℕ) (end at : ℕ) : Type 0 where
  header : at + 8 ≤ end
  some : 8 ≤ length_at file at

whole_parts : (file : List ℕ) (end at : ℕ) → is_whole file end at ≡ true → Whole file end at
whole_parts file end at is =
    let parts = and_parts _ _ is in
    let more = and_parts _ _ parts.1 in
    record { header = leb-true _ _ parts.0; some = leb-true _ _ more.0 }

none_left : (file : List ℕ) (end most at : ℕ) → end ≤ at → entries_from file end most at ≡ []
none_left file end zero at past = refl
none_left file end (suc most) at past = elim (cases_Bool (is_whole file end at)) [
  | inl is ↦ let w = (whole_parts file end at is).header in absurd (omega (arith, w, past))
  | inr no_more ↦ rw no_more refl
]

-- as many steps as there are bytes are enough
enough : (file : List ℕ) (end m n at : ℕ) → end ≤ at + m → end ≤ at + n → entries_from file end m at ≡ entries_from file end n at
enough file end zero n at first second = sym (none_left file end n at (omega (arith, first)))
enough file end (suc m) zero at first second = none_left file end (suc m) at (omega (arith, second))
enough file end (suc m) (suc n) at first second = elim (cases_Bool (is_whole file end at)) [
  | inl is ↦
      let w = (whole_parts file end at is).some in
      let rest = enough file end m n (next_of file at) (omega (arith, first, w)) (omega (arith, second, w)) in
      rw is (ap (λ (es : List Entry). entry_at file at ∷ es) rest)
  | inr no_more ↦ rw no_more refl
]

pub entries_more : (file : List ℕ) (end at : ℕ) → is_whole file end at ≡ true → entries file end at ≡ entry_at file at ∷ entries file end (next_of file at)
entries_more file end at is =
    let header = (whole_parts file end at is).header in
    let some = (whole_parts file end at is).some in
    let e : end - at ≡ suc (end - at - 1) = omega (arith, header) in
    ap (λ (n : ℕ). entries_from file end n at) e
    ∙ (rw is (ap (λ (es : List Entry). entry_at file at ∷ es) (enough file end (end - at - 1) (end - next_of file at) (next_of file at) (omega (arith, header, some)) (omega (arith)))))

none_of : (file : List ℕ) (end most at : ℕ) → is_whole file end at ≡ false → entries_from file end most at ≡ []
none_of file end zero at is = refl
none_of file end (suc most) at is = rw is refl

pub entries_none : (file : List ℕ) (end at : ℕ) → is_whole file end at ≡ false → entries file end at ≡ []
entries_none file end at is = none_of file end (end - at) at is

some_whole : (b : Bool) (x y : Entry) → Some x ≡ cond b (Some y) None → (b ≡ true) × (x ≡ y)
some_whole true x y e = (refl, same_Some x y e)
some_whole false x y e = absurd cc

none_whole : (b : Bool) (y : Entry) → None ≡ cond b (Some y) None → b ≡ false
none_whole true y e = absurd cc
none_whole false y e = refl

pub step_more : (file : List ℕ) (end at : ℕ) (x : Entry) → Some x ≡ whole_entry file end at → entries file end at ≡ x ∷ entries file end (at + (x.length + 7) / 8 * 8)
step_more file end at x e =
    let is = some_whole (is_whole file end at) x (entry_at file at) e in
    entries_more file end at is.0 ∙ ap (λ (y : Entry). y ∷ entries file end (at + (y.length + 7) / 8 * 8)) (sym is.1)

pub step_none : (file : List ℕ) (end at : ℕ) → None ≡ whole_entry file end at → entries file end at ≡ []
step_none file end at e = entries_none file end at (none_whole (is_whole file end at) (entry_at file at) e)

-- where the walk stops: at an entry that is not whole
stop_past : (file : List ℕ) (end most at : ℕ) → end ≤ at → stop_from file end most at ≡ at
stop_past file end zero at past = refl
stop_past file end (suc most) at past = elim (cases_Bool (is_whole file end at)) [
  | inl is ↦ let w = (whole_parts file end at is).header in absurd (omega (arith, w, past))
  | inr no_more ↦ rw no_more refl
]

stop_enough : (file : List ℕ) (end m n at : ℕ) → end ≤ at + m → end ≤ at + n → stop_from file end m at ≡ stop_from file end n at
stop_enough file end zero n at first second = sym (stop_past file end n at (omega (arith, first)))
stop_enough file end (suc m) zero at first second = stop_past file end (suc m) at (omega (arith, second))
stop_enough file end (suc m) (suc n) at first second = elim (cases_Bool (is_whole file end at)) [
  | inl is ↦
      let w = (whole_parts file end at is).some in
      rw is (stop_enough file end m n (next_of file at) (omega (arith, first, w)) (omega (arith, second, w)))
  | inr no_more ↦ rw no_more refl
]

stop_more : (file : List ℕ) (end at : ℕ) → is_whole file end at ≡ true → stop_of file end at ≡ stop_of file end (next_of file at)
stop_more file end at is =
    let header = (whole_parts file end at is).header in
    let some = (whole_parts file end at is).some in
    let e : end - at ≡ suc (end - at - 1) = omega (arith, header) in
    ap (λ (n : ℕ). stop_from file end n at) e
    ∙ (rw is (stop_enough file end (end - at - 1) (end - next_of file at) (next_of file at) (omega (arith, header, some)) (omega (arith))))

stop_at : (file : List ℕ) (end most at : ℕ) → is_whole file end at ≡ false → stop_from file end most at ≡ at
stop_at file end zero at is = refl
stop_at file end (suc most) at is = rw is refl

pub stop_step : (file : List ℕ) (end at : ℕ) (x : Entry) → Some x ≡ whole_entry file end at → stop_of file end at ≡ stop_of file end (at + (x.length + 7) / 8 * 8)
stop_step file end at x e =
    let is = some_whole (is_whole file end at) x (entry_at file at) e in
    stop_more file end at is.0 ∙ ap (λ (y : Entry). stop_of file end (at + (y.length + 7) / 8 * 8)) (sym is.1)

pub stop_here : (file : List ℕ) (end at : ℕ) → None ≡ whole_entry file end at → stop_of file end at ≡ at
stop_here file end at e = stop_at file end (end - at) at (none_whole (is_whole file end at) (entry_at file at) e)
