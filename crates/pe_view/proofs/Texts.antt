-- A search for the first zero byte finds where a string ends.
use Rattle.std.proofs.Common.{◌≡◌, ℕ, zero, suc, ◌-◌, ◌<◌, ◌≤◌, true, eqb, List, [], ◌∷◌, length, get_or, take, Option, Some, None, refl, arith}
use Rattle.std.specs.Prelude.{option_map}
use Rattle.std.proofs.lemmas.Bool.{eqb-true, le-leb}
use Rattle.bstr.specs.Find.{is_byte, IsFirstByte}
use Rattle.pe_view.specs.Number.{part}
use Rattle.pe_view.specs.Text.{zero_ended, text_between}

pub zero_ended-none : (bytes : List ℕ) → ((k : ℕ) → k < length bytes → eqb (get_or bytes k 0) 0 ≡ true → ⊥) → zero_ended bytes ≡ None
zero_ended-none [] none = refl
zero_ended-none (zero ∷ bytes) none = absurd (none 0 (omega arith) refl)
zero_ended-none (suc b ∷ bytes) none = rw (zero_ended-none bytes (λ k lt e. none (suc k) (omega arith) e)) refl

pub zero_ended-at : (bytes : List ℕ) (n : ℕ) → n < length bytes → get_or bytes n 0 ≡ 0 → ((k : ℕ) → k < n → eqb (get_or bytes k 0) 0 ≡ true → ⊥) → zero_ended bytes ≡ Some (take n bytes)
zero_ended-at [] n lt is_zero before = absurd (omega arith)
zero_ended-at (zero ∷ bytes) zero lt is_zero before = refl
zero_ended-at (zero ∷ bytes) (suc n) lt is_zero before = absurd (before 0 (omega arith) refl)
zero_ended-at (suc b ∷ bytes) zero lt is_zero before = absurd (omega arith)
zero_ended-at (suc b ∷ bytes) (suc n) lt is_zero before = rw (zero_ended-at bytes n (omega arith) is_zero (λ k below e. before (suc k) (omega arith) e)) refl

pub zero_ended-first : (bytes : List ℕ) (r : Option ℕ) → IsFirstByte (is_byte 0) bytes r → zero_ended bytes ≡ option_map (λ n. take n bytes) r
zero_ended-first bytes None none = zero_ended-none bytes (λ k lt e. none k (omega arith) lt e)
zero_ended-first bytes (Some n) found = zero_ended-at bytes n found.0.high (eqb-true _ _ found.1) (λ k lt e. found.0.before k (omega arith) lt e)

pub text_between-first : (file : List ℕ) (offset end : ℕ) (bytes : List ℕ) (r : Option ℕ) → end ≤ length file → bytes ≡ part file offset (end - offset) → IsFirstByte (is_byte 0) bytes r
    → text_between file offset end ≡ option_map (λ n. take n bytes) r
text_between-first file offset end bytes r inside is found = rw (le-leb end (length file) inside, ← is) (zero_ended-first bytes r found)
