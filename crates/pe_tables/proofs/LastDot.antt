-- A string before and after its last dot, by the dot's index.
use Rattle.std.proofs.Common.{◌≡◌, ℕ, zero, suc, ◌+◌, ◌<◌, true, false, List, [], ◌∷◌, length, take, drop, Some, None, refl, sym, ap, ◌∙◌, arith}
use Rattle.std.specs.Prelude.{◌==◌, slice_index}
use Rattle.std.proofs.lemmas.Bool.{false_from_ne_true}
use Rattle.pe_tables.specs.Forwarder.{at_dot, at_last_dot}

abbrev NoDot : List ℕ → Type 0
NoDot text = (k : ℕ) → k < length text → (slice_index text k == 46) ≡ true → ⊥

pub no_dot : (text : List ℕ) → NoDot text → at_last_dot text ≡ None
no_dot [] none = refl
no_dot (byte ∷ bytes) none =
    let later : at_last_dot bytes ≡ None = no_dot bytes (λ k lt is. none (suc k) (omega arith) is) in
    let here : (byte == 46) ≡ false = false_from_ne_true (byte == 46) (λ is. none 0 (omega arith) is) in
    ap (at_dot byte bytes) later ∙ (let e : at_dot byte bytes None ≡ None = rw here refl in e)

pub last_dot : (text : List ℕ) (dot : ℕ) → dot < length text → (slice_index text dot == 46) ≡ true → ((k : ℕ) → dot < k → k < length text → (slice_index text k == 46) ≡ true → ⊥)
    → at_last_dot text ≡ Some (take dot text, drop (dot + 1) text)
last_dot [] dot lt is after = absurd (omega arith)
last_dot (byte ∷ bytes) zero lt is after =
    let later : at_last_dot bytes ≡ None = no_dot bytes (λ k lt' is'. after (suc k) (omega arith) (omega arith) is') in
    ap (at_dot byte bytes) later ∙ (let e : at_dot byte bytes None ≡ Some ([], bytes) = rw is refl in e)
last_dot (byte ∷ bytes) (suc dot) lt is after =
    let next : suc dot + 1 ≡ suc (dot + 1) = omega arith in
    ap (at_dot byte bytes) (last_dot bytes dot (omega arith) is (λ k low lt' is'. after (suc k) (omega arith) (omega arith) is'))
    ∙ ap (λ (n : ℕ). Some (byte ∷ take dot bytes, drop n (byte ∷ bytes))) (sym next)
