-- Units of memory are cut, and are room for any type that they hold. Assumes `Logic`.
use Rattle.std.proofs.Common.{◌≡◌, ℕ, zero, suc, ◌+◌, ◌-◌, ◌*◌, ◌/◌, ◌%◌, ◌≤◌, max, refl, sym, ap, subst, ◌∙◌, arith, [], ◌∷◌}
use seplogic.Ra.Ura.{Ura}
use mir.Syntax.{Ty, Tys, w8, w128, tnil, tcons, ty_int, ty_array, ty_struct}
use native.Mathlib.Nat.{mod_self, sub-zero}
use base.Logic.{SProp, ent, sep, wand, apply∗}
use prog.Memory.{size, align, pad, up, end_of}
use prog.Model.{rooms_at}
use prog.Align.{Dv, dv→, dv_zero, dv_one, dv_mul, align_pos}
use types.Logic.{Logic}
use types.Kit.{raw, ◌⊛◌, ◌$◌, ◌∵◌, !, qed, by, use1, use2, split, join, frame, assume, rewrite, done}
use denote.RawPtr.Room.{room_cut, past}
use Rattle.page_heap.specs.Ownership.{units_of}

abbrev unit : Ty
unit = ty_int w128

past_units : (k o : ℕ) → past unit k o ≡ o + k * 16
past_units zero o = omega arith
past_units (suc k) o = past_units k (o + 16) ∙ omega arith

-- a multiple is not rounded up
flush : (a n : ℕ) → Dv a n → up a n ≡ n
flush a n d =
    let gone : pad a n ≡ 0 = ap (λ (r : ℕ). (a - r) % a) (dv→ a n d) ∙ ap (λ (r : ℕ). r % a) (sub-zero a) ∙ mod_self a in
    ap (λ (r : ℕ). n + r) gone ∙ omega arith

module _ {M : Type 1} {𝓤 : Ura M} (𝓛 : Logic 𝓤) (b : ℕ) where
  open 𝓛 use {H}

  abbrev Pr : Type 2
  Pr = SProp 𝓤

  abbrev pub bytes : ℕ → ℕ → Pr
  bytes x n = H.room (units_of n) b x

  -- n bytes are m bytes, and those behind them
  pub cuts : (x m n : ℕ) → m % 16 ≡ 0 → m ≤ n → ent 𝓤 (bytes x n) (sep 𝓤 (bytes x m) (bytes (x + m) (n - m)))
  cuts x m n whole less =
      let rest = n - m in
      let sum : n / 16 ≡ m / 16 + rest / 16 = omega arith in
      let far : past unit (m / 16) x ≡ x + m = past_units (m / 16) x ∙ omega arith in
      qed 𝓛 (raw (bytes x n) ∷ []) ∵ rewrite ! 0 (λ (k : ℕ). raw (H.room (ty_array unit k) b x)) sum refl $
      use1 𝓛 (raw (bytes x m) ⊛ raw (bytes (past unit (m / 16) x) rest)) (room_cut 𝓛 unit (m / 16) (rest / 16) b x) $ split ! $
      rewrite ! 1 (λ (d : ℕ). raw (bytes d rest)) far refl $ done !

  -- n bytes are room for a type that they hold, as a struct of it and of the bytes behind it
  pub houses : (τ : Ty) (x n : ℕ) → n % 16 ≡ 0 → size τ ≤ n → Dv (align τ) 16 → ent 𝓤 (bytes x n) (sep 𝓤 (H.room τ b x) (wand 𝓤 (H.room τ b x) (bytes x n)))
  houses τ x n whole fits dv =
      let tail : Tys = tcons (ty_array (ty_int w8) (n - size τ)) tnil in
      let ω : Ty = ty_struct [] (tcons τ tail) in
      let one : max (align τ) 1 ≡ align τ = omega (arith, align_pos τ) in
      let start : up (align τ) 0 ≡ 0 = flush (align τ) 0 (dv_zero (align τ)) in
      let ends : end_of zero (tcons τ tail) ≡ n / 16 * 16 = ap (λ (k : ℕ). k + (n - size τ) * 1) (flush 1 (up (align τ) 0 + size τ) (dv_one (up (align τ) 0 + size τ)) ∙ ap (λ (k : ℕ). k + size τ) start) ∙ omega arith in
      let same : size ω ≡ n / 16 * 16 = (λ i. up (one i) (ends i)) ∙ flush (align τ) (n / 16 * 16) (dv_mul (align τ) 16 (n / 16) dv) in
      let first : x + up (align τ) 0 ≡ x = ap (λ (k : ℕ). x + k) start ∙ omega arith in
      let Tail : Pr = rooms_at 𝓤 H tail (up (align τ) 0 + size τ) b x in
      let Head : Pr = H.room τ b (x + up (align τ) 0) in
      subst (λ (d : ℕ). ent 𝓤 (bytes x n) (sep 𝓤 (H.room τ b d) (wand 𝓤 (H.room τ b d) (bytes x n)))) first
      (qed 𝓛 (raw (bytes x n) ∷ []) ∵
      use1 𝓛 (raw (H.room ω b x) ⊛ raw (wand 𝓤 (H.room ω b x) (bytes x n))) (𝓛.laws.room_as (units_of n) ω b x same (subst (λ (k : ℕ). Dv k 16) (sym one) dv)) $ split ! $
      use1 𝓛 ((raw Head ⊛ raw Tail) ⊛ raw (wand 𝓤 (sep 𝓤 Head Tail) (H.room ω b x))) (𝓛.laws.room_fields [] (tcons τ tail) b x) $ split ! $ split ! $ frame ! $ assume ! (raw Head) $ join ! $
      use2 𝓛 (raw (H.room ω b x)) (apply∗ 𝓤 (sep 𝓤 Head Tail) (H.room ω b x)) $ by ! (apply∗ 𝓤 (H.room ω b x) (bytes x n)))
