-- Numbers read from the bytes of another number.
use Rattle.std.proofs.Common.{◌≡◌, ℕ, zero, suc, ◌+◌, ◌/◌, ◌%◌, ◌^◌, ◌<◌, sym, ap, ◌∙◌, arith}
use Rattle.std.proofs.Math.Arith.{mod-mul}
use Rattle.std.proofs.Math.Nat.{div-div-eq-div-mul, div-one, mod-eq_of_lt, one-le-pow, pow-suc}
use Rattle.pe_view.specs.Number.{num, digit}

pow_pos256 : (n : ℕ) → zero < 256 ^ n
pow_pos256 n = let h = one-le-pow n 256 (omega arith) in omega arith

-- the number in bytes that are those of v from byte j on is v without its lowest j bytes
pub num_of_digits : (byte : ℕ → ℕ) (a j w v : ℕ) → ((k : ℕ) → k < w → byte (a + k) ≡ digit v (j + k)) → num byte a w ≡ v / 256 ^ j % 256 ^ w
num_of_digits byte a j zero v h = omega arith
num_of_digits byte a j (suc w) v h =
    let first : byte a ≡ digit v j = ap byte (omega arith) ∙ h 0 (omega arith) ∙ ap (digit v) (omega arith) in
    let rest : num byte (a + 1) w ≡ v / 256 ^ suc j % 256 ^ w = num_of_digits byte (a + 1) (suc j) w v (λ k lt. ap byte (omega arith) ∙ h (suc k) (omega arith) ∙ ap (digit v) (omega arith)) in
    let down : v / 256 ^ suc j ≡ v / 256 ^ j / 256 = ap (λ (p : ℕ). v / p) (pow-suc 256 j) ∙ sym (div-div-eq-div-mul v (256 ^ j) 256) in
    let split = mod-mul (v / 256 ^ j) {m = 256 ^ w} {c = 256} (pow_pos256 w) (omega arith) in
    rw (first, rest, down, pow-suc 256 w, split) (omega arith)

-- a number that fits is read from its own bytes
pub num_of_own_digits : (byte : ℕ → ℕ) (a w v : ℕ) → v < 256 ^ w → ((k : ℕ) → k < w → byte (a + k) ≡ digit v k) → num byte a w ≡ v
num_of_own_digits byte a w v fits h =
    num_of_digits byte a 0 w v (λ k lt. h k lt ∙ ap (digit v) (omega arith))
    ∙ ap (λ (y : ℕ). y % 256 ^ w) (div-one v) ∙ mod-eq_of_lt fits
