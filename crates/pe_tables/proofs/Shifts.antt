-- Fields that are relocated from one base to another.
use Rattle.std.proofs.Common.{◌≡◌, ℕ, zero, ◌+◌, ◌-◌, ◌*◌, ◌/◌, ◌%◌, ◌^◌, ◌<◌, ◌≤◌, refl, sym, ap, ◌∙◌, arith}
use Rattle.std.proofs.Math.Nat.{add-mul, div-add-mod', mod-lt, mul-add-mod_self_right, mul-le-mul_left, one-le-pow}
use Rattle.std.specs.Prelude.{ℤ, pos, negsuc, ◌+ℤ◌, ◌-ℤ◌, ◌*ℤ◌, ◌≤ℤ◌, ◌≢◌, ◌↔◌, unsigned_abs}
use Rattle.std.proofs.lemmas.Int.{ints, int_rem_euclid_is}
use Rattle.std.specs.Int.{int_div_euclid, int_rem_euclid}
use borrow.Author.Differences.{up, down}
use Rattle.pe_tables.specs.Fixups.{width_of}
use Rattle.pe_tables.specs.declared.fixups.FixupKind.{FixupKind}
use Rattle.pe_tables.specs.declared.fixups.FixupKind.TheVariants.{Bits32, Bits64, High, Low}
use Rattle.pe_tables.specs.Relocated.{amount, shift}

-- ---- an amount added to the number of a field
abbrev pub added : FixupKind → ℕ → ℤ → ℕ
added kind v z = unsigned_abs (int_rem_euclid (pos v +ℤ z) (pos (256 ^ width_of kind)))

pow_pos256 : (n : ℕ) → zero < 256 ^ n
pow_pos256 n = let h = one-le-pow n 256 (omega arith) in omega arith

pub added_is : (v : ℕ) (kind : FixupKind) (b o k m : ℕ) → v + b + k * 256 ^ width_of kind ≡ m + o → added kind v (pos b -ℤ pos o) ≡ m % 256 ^ width_of kind
added_is v kind b o k m e = ap unsigned_abs (int_rem_euclid_is _ _ (256 ^ width_of kind) k m (pow_pos256 (width_of kind)) refl (omega (arith, ints)))

rem_lt : (z : ℤ) (n : ℕ) → zero < n → unsigned_abs (int_rem_euclid z (pos n)) < n
rem_lt (pos a) n h = mod-lt a h
rem_lt (negsuc a) n h = omega arith

added-difference : (v : ℕ) (kind : FixupKind) (o b c : ℕ) → added kind (added kind v (pos b -ℤ pos o)) (pos c -ℤ pos b) ≡ added kind v (pos c -ℤ pos o)
added-difference v kind o b c =
    let w = width_of kind in
    let big = pow_pos256 w in
    let low_o : o * 1 ≤ o * 256 ^ w = mul-le-mul_left o (omega arith) in
    let low_b : b * 1 ≤ b * 256 ^ w = mul-le-mul_left b (omega arith) in
    let m = v + b + o * 256 ^ w - o in
    let x = m % 256 ^ w in
    let q = m / 256 ^ w in
    let whole : q * 256 ^ w + x ≡ m = div-add-mod' m (256 ^ w) in
    let n = x + c + b * 256 ^ w - b in
    let spread : (b + o) * 256 ^ w ≡ b * 256 ^ w + o * 256 ^ w = add-mul b o (256 ^ w) in
    let first : added kind v (pos b -ℤ pos o) ≡ x = added_is v kind b o o m (omega arith) in
    let second : added kind x (pos c -ℤ pos b) ≡ n % 256 ^ w = added_is x kind c b b n (omega arith) in
    let both : added kind v (pos c -ℤ pos o) ≡ (q * 256 ^ w + n) % 256 ^ w = added_is v kind c o (b + o) (q * 256 ^ w + n) (omega arith) in
    ap (λ (y : ℕ). added kind y (pos c -ℤ pos b)) first ∙ second ∙ sym (both ∙ mul-add-mod_self_right q (256 ^ w) n)

added-sum : (kind : FixupKind) (v : ℕ) (d e : ℤ) → added kind (added kind v d) e ≡ added kind v (d +ℤ e)
added-sum kind v d e =
    let o = down d + down e in
    let b = up d + down e in
    let c = up d + up e in
    let is_d : d ≡ pos b -ℤ pos o = omega (arith, ints) in
    let is_e : e ≡ pos c -ℤ pos b = omega (arith, ints) in
    let is_both : d +ℤ e ≡ pos c -ℤ pos o = omega (arith, ints) in
    ap (λ (z : ℤ). added kind (added kind v z) e) is_d ∙ ap (λ (z : ℤ). added kind (added kind v (pos b -ℤ pos o)) z) is_e
    ∙ added-difference v kind o b c ∙ ap (added kind v) (sym is_both)

-- ---- the amount for a difference of bases
pub floor_is : (d q : ℤ) (r : ℕ) → r < 65536 → d ≡ pos 65536 *ℤ q +ℤ pos r → int_div_euclid d (pos 65536) ≡ q
floor_is (pos a) q r small e = omega (arith, ints)
floor_is (negsuc a) q r small e = omega (arith, ints)

pub floor_parts : (d : ℤ) → d ≡ pos 65536 *ℤ int_div_euclid d (pos 65536) +ℤ pos (unsigned_abs (int_rem_euclid d (pos 65536)))
floor_parts (pos a) = omega (arith, ints)
floor_parts (negsuc a) = omega (arith, ints)

quotient_sum : (v from to k m r : ℕ) (q : ℤ) → r < 65536 → pos to -ℤ pos from ≡ pos 65536 *ℤ q +ℤ pos r → to + 2 ^ 64 ≡ from + k * 2 ^ 64 + m
    → pos v +ℤ q +ℤ pos (2 ^ 32 * 65536) ≡ pos (v + m / 65536 + k * 2 ^ 48)
quotient_sum v from to k m r q small parts e = omega (arith, ints)

-- d / 65,536 rounded down is the greatest whole number not above it
pub floor_greatest : (d n : ℤ) → ((pos 65536 *ℤ n) ≤ℤ d) ↔ (n ≤ℤ int_div_euclid d (pos 65536))
floor_greatest d n =
    let parts = floor_parts d in
    let small = rem_lt d 65536 (omega arith) in
    (λ below. omega (arith, ints), λ below. omega (arith, ints))

-- a difference of bases modulo 2 ^ 64, divided by 65,536, in place of the amount of HIGH
pub added_quotient : (v from to k m : ℕ) → to + 2 ^ 64 ≡ from + k * 2 ^ 64 + m → added High v (amount High (pos to -ℤ pos from)) ≡ (v + m / 65536) % 65536
added_quotient v from to k m e =
    let d : ℤ = pos to -ℤ pos from in
    ap unsigned_abs (int_rem_euclid_is (pos v +ℤ amount High d) (pos 65536) 65536 (2 ^ 32) (v + m / 65536 + k * 2 ^ 48) (omega arith) refl
    (quotient_sum v from to k m (unsigned_abs (int_rem_euclid d (pos 65536))) (amount High d) (rem_lt d 65536 (omega arith)) (floor_parts d) e)) ∙ (omega arith)

-- what a difference that is a multiple of 65,536 adds is added to the amount
amount-sum : (kind : FixupKind) (d n : ℤ) → amount kind d +ℤ amount kind (pos 65536 *ℤ n) ≡ amount kind (d +ℤ pos 65536 *ℤ n)
amount-sum High d n =
    let parts = floor_parts d in
    let small = rem_lt d 65536 (omega arith) in
    let whole : int_div_euclid (pos 65536 *ℤ n) (pos 65536) ≡ n = floor_is (pos 65536 *ℤ n) n 0 (omega arith) (omega (arith, ints)) in
    ap (λ (z : ℤ). int_div_euclid d (pos 65536) +ℤ z) whole
    ∙ sym (floor_is (d +ℤ pos 65536 *ℤ n) (int_div_euclid d (pos 65536) +ℤ n) (unsigned_abs (int_rem_euclid d (pos 65536))) small (omega (arith, ints, parts)))
amount-sum Low d n = refl
amount-sum Bits32 d n = refl
amount-sum Bits64 d n = refl

-- ---- shifts
pub shift_lt : (v : ℕ) (kind : FixupKind) (d : ℤ) → shift kind v d < 256 ^ width_of kind
unfolding shift
shift_lt v kind d = rem_lt (pos v +ℤ amount kind d) (256 ^ width_of kind) (pow_pos256 (width_of kind))

-- a shift by d and then one by a multiple of 65,536 are one by their sum
pub shift-whole : (kind : FixupKind) (v : ℕ) (d n : ℤ) → shift kind (shift kind v d) (pos 65536 *ℤ n) ≡ shift kind v (d +ℤ pos 65536 *ℤ n)
unfolding shift
shift-whole kind v d n = added-sum kind v (amount kind d) (amount kind (pos 65536 *ℤ n)) ∙ ap (added kind v) (amount-sum kind d n)

-- of the other kinds any two compose
pub shift-add : (kind : FixupKind) (v : ℕ) (d e : ℤ) → kind ≢ High → shift kind (shift kind v d) e ≡ shift kind v (d +ℤ e)
unfolding shift
shift-add High v d e other = absurd (other refl)
shift-add Low v d e other = added-sum Low v d e
shift-add Bits32 v d e other = added-sum Bits32 v d e
shift-add Bits64 v d e other = added-sum Bits64 v d e

-- a shift to one base and then to another is the shift to the other, both being multiples of 65,536
pub shift-shift : (v : ℕ) (kind : FixupKind) (o b c : ℕ) → b % 65536 ≡ 0 → c % 65536 ≡ 0 → shift kind (shift kind v (pos b -ℤ pos o)) (pos c -ℤ pos b) ≡ shift kind v (pos c -ℤ pos o)
shift-shift v kind o b c b_whole c_whole =
    let n : ℤ = pos (c / 65536) -ℤ pos (b / 65536) in
    let difference : pos c -ℤ pos b ≡ pos 65536 *ℤ n = omega (arith, ints) in
    let sum : (pos b -ℤ pos o) +ℤ pos 65536 *ℤ n ≡ pos c -ℤ pos o = omega (arith, ints) in
    ap (shift kind (shift kind v (pos b -ℤ pos o))) difference ∙ shift-whole kind v (pos b -ℤ pos o) n ∙ ap (shift kind v) sum
