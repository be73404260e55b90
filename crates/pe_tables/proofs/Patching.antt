-- Bytes after numbers were written over some of them.
use Rattle.std.proofs.Common.{◌≡◌, ℕ, zero, suc, ◌+◌, ◌-◌, ◌*◌, ◌/◌, ◌%◌, ◌<◌, ◌≤◌, ◌^◌, List, [], ◌∷◌, ◌++◌, append-nil, length, length-drop, take, drop, refl, ap, ◌∙◌, sym, arith}
use Rattle.std.specs.Prelude.{ℤ, pos, ◌-ℤ◌}
use Rattle.std.specs.Int.{byte_at, bytes_low_first}
use Rattle.std.proofs.lemmas.List.{get_or-drop, drop_all, take_rest}
use Rattle.std.proofs.Math.Arith.{mod-mul}
use Rattle.std.proofs.Math.Nat.{div-add-mod', mod-eq_of_lt, mod-lt, mul-add-mod_self_right}
use borrow.Rule.Slice.PartMut.{put_mid}
use Rattle.byteorder.specs.Endian.{little_from}
use Rattle.pe_view.specs.Number.{num, byte_of}
use Rattle.pe_tables.specs.Fixups.{width_of}
use Rattle.pe_tables.specs.Patch.{patch, bytes, shifted_at}
use Rattle.pe_tables.specs.Patched.{length-bytes_from}
use Rattle.pe_tables.specs.Relocated.{shift}
use Rattle.pe_tables.specs.declared.fixups.FixupKind.{FixupKind}
use Rattle.pe_tables.specs.declared.fixups.FixupKind.TheVariants.{Bits32, Bits64, High, Low}
use Rattle.pe_tables.proofs.Shifts.{added, added_is, added_quotient}

take-bytes : (i k n x : ℕ) → n ≤ k → take n (bytes_low_first i k x) ≡ bytes_low_first i n x
take-bytes i k zero x h = refl
take-bytes i zero (suc n) x h = absurd (omega arith)
take-bytes i (suc k) (suc n) x h = ap (λ (r : List ℕ). byte_at i x ∷ r) (take-bytes (suc i) k n x (omega arith))

pub written_low : (xs ys : List ℕ) (place width v : ℕ) → width ≤ 8 → ys ≡ take width (bytes_low_first 0 8 v) → put_mid place (place + width - place) xs ys ≡ patch xs place (bytes width v)
unfolding patch
written_low xs ys place width v narrow e =
    let low : ys ≡ bytes width v = e ∙ take-bytes 0 8 width v narrow in
    let len : length (bytes width v) ≡ width = length-bytes_from 0 width v in
    let count : place + width - place ≡ width = omega arith in
    rw (low, len, count) refl

-- the number in the bytes at an offset, as `byteorder` reads it
number_read : (xs : List ℕ) (place i w : ℕ) → little_from i w (drop place xs) ≡ num (byte_of xs) (place + i) w
number_read xs place i zero = refl
number_read xs place i (suc w) =
    let e : place + suc i ≡ place + i + 1 = omega arith in
    let more : little_from (suc i) w (drop place xs) ≡ num (byte_of xs) (place + i + 1) w = number_read xs place (suc i) w ∙ ap (λ (p : ℕ). num (byte_of xs) p w) e in
    rw (get_or-drop place xs i 0, more) refl

-- a remainder by a multiple keeps the remainder
mod-mod : (n q m : ℕ) → zero < q → zero < m → n % (q * m) % m ≡ n % m
mod-mod n q m hq hm =
    ap (λ (x : ℕ). x % m) (mod-mul n {m = q} {c = m} hq hm) ∙ mul-add-mod_self_right (n / m % q) m (n % m) ∙ mod-eq_of_lt (mod-lt n hm)

-- what is added may be reduced first
add_mod : (a b n : ℕ) → (a + b % n) % n ≡ (a + b) % n
add_mod a b n =
    let whole : b / n * n + b % n ≡ b = div-add-mod' b n in
    let joined : b / n * n + (a + b % n) ≡ a + b = omega (arith, whole) in
    sym (mul-add-mod_self_right (b / n) n (a + b % n)) ∙ ap (λ (x : ℕ). x % n) joined

-- a sum of 64 bits in place of the difference of two bases is a shift
sum_is_added : (kind : FixupKind) (v from to q : ℕ) → from < 2 ^ 64 → q * 256 ^ width_of kind ≡ 2 ^ 64 → (v + (to + (2 ^ 64 - from))) % 256 ^ width_of kind ≡ added kind v (pos to -ℤ pos from)
sum_is_added kind v from to q small whole = sym (added_is v kind to from q (v + (to + (2 ^ 64 - from))) (omega (arith, small, whole)))

-- a field of 2 bytes, to which the high half of the difference is added
pub shift_in_high : (v from to : ℕ) → from < 2 ^ 64 → (v + (to + (2 ^ 64 - from)) % 2 ^ 64 / 65536 % 2 ^ 16) % 2 ^ 16 ≡ shift High v (pos to -ℤ pos from)
unfolding shift
shift_in_high v from to small =
    let by : ℕ = to + (2 ^ 64 - from) in
    add_mod v (by % 2 ^ 64 / 65536) (2 ^ 16) ∙ sym (added_quotient v from to (by / 2 ^ 64) (by % 2 ^ 64) (omega (arith, small)))

-- a field of 2 bytes, to which the low half is added
pub shift_in_low : (v from to : ℕ) → from < 2 ^ 64 → (v + (to + (2 ^ 64 - from)) % 2 ^ 64 % 2 ^ 16) % 2 ^ 16 ≡ shift Low v (pos to -ℤ pos from)
unfolding shift
shift_in_low v from to small =
    let by : ℕ = to + (2 ^ 64 - from) in
    ap (λ (x : ℕ). (v + x) % 2 ^ 16) (mod-mod by (2 ^ 48) (2 ^ 16) (omega arith) (omega arith)) ∙ add_mod v by (2 ^ 16)
    ∙ sum_is_added Low v from to (2 ^ 48) small refl

-- a field of 4 bytes
pub shift_in_32 : (v from to : ℕ) → from < 2 ^ 64 → (v + (to + (2 ^ 64 - from)) % 2 ^ 64 % 2 ^ 32) % 2 ^ 32 ≡ shift Bits32 v (pos to -ℤ pos from)
unfolding shift
shift_in_32 v from to small =
    let by : ℕ = to + (2 ^ 64 - from) in
    add_mod v (by % 2 ^ 64) (2 ^ 32)
    ∙ sym (add_mod v (by % 2 ^ 64) (2 ^ 32)) ∙ ap (λ (x : ℕ). (v + x) % 2 ^ 32) (mod-mod by (2 ^ 32) (2 ^ 32) (omega arith) (omega arith)) ∙ add_mod v by (2 ^ 32)
    ∙ sum_is_added Bits32 v from to (2 ^ 32) small refl

-- a field of 8 bytes
pub shift_in_64 : (v from to : ℕ) → from < 2 ^ 64 → (v + (to + (2 ^ 64 - from)) % 2 ^ 64) % 2 ^ 64 ≡ shift Bits64 v (pos to -ℤ pos from)
unfolding shift
shift_in_64 v from to small = add_mod v (to + (2 ^ 64 - from)) (2 ^ 64) ∙ sum_is_added Bits64 v from to 1 small refl

-- a number written over the first bytes from an offset on
pub written_from : (xs ys : List ℕ) (place w v : ℕ) → place ≤ length xs → ys ≡ bytes w v ++ drop w (take (length xs - place) (drop place xs)) → put_mid place (length xs - place) xs ys ≡ patch xs place (bytes w v)
unfolding patch
written_from xs ys place w v le is =
    let rest : drop (length xs - place) (drop place xs) ≡ [] = drop_all (length xs - place) (drop place xs) (let n = length-drop place xs in omega (arith, n)) in
    let len : length (bytes w v) ≡ w = length-bytes_from 0 w v in
    rw (is, take_rest xs place, rest, append-nil (bytes w v ++ drop w (drop place xs)), len) refl

-- a field with its new number
pub field_shifted : (xs : List ℕ) (kind : FixupKind) (place v w n : ℕ) (d : ℤ) → w ≡ width_of kind → v ≡ little_from 0 w (drop place xs) → n ≡ shift kind v d → patch xs place (bytes w n) ≡ shifted_at d kind place xs
unfolding shifted_at
field_shifted xs kind place v w n d is_w is_v is_n =
    let none : place + 0 ≡ place = omega arith in
    let number : v ≡ num (byte_of xs) place (width_of kind) = is_v ∙ number_read xs place 0 w ∙ ap (λ (p : ℕ). num (byte_of xs) p w) none ∙ ap (num (byte_of xs) place) is_w in
    ap (λ (k : ℕ). patch xs place (bytes k n)) is_w
    ∙ ap (λ (n : ℕ). patch xs place (bytes (width_of kind) n)) (is_n ∙ ap (λ (v : ℕ). shift kind v d) number)
