-- The bytes of a list after others were written over some, for proofs of all layers.
use Rattle.std.proofs.Common.{◌≡◌, ℕ, zero, suc, ◌+◌, ◌-◌, ◌%◌, ◌<◌, ◌≤◌, ◌⊎◌, List, length, get_or, sym, ap, ◌∙◌, refl, inl, inr, arith, rules, length-append, length-drop}
use Rattle.std.proofs.lemmas.List.{places, length-take-le}
use Rattle.std.proofs.Math.Nat.{div-one}
use Rattle.std.specs.Int.{byte_at, bytes_low_first}
use Rattle.pe_view.specs.Number.{digit}
use Rattle.pe_tables.specs.Patch.{patch, bytes}

pub length-patch : (xs : List ℕ) (at : ℕ) (bs : List ℕ) → at + length bs ≤ length xs → length (patch xs at bs) ≡ length xs
unfolding patch
length-patch xs at bs h = omega (arith, length-append {A = ℕ}, length-drop {A = ℕ}, length-take-le at xs (omega arith))

pub patch_below : (xs : List ℕ) (at : ℕ) (bs : List ℕ) (r : ℕ) → r < at → at + length bs ≤ length xs → get_or (patch xs at bs) r 0 ≡ get_or xs r 0
unfolding patch
patch_below xs at bs r below h = search (rules, places)

pub patch_above : (xs : List ℕ) (at : ℕ) (bs : List ℕ) (r : ℕ) → at + length bs ≤ r → at + length bs ≤ length xs → get_or (patch xs at bs) r 0 ≡ get_or xs r 0
unfolding patch
patch_above xs at bs r above h = search (rules, places)

pub patch_at : (xs : List ℕ) (at : ℕ) (bs : List ℕ) (k : ℕ) → k < length bs → at + length bs ≤ length xs → get_or (patch xs at bs) (at + k) 0 ≡ get_or bs k 0
unfolding patch
patch_at xs at bs k inside h = search (rules, places)

-- ---- the bytes of a number, from byte j on
pub length-bytes_from : (j w v : ℕ) → length (bytes_low_first j w v) ≡ w
length-bytes_from j zero v = refl
length-bytes_from j (suc w) v = let e = length-bytes_from (suc j) w v in omega (arith, e)

byte_at-digit : (k v : ℕ) → byte_at k v ≡ digit v k
byte_at-digit zero v = ap (λ (y : ℕ). y % 256) (sym (div-one v))
byte_at-digit (suc k) v = refl

pub bytes_from-get : (j w v k : ℕ) → k < w → get_or (bytes_low_first j w v) k 0 ≡ digit v (j + k)
bytes_from-get j zero v k h = absurd (omega arith)
bytes_from-get j (suc w) v zero h = let e : j + 0 ≡ j = omega arith in rw e (byte_at-digit j v)
bytes_from-get j (suc w) v (suc k) h =
    let e : j + suc k ≡ suc j + k = omega arith in
    rw e (bytes_from-get (suc j) w v k (omega arith))

-- a byte of the list where a number was written
pub written_in : (xs : List ℕ) (at w v r : ℕ) → at + w ≤ length xs → at ≤ r → r < at + w → get_or (patch xs at (bytes w v)) r 0 ≡ digit v (r - at)
written_in xs at w v r fits low high =
    let len : length (bytes w v) ≡ w = length-bytes_from 0 w v in
    let place : at + (r - at) ≡ r = omega arith in
    let e : 0 + (r - at) ≡ r - at = omega arith in
    ap (λ (k : ℕ). get_or (patch xs at (bytes w v)) k 0) (sym place)
    ∙ patch_at xs at (bytes w v) (r - at) (omega arith) (omega arith)
    ∙ bytes_from-get 0 w v (r - at) (omega arith)
    ∙ ap (digit v) e

pub written_out : (xs : List ℕ) (at w v r : ℕ) → at + w ≤ length xs → (r < at) ⊎ (at + w ≤ r) → get_or (patch xs at (bytes w v)) r 0 ≡ get_or xs r 0
written_out xs at w v r fits (inl low) = let len = length-bytes_from 0 w v in patch_below xs at (bytes w v) r low (omega arith)
written_out xs at w v r fits (inr high) = let len = length-bytes_from 0 w v in patch_above xs at (bytes w v) r (omega arith) (omega arith)
