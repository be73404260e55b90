-- Records one after the other.
use Rattle.std.proofs.Common.{zero, suc, ◌^◌, ◌≡◌, ◌∙◌, ℕ, ◌+◌, ◌*◌, ◌/◌, ◌<◌, ◌≤◌, ◌≢◌, ◌-◌, Bool, cond, Some, None, ap, zero-add, arith}
use Rattle.std.specs.Prelude.{List, map, slice_get}
use Rattle.std.proofs.lemmas.Bool.{ne_eqb}
use Rattle.pe_records.specs.Records.{record_before}
use Rattle.std.specs.List.{range_with_len}
use Rattle.std.proofs.Math.Nat.{mul-le-mul_left, mul-suc, mul-div-le}
use Rattle.std.proofs.lemmas.List.FromFn.{get_or-map-range_with_len, length-map-range_with_len}
use Rattle.std.proofs.lemmas.Option.{slice_get-get_or, slice_get_past}

-- there is a record of each number under the count
pub made_at : {X : Type 0} (f : ℕ → X) (n k : ℕ) → k < n → slice_get (map f (range_with_len 0 n)) k ≡ Some (f k)
made_at f n k lt = slice_get-get_or (map f (range_with_len 0 n)) k (f k) (rw (length-map-range_with_len f 0 n) lt) ∙ ap Some (get_or-map-range_with_len f 0 n k k (f k) lt (zero-add k))

-- and none of another
pub made_none : {X : Type 0} (f : ℕ → X) (n k : ℕ) → n ≤ k → slice_get (map f (range_with_len 0 n)) k ≡ None
made_none f n k le = slice_get_past (map f (range_with_len 0 n)) k (rw (length-map-range_with_len f 0 n) le)

-- each whole record of a table's bytes ends inside them
pub record_fits : (len k size : ℕ) → k < size / len → len * k + len ≤ size
record_fits len k size lt =
    let whole : len * (1 + k) ≤ len * (size / len) = mul-le-mul_left len (omega arith) in
    let more = mul-suc len k in
    let held = mul-div-le size len in
    omega (arith, whole, more, held)

-- the record before one that is not the first
pub before_some : {R : Type 0} (at : List ℕ → ℕ → R) (len : ℕ) (bytes : List ℕ) (k : ℕ) → k ≢ 0 → record_before at len bytes k ≡ Some (at bytes (len * (k - 1)))
before_some at len bytes k ne = ap (λ (b : Bool). cond b None (Some (at bytes (len * (k - 1))))) (ne_eqb k 0 ne)

-- a table that lies in an image has few bytes
pub held_small : (n rva size : ℕ) → (0 < n → rva + n ≤ size) → size ≤ 2 ^ 31 → n < 2 ^ 32
held_small zero rva size inside small = omega arith
held_small (suc n) rva size inside small = let held = inside (omega arith) in omega (arith, held, small)
