-- What follows where none of faults 91 to 93 stands.
use Rattle.std.proofs.Common.{◌≡◌, ℕ, zero, suc, ◌+◌, ◌-◌, ◌^◌, ◌<◌, ◌≤◌, Bool, true, false, cond, List, [], ◌∷◌, length, Option, Some, None, refl, ap, arith, inl, inr}
use Rattle.std.specs.Prelude.{◌==◌, nat_lt, slice_index}
use Rattle.std.specs.List.{AllByRecursion}
use Rattle.std.proofs.lemmas.Bool.{cases_Bool, cases_lt, eqb-true, ltb-false, lt-ltb}
use Rattle.pe_view.specs.declared.fault.Fault.{Fault}
use Rattle.pe_view.specs.Faults.{first_standing}
use Rattle.coff_library.specs.Members.{Member}
use Rattle.coff_library.specs.Sizes.{counted, IsWritable}
use Rattle.coff_library.specs.Symbols.{symbols_of}
use Rattle.coff_library.specs.WriteFaults.{is_bad_name, name_tests, size_tests}
use Rattle.coff_library.specs.Written.{room, names_room, first_size, second_size, long_names, members_start, offsets_from}
use Rattle.coff_library.proofs.Loops.{all_at}

-- where no test of a list stands, its first does not
pub none_test : (b : Bool) (y : Fault) (rest : Option Fault) → cond b (Some y) rest ≡ None → (b ≡ false) × (rest ≡ None)
none_test true y rest none = absurd cc
none_test false y rest none = (refl, none)

pub good_names : (k : ℕ) (ms : List Member) → first_standing (name_tests k ms) ≡ None → AllByRecursion (λ (m : Member). is_bad_name m.name ≡ false) ms
good_names k [] none = tt
good_names k (m ∷ ms) none =
    let parts = none_test (is_bad_name m.name) _ _ none in
    (parts.0, good_names (k + 1) ms parts.1)

-- the bytes of each member end under 2^32
pub record Near (at : ℕ) (m : Member) : Type 0 where
  pub ends : at + 60 + length m.bytes < 2 ^ 32

abbrev pub AreNear : ℕ → List Member → Type 0
AreNear at [] = Unit {0}
AreNear at (m ∷ ms) = Near at m × AreNear (at + room (length m.bytes)) ms

pub near : (k at : ℕ) (ms : List Member) → first_standing (size_tests k at ms) ≡ None → AreNear at ms
near k at [] none = tt
near k at (m ∷ ms) none =
    let parts = none_test (nat_lt (2 ^ 32 - 1) (at + 60 + length m.bytes)) _ _ none in
    let le = ltb-false (2 ^ 32 - 1) (at + 60 + length m.bytes) parts.0 in
    (record { ends = omega (arith, le) }, near (k + 1) (at + room (length m.bytes)) ms parts.1)

pub small_sizes : (at : ℕ) (ms : List Member) → AreNear at ms → AllByRecursion (λ (m : Member). length m.bytes < 2 ^ 32) ms
small_sizes at [] n = tt
small_sizes at (m ∷ ms) n = let ends = n.0.ends in (omega (arith, ends), small_sizes (at + room (length m.bytes)) ms n.1)

pub small_offsets : (at : ℕ) (ms : List Member) → AreNear at ms → (k : ℕ) → slice_index (offsets_from at ms) k < 2 ^ 32
small_offsets at [] n k = omega arith
small_offsets at (m ∷ ms) n zero = let ends = n.0.ends in omega (arith, ends)
small_offsets at (m ∷ ms) n (suc k) = small_offsets (at + room (length m.bytes)) ms n.1 k

pub length-offsets : (at : ℕ) (ms : List Member) → length (offsets_from at ms) ≡ length ms
length-offsets at [] = refl
length-offsets at (m ∷ ms) = let rest = length-offsets (at + room (length m.bytes)) ms in omega (arith, rest)

names_le : (n : ℕ) → n ≤ names_room n
names_le n = elim (cases_Bool (n == 0)) [
  | inl is ↦ (let none = eqb-true n 0 is in rw is (omega (arith, none)))
  | inr not ↦ rw not (omega arith)
]

start_ge : (ms : List Member) → (first_size (symbols_of ms) ≤ members_start ms) × (second_size (length ms) (symbols_of ms) ≤ members_start ms) × (length (long_names ms) ≤ members_start ms)
unfolding members_start
start_ge ms =
    let le = names_le (length (long_names ms)) in
    (omega arith, omega arith, omega (arith, le))

front_small : (ms : List Member) → AreNear (members_start ms) ms
    → (first_size (symbols_of ms) < 2 ^ 32) × (second_size (length ms) (symbols_of ms) < 2 ^ 32) × (length (long_names ms) < 2 ^ 32)
front_small [] n = (omega arith, omega arith, omega arith)
front_small (m ∷ ms) n =
    let ends = n.0.ends in
    let ge = start_ge (m ∷ ms) in
    let one = ge.0 in
    let two = ge.1 in
    let three = ge.2 in
    (omega (arith, ends, one), omega (arith, ends, two), omega (arith, ends, three))

pub writable : (ms : List Member) → length ms ≤ 65535 → AreNear (members_start ms) ms → IsWritable ms
writable ms few n =
    let front = front_small ms n in
    record {
      few = few;
      first = front.0;
      second = front.1;
      names = front.2;
      sizes = λ k d lt. all_at (λ (m : Member). length m.bytes < 2 ^ 32) ms k d (small_sizes (members_start ms) ms n) lt;
    }

-- where the first header is too far on, it is as far as any
pub capped : (start : ℕ) (ms : List Member) → first_standing (size_tests 0 (counted start) ms) ≡ first_standing (size_tests 0 start ms)
capped start [] = refl
capped start (m ∷ ms) = elim (cases_lt start (2 ^ 64 - 1)) [
  | inl lt ↦ (let same : counted start ≡ start = omega (arith, lt) in rw same refl)
  | inr le ↦
      (let same : counted start ≡ 2 ^ 64 - 1 = omega (arith, le) in
      let one : nat_lt (2 ^ 32 - 1) (counted start + 60 + length m.bytes) ≡ true = lt-ltb (2 ^ 32 - 1) (counted start + 60 + length m.bytes) (omega (arith, same)) in
      let two : nat_lt (2 ^ 32 - 1) (start + 60 + length m.bytes) ≡ true = lt-ltb (2 ^ 32 - 1) (start + 60 + length m.bytes) (omega (arith, le)) in
      rw (one, two) refl)
]

pub capped_offsets : (start : ℕ) (ms : List Member) → first_standing (size_tests 0 start ms) ≡ None → offsets_from (counted start) ms ≡ offsets_from start ms
capped_offsets start [] none = refl
capped_offsets start (m ∷ ms) none =
    let ends = (near 0 start (m ∷ ms) none).0.ends in
    let same : counted start ≡ start = omega (arith, ends) in
    ap (λ (at : ℕ). offsets_from at (m ∷ ms)) same
