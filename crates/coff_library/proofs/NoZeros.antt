-- No name of a public symbol has a zero byte, and each symbol is of one of the members.
use Rattle.std.proofs.Common.{◌≡◌, ℕ, zero, suc, ◌+◌, ◌<◌, ◌≤◌, Bool, true, false, cond, List, [], ◌∷◌, ◌++◌, length, Option, Some, None, refl, sym, subst, arith, inl, inr}
use Rattle.std.specs.Prelude.{map, filter, option_map, ◌==◌, nat_lt, nat_le, is_none, slice_range}
use Rattle.std.specs.List.{All, AllByRecursion}
use Rattle.std.specs.List.Sorted.{IsPermutation}
use Rattle.std.specs.Option.{unwrap_or}
use Rattle.std.proofs.lemmas.Bool.{cases_Bool, ne_eqb}
use Rattle.std.proofs.lemmas.List.Sorted.{All-permutation}
use Rattle.pe_view.specs.Faults.{first_standing}
use Rattle.pe_view.specs.Number.{part}
use Rattle.pe_view.specs.Text.{zero_ended, text_between}
use Rattle.coff_read.specs.Field.{field}
use Rattle.coff_read.specs.EitherObject.{form_in}
use Rattle.coff_read.specs.FormFaults.{object_tests}
use Rattle.coff_read.specs.FormReading.{string_at, strings_start, strings_size, symbol_name, symbol_at, record_start, symbol_indexes}
use Rattle.coff_read.specs.Forms.{Form}
use Rattle.coff_read.specs.Records as object
use Rattle.coff_archive.specs.Imports.{is_import, import_tests, import_of, texts_end}
use Rattle.coff_library.specs.Members.{Member}
use Rattle.coff_library.specs.PublicNames.{is_public, object_names, import_names, public_names}
use Rattle.coff_library.specs.Symbols.{Symbol, symbols_with, symbols_from, symbols_of}
use Rattle.coff_library.proofs.LinkerTables.{NoZero}
use Rattle.coff_library.proofs.Loops.{all_at}

no_zero_more : (b : ℕ) (text : List ℕ) → NoZero text → NoZero (suc b ∷ text)
no_zero_more b text none = let some : (suc b == 0) ≡ false = ne_eqb (suc b) 0 (λ h. omega (arith, h)) in rw some none

ended_by : (b : ℕ) (o : Option (List ℕ)) (text : List ℕ) → ((rest : List ℕ) → o ≡ Some rest → NoZero rest) → option_map (λ t. suc b ∷ t) o ≡ Some text → NoZero text
ended_by b None text none is = absurd cc
ended_by b (Some rest) text none is = let e : suc b ∷ rest ≡ text = cc in subst NoZero e (no_zero_more b rest (none rest refl))

ended : (bytes text : List ℕ) → zero_ended bytes ≡ Some text → NoZero text
ended [] text is = absurd cc
ended (zero ∷ bytes) text is = let e : [] ≡ text = cc in subst NoZero e refl
ended (suc b ∷ bytes) text is = ended_by b (zero_ended bytes) text (λ rest was. ended bytes rest was) is

open_by : (b : ℕ) (o : Option (List ℕ)) (bytes : List ℕ) → (o ≡ None → NoZero bytes) → option_map (λ t. suc b ∷ t) o ≡ None → NoZero (suc b ∷ bytes)
open_by b None bytes none is = no_zero_more b bytes (none refl)
open_by b (Some rest) bytes none is = absurd cc

open_text : (bytes : List ℕ) → zero_ended bytes ≡ None → NoZero bytes
open_text [] is = refl
open_text (zero ∷ bytes) is = absurd cc
open_text (suc b ∷ bytes) is = open_by b (zero_ended bytes) bytes (λ was. open_text bytes was) is

or_empty : (o : Option (List ℕ)) (bytes : List ℕ) → o ≡ zero_ended bytes → NoZero (unwrap_or o [])
or_empty None bytes is = refl
or_empty (Some text) bytes is = ended bytes text (sym is)

or_all : (o : Option (List ℕ)) (bytes : List ℕ) → o ≡ zero_ended bytes → NoZero (unwrap_or o bytes)
or_all None bytes is = open_text bytes (sym is)
or_all (Some text) bytes is = ended bytes text (sym is)

-- a text between two offsets
between : (file : List ℕ) (offset end : ℕ) → NoZero (unwrap_or (text_between file offset end) [])
between file offset end = elim (cases_Bool (nat_le end (length file))) [
  | inl inside ↦ rw inside (or_empty (zero_ended (slice_range file offset end)) (slice_range file offset end) refl)
  | inr past ↦ rw past refl
]

string_no_zero : (big : Form) (file : List ℕ) (offset : ℕ) → NoZero (unwrap_or (string_at big file offset) [])
string_no_zero big file offset = elim (cases_Bool (nat_lt offset 4)) [
  | inl low ↦ rw low refl
  | inr high ↦ rw high (between file (strings_start big file + offset) (strings_start big file + strings_size big file))
]

symbol_no_zero : (big : Form) (file : List ℕ) (at : ℕ) → NoZero (unwrap_or (symbol_name big file at) [])
symbol_no_zero big file at = elim (cases_Bool (field file at 0 4 == 0)) [
  | inl long ↦ elim (cases_Bool (field file at 4 4 == 0)) [
    | inl none ↦ rw (long, none) refl
    | inr some ↦ rw (long, some) (string_no_zero big file (field file at 4 4))
  ]
  | inr short ↦ rw short (or_all (zero_ended (part file at 8)) (part file at 8) refl)
]

AreNoZeros : List (List ℕ) → Type 0
AreNoZeros names = AllByRecursion NoZero names

step : (b : Bool) (name : List ℕ) (names : List (List ℕ)) → NoZero name → AreNoZeros names → AreNoZeros (cond b (name ∷ names) names)
unfolding AreNoZeros
step true name names here rest = (here, rest)
step false name names here rest = rest

filtered : (b : Bool) (s : object.Symbol) (ss : List object.Symbol) → map (λ (x : object.Symbol). x.name) (cond b (s ∷ ss) ss) ≡ cond b (s.name ∷ map (λ (x : object.Symbol). x.name) ss) (map (λ (x : object.Symbol). x.name) ss)
filtered true s ss = refl
filtered false s ss = refl

of_records : (big : Form) (file : List ℕ) (ks : List ℕ) → AreNoZeros (map (λ (s : object.Symbol). s.name) (filter is_public (map (λ k. symbol_at big file (record_start big file k)) ks)))
unfolding AreNoZeros
of_records big file [] = tt
of_records big file (k ∷ ks) =
    let s : object.Symbol = symbol_at big file (record_start big file k) in
    let ss : List object.Symbol = filter is_public (map (λ k. symbol_at big file (record_start big file k)) ks) in
    subst AreNoZeros (sym (filtered (is_public s) s ss))
    (step (is_public s) s.name (map (λ (x : object.Symbol). x.name) ss) (symbol_no_zero big file (record_start big file k)) (of_records big file ks))

of_object : (bytes : List ℕ) → AreNoZeros (object_names bytes)
unfolding AreNoZeros
of_object bytes = elim (cases_Bool (is_none (first_standing (object_tests (form_in bytes) bytes)))) [
  | inl none ↦ rw none (of_records (form_in bytes) bytes (symbol_indexes (form_in bytes) bytes))
  | inr some ↦ rw some tt
]

of_import : (bytes : List ℕ) → AreNoZeros (import_names bytes)
unfolding AreNoZeros
of_import bytes =
    let symbol : NoZero (import_of bytes).symbol = between bytes 20 (texts_end bytes) in
    elim (cases_Bool (is_none (first_standing (import_tests 0 bytes)))) [
      | inl none ↦ elim (cases_Bool ((import_of bytes).kind == 1)) [
        | inl data_is ↦ rw (none, data_is) (symbol, tt)
        | inr code_is ↦ rw (none, code_is) (symbol, (symbol, tt))
      ]
      | inr some ↦ rw some tt
    ]

of_member : (bytes : List ℕ) → AreNoZeros (public_names bytes)
unfolding public_names
of_member bytes = elim (cases_Bool (is_import bytes)) [
  | inl import ↦ rw import (of_import bytes)
  | inr object ↦ rw object (of_object bytes)
]

-- a symbol of one of so many members, with no zero byte in its name
pub record IsSound (count : ℕ) (s : Symbol) : Type 0 where
  pub name : NoZero s.name
  pub member : s.member < count

with_names : (count k : ℕ) (names : List (List ℕ)) → k < count → AreNoZeros names → AllByRecursion (IsSound count) (symbols_with k names)
unfolding AreNoZeros
with_names count k [] lt none = tt
with_names count k (name ∷ names) lt none = (record { name = none.0; member = lt }, with_names count k names lt none.1)

both : {X : Type 0} (P : X → Type 0) (xs ys : List X) → AllByRecursion P xs → AllByRecursion P ys → AllByRecursion P (xs ++ ys)
both P [] ys a b = b
both P (x ∷ xs) ys a b = (a.0, both P xs ys a.1 b)

from : (count k : ℕ) (ms : List Member) → k + length ms ≤ count → AllByRecursion (IsSound count) (symbols_from k ms)
from count k [] le = tt
from count k (m ∷ ms) le =
    both (IsSound count) (symbols_with k (public_names m.bytes)) (symbols_from (k + 1) ms) (with_names count k (public_names m.bytes) (omega (arith, le)) (of_member m.bytes)) (from count (k + 1) ms (omega (arith, le)))

pub sound : (ms : List Member) → AllByRecursion (IsSound (length ms)) (symbols_of ms)
sound ms = from (length ms) 0 ms (omega arith)

pub at_each : {X : Type 0} (P : X → Type 0) (xs : List X) → AllByRecursion P xs → All P xs
at_each P xs all = λ k d lt. all_at P xs k d all lt

pub by_each : {X : Type 0} (P : X → Type 0) (xs : List X) → All P xs → AllByRecursion P xs
by_each P [] all = tt
by_each P (x ∷ xs) all = (all 0 x (omega arith), by_each P xs (λ k d lt. all (suc k) d (omega (arith, lt))))

-- the same in another order
pub sound_order : (count : ℕ) (xs ys : List Symbol) → IsPermutation xs ys → AllByRecursion (IsSound count) xs → AllByRecursion (IsSound count) ys
sound_order count xs ys same all = by_each (IsSound count) ys (All-permutation (IsSound count) xs ys same (at_each (IsSound count) xs all))
