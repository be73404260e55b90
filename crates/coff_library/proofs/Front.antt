-- The members at the front of an archive that was written.
use Rattle.std.proofs.Common.{◌≡◌, ◌∙◌, ℕ, ◌+◌, ◌%◌, Bool, true, false, cond, List, [], ◌∷◌, ◌++◌, length, Some, None, refl, sym, ap, arith, inl, inr, length-append}
use Rattle.std.specs.Prelude.{◌==◌, nat_lt}
use Rattle.std.specs.List.{flat_map, list_any, AllByRecursion}
use Rattle.std.specs.Str.{bytes_eq}
use Rattle.std.proofs.lemmas.Bool.{cases_Bool, eqb-true, or_parts, lt-ltb}
use Rattle.pe_numbers.specs.StandsAt.{StandsAt, stands-front}
use Rattle.coff_archive.specs.Front.{linker_field, long_names_field, named, special_at, behind, bytes_in, first_linker, second_place, second_linker, names_place, names_of}
use Rattle.coff_library.specs.Members.{Member}
use Rattle.coff_library.specs.WriteFaults.{is_bad_name}
use Rattle.coff_library.specs.Written as library
use Rattle.coff_library.specs.Written.{padded, is_long, name_text}
use Rattle.coff_library.proofs.Laid.{names_parts}
use Rattle.coff_library.proofs.Names.{parts_from, left_long}
use Rattle.coff_library.proofs.Reading.{Part, written, member_at, Fits, IsRead, is_read}

-- a part that stands at a place is the special member there if it has its field
special_is : (file : List ℕ) (at : ℕ) (e : Part) (field : List ℕ) → IsRead file at e → bytes_eq (padded 16 e.0) field ≡ true → special_at false file at field ≡ Some (member_at at e)
unfolding special_at
special_is file at e field r same = ap (named field) r.member ∙ rw same refl

special_not : (file : List ℕ) (at : ℕ) (e : Part) (field : List ℕ) → IsRead file at e → bytes_eq (padded 16 e.0) field ≡ false → special_at false file at field ≡ None
unfolding special_at
special_not file at e field r same = ap (named field) r.member ∙ rw same refl

behind_is : (file : List ℕ) (at place : ℕ) (e : Part) → IsRead file at e → behind file place (Some (member_at at e)) ≡ at + length (written e)
unfolding behind
behind_is file at place e r = r.after

nothing_behind : (file : List ℕ) (at : ℕ) → behind file at None ≡ at
unfolding behind
nothing_behind file at = refl

-- no header at the end
nothing_there : (file : List ℕ) (at : ℕ) (field : List ℕ) → at ≡ length file → special_at false file at field ≡ None
unfolding special_at
nothing_there file at field is =
    let past : nat_lt (length file) (at + 60) ≡ true = lt-ltb (length file) (at + 60) (omega (arith, is)) in
    rw past refl

-- a member with a short name has no field of the archive's own
other_field : (name : List ℕ) → is_long name ≡ false → (length name == 0) ≡ false → bytes_eq (padded 16 (name ++ 47 ∷ [])) long_names_field ≡ false
unfolding padded
other_field [] short some = absurd cc
other_field (a ∷ name) short some =
    let plain = (or_parts (nat_lt 15 (length (a ∷ name))) (list_any (λ byte. byte == 47) (a ∷ name)) short).1 in
    let first = (or_parts (a == 47) (list_any (λ byte. byte == 47) name) plain).0 in
    rw first refl

no_long : (m : Member) (ms : List Member) → length (library.long_names (m ∷ ms)) ≡ 0 → is_long m.name ≡ false
no_long m ms none = elim (cases_Bool (is_long m.name)) [
  | inl long ↦
      (let one = ap length (left_long m ms long) in
      let two = length-append (m.name ++ 0 ∷ []) (library.long_names ms) in
      let three = length-append m.name (0 ∷ []) in
      absurd (omega (arith, one, two, three, none)))
  | inr short ↦ short
]

-- the front of an archive: two linker members, and what stands behind them
pub record IsFront (file : List ℕ) (first second : List ℕ) (ms : List Member) : Type 0 where
  pub first_read : IsRead file 8 (47 ∷ [], first)
  pub second_at : ℕ
  pub second_at_is : second_at ≡ 8 + length (written (47 ∷ [], first))
  pub second_read : IsRead file second_at (47 ∷ [], second)
  pub rest_at : ℕ
  pub rest_at_is : rest_at ≡ second_at + length (written (47 ∷ [], second))
  pub even : rest_at % 2 ≡ 0
  pub rest : StandsAt file rest_at (flat_map written (names_parts (library.long_names ms) ++ parts_from 0 ms))
  pub end : rest_at + length (flat_map written (names_parts (library.long_names ms) ++ parts_from 0 ms)) ≡ length file
  pub fits : AllByRecursion Fits (names_parts (library.long_names ms) ++ parts_from 0 ms)

pub first_is : (file first second : List ℕ) (ms : List Member) → IsFront file first second ms → first_linker false file ≡ Some (member_at 8 (47 ∷ [], first))
unfolding padded
first_is file first second ms f = special_is file 8 (47 ∷ [], first) linker_field f.first_read refl

second_place_is : (file first second : List ℕ) (ms : List Member) (f : IsFront file first second ms) → second_place false file ≡ f.second_at
second_place_is file first second ms f = ap (behind file 8) (first_is file first second ms f) ∙ behind_is file 8 8 (47 ∷ [], first) f.first_read ∙ sym f.second_at_is

pub second_is : (file first second : List ℕ) (ms : List Member) (f : IsFront file first second ms) → second_linker false file ≡ Some (member_at f.second_at (47 ∷ [], second))
unfolding padded
second_is file first second ms f =
    ap (λ (at : ℕ). special_at false file at linker_field) (second_place_is file first second ms f) ∙ special_is file f.second_at (47 ∷ [], second) linker_field f.second_read refl

names_place_is : (file first second : List ℕ) (ms : List Member) (f : IsFront file first second ms) → names_place false file ≡ f.rest_at
names_place_is file first second ms f =
    ap (behind file (second_place false file)) (second_is file first second ms f) ∙ behind_is file f.second_at (second_place false file) (47 ∷ [], second) f.second_read ∙ sym f.rest_at_is

empty : (xs : List ℕ) → length xs ≡ 0 → xs ≡ []
empty [] e = refl
empty (x ∷ xs) e = absurd (omega (arith, e))

names_by : (file : List ℕ) (at : ℕ) (names : List ℕ) (ms : List Member) (b : Bool) → (length names == 0) ≡ b → names ≡ library.long_names ms → AllByRecursion (λ (m : Member). is_bad_name m.name ≡ false) ms → at % 2 ≡ 0
    → StandsAt file at (flat_map written (cond b [] ((47 ∷ 47 ∷ [], names) ∷ []) ++ parts_from 0 ms)) → at + length (flat_map written (cond b [] ((47 ∷ 47 ∷ [], names) ∷ []) ++ parts_from 0 ms)) ≡ length file
    → AllByRecursion Fits (cond b [] ((47 ∷ 47 ∷ [], names) ∷ []) ++ parts_from 0 ms)
    → bytes_in (special_at false file at long_names_field) ≡ names
unfolding padded
names_by file at names ms false is same good even there end fits =
    let e : Part = (47 ∷ 47 ∷ [], names) in
    let r = is_read file at e fits.0 even (stands-front file at (written e) (flat_map written (parts_from 0 ms)) there) in
    ap bytes_in (special_is file at e long_names_field r refl)
names_by file at names [] true is same good even there end fits =
    let none = eqb-true (length names) 0 is in
    ap bytes_in (nothing_there file at long_names_field (omega (arith, end))) ∙ sym (empty names none)
names_by file at names (m ∷ ms) true is same good even there end fits =
    let none = eqb-true (length names) 0 is in
    let short = no_long m ms (ap length (sym same) ∙ none) in
    let some = (or_parts (length m.name == 0) _ good.0).0 in
    let e : Part = (name_text 0 m.name, m.bytes) in
    let text : name_text 0 m.name ≡ m.name ++ 47 ∷ [] = rw short refl in
    let r = is_read file at e fits.0 even (stands-front file at (written e) (flat_map written (parts_from (library.behind_name 0 m.name) ms)) there) in
    ap bytes_in (special_not file at e long_names_field r (ap (λ (t : List ℕ). bytes_eq (padded 16 t) long_names_field) text ∙ other_field m.name short some)) ∙ sym (empty names none)

pub names_are : (file first second : List ℕ) (ms : List Member) (f : IsFront file first second ms) → AllByRecursion (λ (m : Member). is_bad_name m.name ≡ false) ms → names_of false file ≡ library.long_names ms
names_are file first second ms f good =
    ap (λ (at : ℕ). bytes_in (special_at false file at long_names_field)) (names_place_is file first second ms f)
    ∙ names_by file f.rest_at (library.long_names ms) ms (length (library.long_names ms) == 0) refl refl good f.even f.rest f.end f.fits
