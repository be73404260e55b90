-- The parts of an archive that was written, where they stand.
use Rattle.std.proofs.Common.{◌≡◌, ◌∙◌, ℕ, ◌+◌, ◌^◌, ◌<◌, ◌≤◌, List, [], ◌∷◌, ◌++◌, length, refl, sym, ap, subst, arith, inl, inr, length-append, append_assoc, append-nil}
use Rattle.std.specs.Prelude.{map, ◌==◌, nat_lt, if◌then◌else◌}
use Rattle.std.specs.List.{flat_map, list_any, AllByRecursion}
use Rattle.std.proofs.lemmas.Bool.{cases_Bool, or_parts, ltb-false}
use Rattle.coff_archive.specs.Members as archive
use Rattle.coff_archive.specs.Members.{signature, thinness, read_at, even_from, is_special}
use Rattle.coff_library.specs.Members.{Member}
use Rattle.coff_library.specs.Symbols.{Symbol, symbols_of}
use Rattle.coff_library.specs.Written as library
use Rattle.coff_library.specs.Written.{padded, record_of, room, is_long, name_text, behind_name, records_from, offsets_from, names_room, first_size, second_size, members_start, member_offsets, first_table, second_table, names_record, archive_with}
use Rattle.coff_library.proofs.Fields.{length-digits}
use Rattle.coff_library.proofs.Names.{parts_from, small_here, stand_long, stand_short, Stand}
use Rattle.coff_library.proofs.Reading.{Part, written, member_at, found_from, Fits, length-record}

-- the member `//`, if it is there
abbrev pub names_parts : List ℕ → List Part
names_parts names = if length names == 0 then [] else (47 ∷ 47 ∷ [], names) ∷ []

-- all members of the archive, the linker members with these bytes
abbrev pub all_parts : List ℕ → List ℕ → List Member → List Part
all_parts first second ms = (47 ∷ [], first) ∷ (47 ∷ [], second) ∷ (names_parts (library.long_names ms) ++ parts_from 0 ms)

pub flat_map-append : (xs ys : List Part) → flat_map written (xs ++ ys) ≡ flat_map written xs ++ flat_map written ys
flat_map-append [] ys = refl
flat_map-append (x ∷ xs) ys = ap (λ (bs : List ℕ). written x ++ bs) (flat_map-append xs ys) ∙ sym (append_assoc (written x) (flat_map written xs) (flat_map written ys))

records_are : (next : ℕ) (ms : List Member) → records_from next ms ≡ flat_map written (parts_from next ms)
records_are next [] = refl
records_are next (m ∷ ms) = ap (λ (bs : List ℕ). record_of (name_text next m.name) m.bytes ++ bs) (records_are (behind_name next m.name) ms)

names_are : (names : List ℕ) → names_record names ≡ flat_map written (names_parts names)
names_are names = elim (cases_Bool (length names == 0)) [
  | inl none ↦ rw none refl
  | inr some ↦ rw some (sym (append-nil (record_of (47 ∷ 47 ∷ []) names)))
]

pub archive_is : (ms : List Member) (order : List Symbol) → archive_with ms order ≡ signature ++ flat_map written (all_parts (first_table (member_offsets ms) (symbols_of ms)) (second_table (member_offsets ms) order) ms)
unfolding archive_with
archive_is ms order =
    let names = names_are (library.long_names ms) in
    let records = records_are 0 ms in
    let both = flat_map-append (names_parts (library.long_names ms)) (parts_from 0 ms) in
    let one : List ℕ = record_of (47 ∷ []) (first_table (member_offsets ms) (symbols_of ms)) in
    let two : List ℕ = record_of (47 ∷ []) (second_table (member_offsets ms) order) in
    ap (λ (bs : List ℕ). signature ++ (one ++ (two ++ bs)))
    (ap (λ (bs : List ℕ). bs ++ records_from 0 ms) names ∙ ap (λ (bs : List ℕ). flat_map written (names_parts (library.long_names ms)) ++ bs) records ∙ sym both)

-- where a part begins behind others
pub found-append : (at : ℕ) (xs ys : List Part) → found_from at (xs ++ ys) ≡ found_from at xs ++ found_from (at + length (flat_map written xs)) ys
found-append at [] ys = ap (λ (n : ℕ). found_from n ys) (omega arith)
found-append at (x ∷ xs) ys =
    let one = length-append (written x) (flat_map written xs) in
    let place : at + length (written x) + length (flat_map written xs) ≡ at + length (flat_map written (x ∷ xs)) = omega (arith, one) in
    ap (λ (ms : List archive.Member). member_at at x ∷ ms) (found-append (at + length (written x)) xs ys ∙ ap (λ (n : ℕ). found_from (at + length (written x)) xs ++ found_from n ys) place)

-- each text fits its field
text_fits : (next : ℕ) (name : List ℕ) → next < 2 ^ 32 → length (name_text next name) ≤ 16
text_fits next name small = elim (cases_Bool (is_long name)) [
  | inl long ↦ (let digits = length-digits next small in rw long (omega (arith, digits)))
  | inr short ↦
      (let le = ltb-false 15 (length name) (or_parts (nat_lt 15 (length name)) (list_any (λ byte. byte == 47) name) short).0 in
      let len = length-append name (47 ∷ []) in
      rw short (omega (arith, le, len)))
]

behind_small : (names : List ℕ) (next : ℕ) (m : Member) (ms : List Member) → Stand names next (m ∷ ms) → Stand names (behind_name next m.name) ms
behind_small names next m ms s = elim (cases_Bool (is_long m.name)) [
  | inl long ↦ (let e : behind_name next m.name ≡ next + length m.name + 1 = rw long refl in subst (λ (n : ℕ). Stand names n ms) (sym e) (stand_long names next m ms long s))
  | inr short ↦ (let e : behind_name next m.name ≡ next = rw short refl in subst (λ (n : ℕ). Stand names n ms) (sym e) (stand_short names next m ms short s))
]

parts_fit : (names : List ℕ) (next : ℕ) (ms : List Member) → length names < 2 ^ 32 → Stand names next ms → AllByRecursion (λ (m : Member). length m.bytes < 2 ^ 32) ms → AllByRecursion Fits (parts_from next ms)
parts_fit names next [] small s sizes = tt
parts_fit names next (m ∷ ms) small s sizes = (
  record { text = text_fits next m.name (small_here names next (m ∷ ms) small s); bytes = sizes.0 },
  parts_fit names (behind_name next m.name) ms small (behind_small names next m ms s) sizes.1,
)

names_fit : (names : List ℕ) → length names < 2 ^ 32 → AllByRecursion Fits (names_parts names)
names_fit names small = elim (cases_Bool (length names == 0)) [
  | inl none ↦ rw none tt
  | inr some ↦ rw some (record { text = omega arith; bytes = small }, tt)
]

all_append : (xs ys : List Part) → AllByRecursion Fits xs → AllByRecursion Fits ys → AllByRecursion Fits (xs ++ ys)
all_append [] ys a b = b
all_append (x ∷ xs) ys a b = (a.0, all_append xs ys a.1 b)

pub stand_first : (ms : List Member) → Stand (library.long_names ms) 0 ms
stand_first ms = record { done = []; whole = refl; len = refl }

pub all_fit : (first second : List ℕ) (ms : List Member) → length first < 2 ^ 32 → length second < 2 ^ 32 → length (library.long_names ms) < 2 ^ 32 → AllByRecursion (λ (m : Member). length m.bytes < 2 ^ 32) ms
    → AllByRecursion Fits (all_parts first second ms)
all_fit first second ms one two three sizes = (
  record { text = omega arith; bytes = one },
  (record { text = omega arith; bytes = two }, all_append (names_parts (library.long_names ms)) (parts_from 0 ms) (names_fit (library.long_names ms) three) (parts_fit (library.long_names ms) 0 ms three (stand_first ms) sizes)),
)

-- where the members begin
pub start_is : (first second : List ℕ) (ms : List Member) → length first ≡ first_size (symbols_of ms) → length second ≡ second_size (length ms) (symbols_of ms) → length first < 2 ^ 32 → length second < 2 ^ 32 → length (library.long_names ms) < 2 ^ 32
    → 8 + length (written (47 ∷ [], first)) + length (written (47 ∷ [], second)) + length (flat_map written (names_parts (library.long_names ms))) ≡ members_start ms
unfolding members_start
start_is first second ms one two small_one small_two small_names =
    let a = length-record (47 ∷ []) first (omega arith) small_one in
    let b = length-record (47 ∷ []) second (omega arith) small_two in
    let names : List ℕ = library.long_names ms in
    let c : length (flat_map written (names_parts names)) ≡ names_room (length names) =
    elim (cases_Bool (length names == 0)) [
      | inl none ↦ rw none refl
      | inr some ↦ rw some (ap length (append-nil (record_of (47 ∷ 47 ∷ []) names)) ∙ length-record (47 ∷ 47 ∷ []) names (omega arith) small_names)
    ] in
    let one_room = ap room one in
    let two_room = ap room two in
    omega (arith, a, b, c, one_room, two_room)

-- the offsets of the members
pub offsets_are : (next at : ℕ) (ms : List Member) → AllByRecursion Fits (parts_from next ms) → map (λ (m : archive.Member). m.offset) (found_from at (parts_from next ms)) ≡ offsets_from at ms
offsets_are next at [] fits = refl
offsets_are next at (m ∷ ms) fits =
    let len : length (written (name_text next m.name, m.bytes)) ≡ room (length m.bytes) = length-record (name_text next m.name) m.bytes fits.0.text fits.0.bytes in
    let rest : List Part = parts_from (behind_name next m.name) ms in
    ap (λ (n : ℕ). at ∷ map (λ (x : archive.Member). x.offset) (found_from (at + n) rest)) len ∙ (ap (λ (ns : List ℕ). at ∷ ns) (offsets_are (behind_name next m.name) (at + room (length m.bytes)) ms fits.1))
