-- What is read of an archive that was written.
use Rattle.std.proofs.Common.{◌≡◌, ◌∙◌, ℕ, zero, suc, ◌+◌, ◌-◌, ◌%◌, ◌^◌, ◌<◌, ◌≤◌, Bool, true, false, List, [], ◌∷◌, ◌++◌, length, Option, Some, None, refl, sym, ap, subst, arith, inl, inr, length-append, append_assoc}
use Rattle.std.specs.Prelude.{map, option_map, Result, Ok, ◌==◌, not, nat_lt, is_none, slice_index}
use Rattle.std.specs.List.{flat_map, list_all, AllByRecursion}
use Rattle.std.specs.Result.{result_ok}
use Rattle.std.proofs.lemmas.Bool.{cases_Bool, ltb-false}
use Rattle.std.proofs.lemmas.List.Sorted.{length_permutation}
use Rattle.pe_view.specs.Standing.{standing}
use Rattle.pe_numbers.specs.StandsAt.{StandsAt, stands_whole, stands-front, stands-back}
use Rattle.pe_view.specs.declared.fault.Fault.{Fault}
use Rattle.pe_view.specs.Faults.{Test, first_standing}
use Rattle.pe_view.specs.FirstStanding.{none-append}
use Rattle.coff_archive.specs.Findings.{read_tests, symbol_tests, table_tests, archive_tests}
use Rattle.coff_archive.specs.Front.{first_linker, second_linker, names_of}
use Rattle.coff_archive.specs.Members as archive
use Rattle.coff_archive.specs.Members.{signature, thinness, is_special, read_at, at_offset}
use Rattle.coff_archive.specs.Names.{name_of}
use Rattle.coff_archive.specs.Symbols as archive_symbols
use Rattle.coff_archive.specs.Symbols.{symbols, is_cut}
use Rattle.coff_archive.specs.declared.linker.Linker.{Linker}
use Rattle.coff_archive.specs.declared.linker.Linker.TheVariants.{First, Second}
use Rattle.coff_library.specs.Members.{Member}
use Rattle.coff_library.specs.ReadBack.{located, IsReadBack}
use Rattle.coff_library.specs.Symbols.{Symbol, symbols_of, IsAscending}
use Rattle.coff_library.specs.WriteFaults.{is_bad_name, name_tests, size_tests, member_tests, write_tests}
use Rattle.coff_library.specs.Written as library
use Rattle.coff_library.specs.Written.{padded, first_size, second_size, names_size, first_table, second_table, members_start, member_offsets, offsets_from, archive_with}
use Rattle.coff_library.proofs.Front.{IsFront, first_is, second_is, names_are}
use Rattle.coff_library.proofs.Laid.{names_parts, all_parts, all_fit, archive_is, flat_map-append, found-append, start_is, offsets_are, stand_first}
use Rattle.coff_library.proofs.LinkerTables.{NoZero, IsTable, table_read, table_whole}
use Rattle.coff_library.proofs.Names.{parts_from, are_named}
use Rattle.coff_library.proofs.NoZeros.{IsSound, sound, sound_order}
use Rattle.coff_library.proofs.Orders.{same_size, members_below}
use Rattle.coff_library.proofs.Reading.{Part, written, member_at, found_from, Fits, is_read, walk_is, even_room}
use Rattle.coff_library.proofs.TablesRead.{length-first, length-second, first_is as first_table_is, second_is as second_table_is}
use Rattle.coff_library.proofs.Writable.{AreNear, none_test, near, good_names, writable, small_sizes, small_offsets, length-offsets}

-- nothing stands of two tables, one after the other
past : (xs ys : List Test) → standing xs ≡ [] → standing (xs ++ ys) ≡ standing ys
past [] ys none = refl
past (t ∷ xs) ys none = elim (cases_Bool t.stands) [
  | inl is ↦ absurd (let e : t.fault ∷ standing xs ≡ [] = rw is at none in cc)
  | inr not ↦ (let rest : standing xs ≡ [] = rw not at none in rw not (past xs ys rest))
]

-- each member of parts is read where it stands
reads : (file : List ℕ) (es : List Part) (at k : ℕ) → AllByRecursion Fits es → at % 2 ≡ 0 → StandsAt file at (flat_map written es) → k < length es
    → is_none (result_ok (read_at false file (slice_index (map (λ (m : archive.Member). m.offset) (found_from at es)) k))) ≡ false
reads file [] at k fits even there lt = absurd (omega (arith, lt))
reads file (e ∷ es) at zero fits even there lt = ap (λ (r : Result archive.Member Fault). is_none (result_ok r)) (is_read file at e fits.0 even (stands-front file at (written e) (flat_map written es) there)).member
reads file (e ∷ es) at (suc k) fits even there lt =
    let parity = even_room e.0 e.1 fits.0.text fits.0.bytes in
    reads file es (at + length (written e)) k fits.1 (omega (arith, parity, even)) (stands-back file at (at + length (written e)) (written e) (flat_map written es) there refl) (omega (arith, lt))

-- no symbol is lost
none_lost : (file offsets : List ℕ) (at count : ℕ) (ss : List Symbol) → ((k : ℕ) → k < count → is_none (result_ok (read_at false file (slice_index offsets k))) ≡ false) → AllByRecursion (IsSound count) ss
    → standing (flat_map (symbol_tests false file at) (map (located offsets) ss)) ≡ []
none_lost file offsets at count [] there sound_all = refl
none_lost file offsets at count (s ∷ ss) there sound_all =
    let rest : List Test = flat_map (symbol_tests false file at) (map (located offsets) ss) in
    ap (λ (b : Bool). standing (at_offset 306 at b ∷ rest)) (there s.member sound_all.0.member) ∙ none_lost file offsets at count ss there sound_all.1

no_zeros : (count : ℕ) (ss : List Symbol) → AllByRecursion (IsSound count) ss → AllByRecursion (λ (s : Symbol). NoZero s.name) ss
no_zeros count [] all = tt
no_zeros count (s ∷ ss) all = (all.0.name, no_zeros count ss all.1)

-- a linker member has no finding
table_sound : (linker : Linker) (file offsets t : List ℕ) (at count : ℕ) (ss : List Symbol) → IsTable linker t offsets ss → ((k : ℕ) → k < count → is_none (result_ok (read_at false file (slice_index offsets k))) ≡ false) → AllByRecursion (IsSound count) ss
    → standing (table_tests false file linker (Some (member_at at (47 ∷ [], t)))) ≡ []
table_sound linker file offsets t at count ss is there all =
    let zeros = no_zeros count ss all in
    let whole = table_whole linker t offsets ss zeros is in
    let read = table_read linker t offsets ss zeros is in
    ap (λ (b : Bool). standing (at_offset 305 at b ∷ flat_map (symbol_tests false file at) (symbols linker t))) whole
    ∙ ap (λ (xs : List archive_symbols.Symbol). standing (flat_map (symbol_tests false file at) xs)) read ∙ none_lost file offsets at count ss there all

-- each name is found
all_named : (names : List ℕ) (xs : List archive.Member) (ms : List Member) → map (name_of names) xs ≡ map (λ (m : Member). Some m.name) ms → standing (flat_map (read_tests names) (map Ok xs)) ≡ []
all_named names [] ms same = refl
all_named names (x ∷ xs) [] same = absurd (cc)
all_named names (x ∷ xs) (m ∷ ms) same =
    let here : name_of names x ≡ Some m.name = cc in
    let rest : map (name_of names) xs ≡ map (λ (y : Member). Some y.name) ms = cc in
    ap (λ (o : Option (List ℕ)). standing (at_offset 304 x.offset (is_none o) ∷ flat_map (read_tests names) (map Ok xs))) here ∙ all_named names xs ms rest

tests_of : (names : List ℕ) (xs ys : List archive.Member) → flat_map (read_tests names) (map Ok (xs ++ ys)) ≡ flat_map (read_tests names) (map Ok xs) ++ flat_map (read_tests names) (map Ok ys)
tests_of names [] ys = refl
tests_of names (x ∷ xs) ys =
    ap (λ (ts : List Test). read_tests names (Ok x) ++ ts) (tests_of names xs ys) ∙ sym (append_assoc (read_tests names (Ok x)) (flat_map (read_tests names) (map Ok xs)) (flat_map (read_tests names) (map Ok ys)))

own_named : (names first second all : List ℕ) (at p : ℕ) → standing (flat_map (read_tests all) (map Ok (member_at 8 (47 ∷ [], first) ∷ member_at at (47 ∷ [], second) ∷ found_from p (names_parts names)))) ≡ []
unfolding padded
own_named names first second all at p = elim (cases_Bool (length names == 0)) [
  | inl none ↦ rw none refl
  | inr some ↦ rw some refl
]

own_special : (names first second : List ℕ) (at p : ℕ) → list_all (λ (m : archive.Member). is_special m.field) (member_at 8 (47 ∷ [], first) ∷ member_at at (47 ∷ [], second) ∷ found_from p (names_parts names)) ≡ true
unfolding padded
own_special names first second at p = elim (cases_Bool (length names == 0)) [
  | inl none ↦ rw none refl
  | inr some ↦ rw some refl
]

length-parts : (next : ℕ) (ms : List Member) → length (parts_from next ms) ≡ length ms
length-parts next [] = refl
length-parts next (m ∷ ms) = let rest = length-parts (library.behind_name next m.name) ms in omega (arith, rest)

front_fits : (xs ys : List Part) → AllByRecursion Fits (xs ++ ys) → AllByRecursion Fits xs
front_fits [] ys all = tt
front_fits (x ∷ xs) ys all = (all.0, front_fits xs ys all.1)

back_fits : (xs ys : List Part) → AllByRecursion Fits (xs ++ ys) → AllByRecursion Fits ys
back_fits [] ys all = all
back_fits (x ∷ xs) ys all = back_fits xs ys all.1

even_behind : (xs : List Part) (at : ℕ) → AllByRecursion Fits xs → at % 2 ≡ 0 → (at + length (flat_map written xs)) % 2 ≡ 0
even_behind [] at fits even = omega (arith, even)
even_behind (x ∷ xs) at fits even =
    let parity = even_room x.0 x.1 fits.0.text fits.0.bytes in
    let rest = even_behind xs (at + length (written x)) fits.1 (omega (arith, parity, even)) in
    let one = length-append (written x) (flat_map written xs) in
    omega (arith, rest, one)

-- the file of two tables
pub file_of : List Member → List ℕ → List ℕ → List ℕ
file_of ms first second = signature ++ flat_map written (all_parts first second ms)

module _ (ms : List Member) (first second : List ℕ) (small_first : length first < 2 ^ 32) (small_second : length second < 2 ^ 32) (small_names : length (library.long_names ms) < 2 ^ 32) (sizes : AllByRecursion (λ (m : Member). length m.bytes < 2 ^ 32) ms) where
  rest_parts : List Part
  rest_parts = names_parts (library.long_names ms) ++ parts_from 0 ms

  pub place_two : ℕ
  place_two = 8 + length (written (47 ∷ [], first))

  pub place_three : ℕ
  place_three = place_two + length (written (47 ∷ [], second))

  stands : StandsAt (file_of ms first second) 8 (flat_map written (all_parts first second ms))
  unfolding file_of
  stands = stands-back (file_of ms first second) 0 8 signature (flat_map written (all_parts first second ms)) (stands_whole (file_of ms first second)) refl

  fits_all : AllByRecursion Fits (all_parts first second ms)
  fits_all = all_fit first second ms small_first small_second small_names sizes

  length-file : length (file_of ms first second) ≡ 8 + length (flat_map written (all_parts first second ms))
  unfolding file_of
  length-file = length-append signature (flat_map written (all_parts first second ms))

  pub front : IsFront (file_of ms first second) first second ms
  unfolding rest_parts place_two place_three
  front =
      let one : Part = (47 ∷ [], first) in
      let two : Part = (47 ∷ [], second) in
      let rest : List Part = names_parts (library.long_names ms) ++ parts_from 0 ms in
      let there = stands in
      let here = stands-front (file_of ms first second) 8 (written one) (written two ++ flat_map written rest) there in
      let behind = stands-back (file_of ms first second) 8 place_two (written one) (written two ++ flat_map written rest) there refl in
      let next = stands-front (file_of ms first second) place_two (written two) (flat_map written rest) behind in
      let last = stands-back (file_of ms first second) place_two place_three (written two) (flat_map written rest) behind refl in
      let even_one = even_room (47 ∷ []) first (omega arith) small_first in
      let even_two = even_room (47 ∷ []) second (omega arith) small_second in
      let a = length-append (written one) (written two ++ flat_map written rest) in
      let b = length-append (written two) (flat_map written rest) in
      let c = length-file in
      record {
        first_read = is_read (file_of ms first second) 8 one fits_all.0 refl here;
        second_at = place_two;
        second_at_is = refl;
        second_read = is_read (file_of ms first second) place_two two fits_all.1.0 (omega (arith, even_one)) next;
        rest_at = place_three;
        rest_at_is = refl;
        even = omega (arith, even_one, even_two);
        rest = last;
        end = omega (arith, a, b, c);
        fits = fits_all.1.1;
      }

  pub own : List archive.Member
  own = member_at 8 (47 ∷ [], first) ∷ member_at place_two (47 ∷ [], second) ∷ found_from place_three (names_parts (library.long_names ms))

  pub members_at : ℕ
  members_at = place_three + length (flat_map written (names_parts (library.long_names ms)))

  pub found : List archive.Member
  found = found_from members_at (parts_from 0 ms)

  pub walked : archive.members false (file_of ms first second) ≡ map Ok (own ++ found)
  unfolding own found members_at place_two place_three
  walked =
      let len = length-file in
      walk_is (file_of ms first second) (all_parts first second ms) (length (file_of ms first second) - 8) 8 fits_all refl stands (omega (arith, len)) (omega (arith, len))
      ∙ ap (λ (xs : List archive.Member). map Ok (member_at 8 (47 ∷ [], first) ∷ member_at place_two (47 ∷ [], second) ∷ xs)) (found-append place_three (names_parts (library.long_names ms)) (parts_from 0 ms))

  fits_members : AllByRecursion Fits (parts_from 0 ms)
  fits_members = back_fits (names_parts (library.long_names ms)) (parts_from 0 ms) fits_all.1.1

  pub places : (sizes_are : length first ≡ first_size (symbols_of ms)) → length second ≡ second_size (length ms) (symbols_of ms) → map (λ (m : archive.Member). m.offset) found ≡ member_offsets ms
  unfolding found members_at place_two place_three member_offsets
  places one two = offsets_are 0 members_at ms fits_members ∙ ap (λ (at : ℕ). offsets_from at ms) (start_is first second ms one two small_first small_second small_names)

  even_three : place_three % 2 ≡ 0
  unfolding place_two place_three
  even_three =
      let even_one = even_room (47 ∷ []) first (omega arith) small_first in
      let even_two = even_room (47 ∷ []) second (omega arith) small_second in
      omega (arith, even_one, even_two)

  rest_stands : StandsAt (file_of ms first second) place_three (flat_map written (names_parts (library.long_names ms) ++ parts_from 0 ms))
  unfolding place_two place_three
  rest_stands =
      let one : Part = (47 ∷ [], first) in
      let two : Part = (47 ∷ [], second) in
      let rest : List Part = names_parts (library.long_names ms) ++ parts_from 0 ms in
      let behind = stands-back (file_of ms first second) 8 place_two (written one) (written two ++ flat_map written rest) stands refl in
      stands-back (file_of ms first second) place_two place_three (written two) (flat_map written rest) behind refl

  pub all_read : (k : ℕ) → k < length ms → is_none (result_ok (read_at false (file_of ms first second) (slice_index (map (λ (m : archive.Member). m.offset) found) k))) ≡ false
  unfolding found members_at
  all_read k lt =
      let names : List Part = names_parts (library.long_names ms) in
      let parity = even_behind names place_three (front_fits names (parts_from 0 ms) fits_all.1.1) even_three in
      let len = length-parts 0 ms in
      reads (file_of ms first second) (parts_from 0 ms) members_at k fits_members parity
      (stands-back (file_of ms first second) place_three members_at (flat_map written names) (flat_map written (parts_from 0 ms)) (subst (λ (bs : List ℕ). StandsAt (file_of ms first second) place_three bs) (flat_map-append names (parts_from 0 ms)) rest_stands) refl)
      (omega (arith, len, lt))

few_symbols : (ss : List Symbol) → first_size ss < 2 ^ 32 → length ss < 2 ^ 32
few_symbols ss small = omega (arith, small)

-- what holds of the file of the two tables
by_tables : (ms : List Member) (order : List Symbol) → length ms ≤ 65535 → AllByRecursion (λ (m : Member). is_bad_name m.name ≡ false) ms → AreNear (members_start ms) ms → IsAscending (symbols_of ms) order
    → IsReadBack ms (file_of ms (first_table (member_offsets ms) (symbols_of ms)) (second_table (member_offsets ms) order))
unfolding file_of own found members_at place_two place_three archive_tests member_offsets
by_tables ms order few good n asc =
    let offs : List ℕ = member_offsets ms in
    let ss : List Symbol = symbols_of ms in
    let t : List ℕ = first_table offs ss in
    let u : List ℕ = second_table offs order in
    let w = writable ms few n in
    let count : length offs ≡ length ms = length-offsets (members_start ms) ms in
    let small = small_offsets (members_start ms) ms n in
    let len_t : length t ≡ first_size ss = length-first offs ss in
    let same_names = same_size ss order asc.same in
    let same_count = length_permutation ss order asc.same in
    let len_u : length u ≡ second_size (length ms) ss = length-second offs order ∙ ap (λ (k : ℕ). second_size k order) count ∙ (omega (arith, same_names, same_count)) in
    let small_t : length t < 2 ^ 32 = (let f = w.first in omega (arith, f, len_t)) in
    let small_u : length u < 2 ^ 32 = (let f = w.second in omega (arith, f, len_u)) in
    let sizes = small_sizes (members_start ms) ms n in
    let names = w.names in
    let f = front ms t u small_t small_u names sizes in
    let own_is : List archive.Member = own ms t u small_t small_u names sizes in
    let found_is : List archive.Member = found ms t u small_t small_u names sizes in
    let archive_file : List ℕ = file_of ms t u in
    let walk = walked ms t u small_t small_u names sizes in
    let at_offsets = places ms t u small_t small_u names sizes len_t len_u in
    let long_is = names_are archive_file t u ms f good in
    let all = are_named (library.long_names ms) 0 (members_at ms t u small_t small_u names sizes) ms good names (stand_first ms) in
    let read : (k : ℕ) → k < length ms → is_none (result_ok (read_at false archive_file (slice_index offs k))) ≡ false =
    (λ k lt. ap (λ (xs : List ℕ). is_none (result_ok (read_at false archive_file (slice_index xs k)))) (sym at_offsets) ∙ all_read ms t u small_t small_u names sizes k lt) in
    let sound_ss = sound ms in
    let sound_order_is = sound_order (length ms) ss order asc.same sound_ss in
    let few_ss = few_symbols ss w.first in
    let table_one = first_table_is offs small ss few_ss in
    let few_order : length order < 2 ^ 32 = omega (arith, same_count, few_ss) in
    let below : AllByRecursion (λ (s : Symbol). s.member < length offs) order = subst (λ (k : ℕ). AllByRecursion (λ (s : Symbol). s.member < k) order) (sym count) (members_below (length ms) order sound_order_is) in
    let table_two = second_table_is offs small order few_order (omega (arith, count, few)) below in
    let one = first_is archive_file t u ms f in
    let two = second_is archive_file t u ms f in
    let long : List ℕ = library.long_names ms in
    let first_tests : List Test = flat_map (read_tests (names_of false archive_file)) (archive.members false archive_file) in
    let second_tests : List Test = table_tests false archive_file First (first_linker false archive_file) in
    let third_tests : List Test = table_tests false archive_file Second (second_linker false archive_file) in
    let named_all : standing first_tests ≡ [] =
    ap (λ (ns : List ℕ). standing (flat_map (read_tests ns) (archive.members false archive_file))) long_is
    ∙ ap (λ (xs : List (Result archive.Member Fault)). standing (flat_map (read_tests long) xs)) walk ∙ ap standing (tests_of long own_is found_is)
    ∙ past (flat_map (read_tests long) (map Ok own_is)) (flat_map (read_tests long) (map Ok found_is)) (own_named long t u long (place_two ms t u small_t small_u names sizes) (place_three ms t u small_t small_u names sizes))
    ∙ all_named long found_is ms all.names_are in
    let sound_one : standing second_tests ≡ [] =
    ap (λ (o : Option archive.Member). standing (table_tests false archive_file First o)) one ∙ table_sound First archive_file offs t 8 (length ms) ss table_one read sound_ss in
    let sound_two : standing third_tests ≡ [] =
    ap (λ (o : Option archive.Member). standing (table_tests false archive_file Second o)) two ∙ table_sound Second archive_file offs u f.second_at (length ms) order table_two read sound_order_is in
    record {
      members_are = record {
        kind = refl;
        own = own_is;
        found = found_is;
        walked = walk;
        own_are = own_special (library.long_names ms) t u (place_two ms t u small_t small_u names sizes) (place_three ms t u small_t small_u names sizes);
        found_are = all.none_own;
        offsets_are = at_offsets;
        names_are = ap (λ (ns : List ℕ). map (name_of ns) found_is) long_is ∙ all.names_are;
        contents_are = all.contents_are;
      };
      symbols_are = record {
        first = ap (option_map (λ (m : archive.Member). symbols First m.bytes)) one ∙ ap (λ (xs : List archive_symbols.Symbol). Some xs) (table_read First t offs ss (no_zeros (length ms) ss sound_ss) table_one);
        order = order;
        ascending = asc;
        second = ap (option_map (λ (m : archive.Member). symbols Second m.bytes)) two ∙ ap (λ (xs : List archive_symbols.Symbol). Some xs) (table_read Second u offs order (no_zeros (length ms) order sound_order_is) table_two);
      };
      sound = past first_tests (second_tests ++ third_tests) named_all ∙ past second_tests third_tests sound_one ∙ sound_two;
    }

pub read_back : (members : List Member) (bytes : List ℕ) → first_standing (write_tests members) ≡ None → library.IsArchiveOf members bytes → IsReadBack members bytes
unfolding write_tests file_of
read_back ms bytes none is =
    let parts = none-append (member_tests ms) (size_tests 0 (members_start ms) ms) none in
    let few = none_test (nat_lt 65535 (length ms)) _ (first_standing (name_tests 0 ms)) parts.0 in
    let order : List Symbol = is.order in
    let le = ltb-false 65535 (length ms) few.0 in
    subst (IsReadBack ms) (sym (is.written ∙ archive_is ms order)) (by_tables ms order le (good_names 0 ms few.1) (near 0 (members_start ms) ms parts.1) is.ascending)
