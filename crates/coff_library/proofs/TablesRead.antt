-- Each linker member has its fields, and its names behind them.
use Rattle.std.proofs.Common.{◌≡◌, ◌∙◌, ℕ, ◌+◌, ◌*◌, ◌^◌, ◌<◌, ◌≤◌, false, List, [], ◌∷◌, ◌++◌, length, drop, get_or, Some, refl, sym, ap, subst, arith, length-append, append_assoc}
use Rattle.std.specs.Prelude.{map, ◌==◌, nat_lt, slice_index}
use Rattle.std.specs.List.{flat_map, AllByRecursion}
use Rattle.std.proofs.Math.Nat.{mul-suc}
use Rattle.std.proofs.lemmas.Bool.{le-ltb, ne_eqb}
use Rattle.std.proofs.lemmas.List.{drop_at}
use Rattle.byteorder.specs.Endian.{big_bytes}
use Rattle.pe_numbers.specs.declared.number.Number.TheVariants.{U16, U32}
use Rattle.pe_numbers.specs.Numbers.{numbers_bytes, number_bytes}
use Rattle.pe_numbers.specs.ReadBack.{length-number}
use Rattle.pe_numbers.specs.StandsAt.{StandsAt, stands_whole, stands-front, stands-back, stands_each}
use Rattle.pe_view.specs.Number.{num, byte_of}
use Rattle.coff_archive.specs.Bytes.{big}
use Rattle.coff_archive.specs.Symbols.{offset_count, symbol_count, offset_of, symbol_member, names_start}
use Rattle.coff_archive.specs.declared.linker.Linker.TheVariants.{First, Second}
use Rattle.coff_library.specs.Symbols.{Symbol}
use Rattle.coff_library.specs.Written.{symbol_names, names_size, first_size, second_size, first_table, second_table}
use Rattle.coff_library.proofs.Loops.{all_at, flat_map-map}
use Rattle.coff_library.proofs.LinkerTables.{big_read, four_read, two_read, IsTable}

each_long : {X : Type 0} (bytes : X → List ℕ) (size : ℕ) → ((x : X) → length (bytes x) ≡ size) → (xs : List X) → length (flat_map bytes xs) ≡ size * length xs
each_long bytes size long [] = omega arith
each_long bytes size long (x ∷ xs) =
    let both = length-append (bytes x) (flat_map bytes xs) in
    let here = long x in
    let rest = each_long bytes size long xs in
    let more = mul-suc size (length xs) in
    omega (arith, both, here, rest, more)

all_units : {X : Type 0} (xs : List X) → AllByRecursion (λ (x : X). Unit {0}) xs
all_units [] = tt
all_units (x ∷ xs) = (tt, all_units xs)

-- one of many of equal size
each_at : {X : Type 0} (bytes : X → List ℕ) (size : ℕ) → ((x : X) → length (bytes x) ≡ size) → (t : List ℕ) (place k : ℕ) (xs : List X) (d : X) → StandsAt t place (flat_map bytes xs) → k < length xs → StandsAt t (place + size * k) (bytes (get_or xs k d))
each_at bytes size long t place k xs d there lt = stands_each bytes size (λ x. Unit {0}) (λ x u. long x) t place k xs d (all_units xs) there lt

pub length-symbol_names : (ss : List Symbol) → length (symbol_names ss) ≡ names_size ss
length-symbol_names [] = refl
length-symbol_names (s ∷ ss) =
    let one = length-append s.name (0 ∷ []) in
    let two = length-append (s.name ++ 0 ∷ []) (symbol_names ss) in
    let rest = length-symbol_names ss in
    omega (arith, one, two, rest)

module _ (offsets : List ℕ) where
  offset_bytes : Symbol → List ℕ
  offset_bytes s = big_bytes 4 (slice_index offsets s.member)

  four : (s : Symbol) → length (offset_bytes s) ≡ 4
  unfolding offset_bytes
  four s = refl

  pub length-first : (ss : List Symbol) → length (first_table offsets ss) ≡ first_size ss
  unfolding first_table offset_bytes
  length-first ss =
      let fields = each_long offset_bytes 4 four ss in
      let names = length-symbol_names ss in
      let one = length-append (flat_map offset_bytes ss) (symbol_names ss) in
      let two = length-append (big_bytes 4 (length ss)) (flat_map offset_bytes ss ++ symbol_names ss) in
      omega (arith, fields, names, one, two)

  pub first_is : ((k : ℕ) → slice_index offsets k < 2 ^ 32) → (ss : List Symbol) → length ss < 2 ^ 32 → IsTable First (first_table offsets ss) offsets ss
  unfolding first_table offset_bytes symbol_count symbol_member
  first_is small ss few =
      let t : List ℕ = first_table offsets ss in
      let front : List ℕ = big_bytes 4 (length ss) in
      let fields : List ℕ = flat_map offset_bytes ss in
      let names : List ℕ = symbol_names ss in
      let whole : StandsAt t 0 (front ++ (fields ++ names)) = stands_whole t in
      let count : big t 0 ≡ length ss = big_read t 0 (length ss) few (stands-front t 0 front (fields ++ names) whole) in
      let behind = stands-back t 0 4 front (fields ++ names) whole refl in
      let there = stands-front t 4 fields names behind in
      let len = each_long offset_bytes 4 four ss in
      let size = length-first ss in
      record {
        place = omega arith;
        count = count;
        names = (
            let same : t ≡ (front ++ fields) ++ names = sym (append_assoc front fields names) in
            let both = length-append front fields in
            ap (λ (bs : List ℕ). drop (names_start First t) bs) same ∙ drop_at (front ++ fields) names (names_start First t) (omega (arith, both, len, count))
            );
        inside = omega (arith, count, size);
        members = λ j d lt. ap (λ (n : ℕ). Some n) (big_read t (4 + 4 * j) (slice_index offsets (get_or ss j d).member) (small (get_or ss j d).member) (each_at offset_bytes 4 four t 4 j ss d there lt));
      }

  offset_of_member : ℕ → List ℕ
  offset_of_member offset = number_bytes (U32 offset)

  index_of : Symbol → List ℕ
  index_of s = number_bytes (U16 (s.member + 1))

  offset_four : (offset : ℕ) → length (offset_of_member offset) ≡ 4
  unfolding offset_of_member
  offset_four offset = length-number (U32 offset)

  index_two : (s : Symbol) → length (index_of s) ≡ 2
  unfolding index_of
  index_two s = length-number (U16 (s.member + 1))

  offsets_bytes : numbers_bytes (map U32 offsets) ≡ flat_map offset_of_member offsets
  unfolding offset_of_member
  offsets_bytes = flat_map-map number_bytes U32 offsets

  indexes_bytes : (ss : List Symbol) → numbers_bytes (map (λ (s : Symbol). U16 (s.member + 1)) ss) ≡ flat_map index_of ss
  unfolding index_of
  indexes_bytes ss = flat_map-map number_bytes (λ (s : Symbol). U16 (s.member + 1)) ss

  -- the second linker member, field by field
  second_by : List Symbol → List ℕ
  second_by ss = (number_bytes (U32 (length offsets)) ++ flat_map offset_of_member offsets) ++ ((number_bytes (U32 (length ss)) ++ flat_map index_of ss) ++ symbol_names ss)

  second_same : (ss : List Symbol) → second_table offsets ss ≡ second_by ss
  unfolding second_table second_by
  second_same ss =
      let one = offsets_bytes in
      let two = indexes_bytes ss in
      rw (one, two) refl

  pub length-second : (ss : List Symbol) → length (second_table offsets ss) ≡ second_size (length offsets) ss
  unfolding second_by
  length-second ss =
      let same = ap length (second_same ss) in
      let a = length-number (U32 (length offsets)) in
      let b = each_long offset_of_member 4 offset_four offsets in
      let c = length-number (U32 (length ss)) in
      let d = each_long index_of 2 index_two ss in
      let e = length-symbol_names ss in
      let ab = length-append (number_bytes (U32 (length offsets))) (flat_map offset_of_member offsets) in
      let cd = length-append (number_bytes (U32 (length ss))) (flat_map index_of ss) in
      let cde = length-append (number_bytes (U32 (length ss)) ++ flat_map index_of ss) (symbol_names ss) in
      let all = length-append (number_bytes (U32 (length offsets)) ++ flat_map offset_of_member offsets) ((number_bytes (U32 (length ss)) ++ flat_map index_of ss) ++ symbol_names ss) in
      omega (arith, same, a, b, c, d, e, ab, cd, cde, all)

  by_fields : ((k : ℕ) → slice_index offsets k < 2 ^ 32) → (ss : List Symbol) → length ss < 2 ^ 32 → length offsets ≤ 65535 → AllByRecursion (λ (s : Symbol). s.member < length offsets) ss → IsTable Second (second_by ss) offsets ss
  unfolding second_by offset_of_member index_of symbol_count symbol_member offset_count offset_of
  by_fields small ss few most members =
      let t : List ℕ = second_by ss in
      let m : ℕ = length offsets in
      let n : ℕ = length ss in
      let a : List ℕ = number_bytes (U32 m) in
      let b : List ℕ = flat_map offset_of_member offsets in
      let c : List ℕ = number_bytes (U32 n) in
      let d : List ℕ = flat_map index_of ss in
      let names : List ℕ = symbol_names ss in
      let len_a = length-number (U32 m) in
      let len_b = each_long offset_of_member 4 offset_four offsets in
      let len_c = length-number (U32 n) in
      let len_d = each_long index_of 2 index_two ss in
      let len_ab = length-append a b in
      let len_cd = length-append c d in
      let whole : StandsAt t 0 ((a ++ b) ++ ((c ++ d) ++ names)) = stands_whole t in
      let front = stands-front t 0 (a ++ b) ((c ++ d) ++ names) whole in
      let behind = stands-back t 0 (4 + 4 * m) (a ++ b) ((c ++ d) ++ names) whole (omega (arith, len_a, len_b, len_ab)) in
      let middle = stands-front t (4 + 4 * m) (c ++ d) names behind in
      let there_b = stands-back t 0 4 a b front (omega (arith, len_a)) in
      let there_c = stands-front t (4 + 4 * m) c d middle in
      let there_d = stands-back t (4 + 4 * m) (8 + 4 * m) c d middle (omega (arith, len_c)) in
      let counted : num (byte_of t) 0 4 ≡ m = four_read t 0 m (omega (arith, most)) (stands-front t 0 a b front) in
      let count : num (byte_of t) (4 + 4 * m) 4 ≡ n = four_read t (4 + 4 * m) n few there_c in
      let same : t ≡ ((a ++ b) ++ (c ++ d)) ++ names = sym (append_assoc (a ++ b) (c ++ d) names) in
      let len_all = length-append (a ++ b) (c ++ d) in
      let len_t = ap length same ∙ length-append ((a ++ b) ++ (c ++ d)) names in
      record {
        place = omega arith;
        count = rw counted count;
        names = rw (counted, count)
            (ap (λ (bs : List ℕ). drop (8 + 4 * m + 2 * n) bs) same ∙ drop_at ((a ++ b) ++ (c ++ d)) names (8 + 4 * m + 2 * n) (omega (arith, len_all, len_ab, len_cd, len_a, len_b, len_c, len_d)));
        inside = rw (counted, count) (omega (arith, len_t, len_all, len_ab, len_cd, len_a, len_b, len_c, len_d));
        members = λ j x lt.
            (let k : ℕ = (get_or ss j x).member in
            let below = all_at (λ (s : Symbol). s.member < length offsets) ss j x members lt in
            let index : num (byte_of t) (8 + 4 * m + 2 * j) 2 ≡ k + 1 = two_read t (8 + 4 * m + 2 * j) (k + 1) (omega (arith, below, most)) (each_at index_of 2 index_two t (8 + 4 * m) j ss x there_d lt) in
            let some : (k + 1 == 0) ≡ false = ne_eqb (k + 1) 0 (λ h. omega (arith, h)) in
            let inside : nat_lt m (k + 1) ≡ false = le-ltb m (k + 1) (omega (arith, below)) in
            let at : num (byte_of t) (4 * (k + 1)) 4 ≡ slice_index offsets k =
            ap (λ (p : ℕ). num (byte_of t) p 4) (let e : 4 * (k + 1) ≡ 4 + 4 * k = omega arith in e) ∙ four_read t (4 + 4 * k) (slice_index offsets k) (small k) (each_at offset_of_member 4 offset_four t 4 k offsets 0 there_b below) in
            rw (counted, index, some, inside, at) refl);
      }

  pub second_is : ((k : ℕ) → slice_index offsets k < 2 ^ 32) → (ss : List Symbol) → length ss < 2 ^ 32 → length offsets ≤ 65535 → AllByRecursion (λ (s : Symbol). s.member < length offsets) ss → IsTable Second (second_table offsets ss) offsets ss
  second_is small ss few most members = subst (λ (t : List ℕ). IsTable Second t offsets ss) (sym (second_same ss)) (by_fields small ss few most members)
