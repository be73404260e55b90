-- Written symbols, read back.
use Rattle.std.proofs.Common.{◌≡◌, ℕ, zero, suc, ◌+◌, ◌-◌, ◌*◌, ◌%◌, ◌^◌, ◌<◌, ◌≤◌, true, false, List, [], ◌∷◌, ◌++◌, length, Option, Some, None, refl, sym, ap, subst, ◌∙◌, length-append, append_assoc, arith, inl, inr}
use Rattle.std.specs.Prelude.{map, slice_range, nat_lt, not, ◌==◌, ◌&&◌, ◌||◌, is_none}
use Rattle.std.specs.List.{flat_map, AllByRecursion}
use Rattle.std.specs.Option.{unwrap_or}
use Rattle.std.proofs.lemmas.Bool.{cases_Bool, or_parts, and_left, and_right, le-leb, le-ltb, ltb-false, eqb-true, ne_eqb, not-false}
use Rattle.pe_view.specs.FirstStanding.{first-past}
use Rattle.pe_view.specs.Faults.{first_standing}
use Rattle.pe_view.specs.Text.{zero_ended}
use Rattle.pe_view.specs.Number.{num, byte_of, part}
use Rattle.pe_numbers.specs.declared.number.Number.{Number}
use Rattle.pe_numbers.specs.declared.number.Number.TheVariants.{U8, U16, U32}
use Rattle.pe_numbers.specs.Numbers.{NumberFits, number_bytes, numbers_bytes, beginning_at}
use Rattle.pe_numbers.specs.StandsAt.{StandsAt, stands-front, stands-back, stands_part, stands_inside}
use Rattle.coff_read.specs.Field.{field}
use Rattle.coff_read.specs.Names.{padded, is_long}
use Rattle.coff_read.specs.Records.{Symbol, SymbolFits}
use Rattle.coff_read.specs.Strings.{is_among, offset_of, string_bytes}
use Rattle.coff_object.specs.WriteFaults.{has_zero}
use Rattle.coff_object.specs.Written.{symbol_name_field}
use Rattle.coff_read.specs.declared.symbol.SymbolSection.{SymbolSection}
use Rattle.coff_read.specs.declared.symbol.SymbolSection.TheVariants as belongs
use Rattle.coff_object.proofs.Bytes.{field_read, field_read-behind, field_in}
use Rattle.coff_object.proofs.NameFields.{up_to_zero-filled, length-padded}
use Rattle.coff_object.proofs.StringTable.{is_stored}
use Rattle.coff_read.proofs.StringPlaces.{zero_ended-behind}
use Rattle.coff_read.specs.FormFaults.{symbol_tests}
use Rattle.coff_read.specs.FormReading.{symbol_at, section_of_number, record_start, aux_of, aux_count, number_in, symbols_from, record_count, string_at, strings_start, strings_size, symbol_name}
use Rattle.coff_read.specs.Forms.{Form, symbol_len, section_count, absolute_number, debug_number, kind_at, class_at}
use Rattle.coff_read.specs.FormRecords.{section_number, aux_records, records_of, last_number, is_bad_number, is_bad_symbol}
use Rattle.coff_object.specs.FormWritten.{number_of, symbol_numbers, symbol_fields, symbol_bytes}
use Rattle.coff_read.proofs.Walk.{form_symbols-step}

-- a file has a string table of these strings
pub record HasStrings (big : Form) (file : List ℕ) (table : List (List ℕ)) : Type 0 where
  pub size : strings_size big file ≡ 4 + length (string_bytes table)
  pub bytes : StandsAt file (strings_start big file + 4) (string_bytes table)

-- what a symbol must be to be written and read back, if there are `count` sections
pub record SymbolWritable (big : Form) (strings : List (List ℕ)) (count : ℕ) (s : Symbol) : Type 0 where
  pub fits : SymbolFits s
  pub stored : is_long s.name ≡ true → is_among s.name strings ≡ true
  pub no_zero : has_zero s.name ≡ false
  pub near : offset_of strings s.name < 2 ^ 32
  pub good : is_bad_symbol big count s ≡ false

-- the symbols from record k on, read back
pub record AreSymbolsFrom (big : Form) (file : List ℕ) (k : ℕ) (ss : List Symbol) : Type 0 where
  pub are : map (λ k. symbol_at big file (record_start big file k)) (symbols_from big file k (records_of big ss) 0) ≡ ss
  pub accepted : first_standing (flat_map (symbol_tests big file) (symbols_from big file k (records_of big ss) 0)) ≡ None

pub string_read : (big : Form) (file : List ℕ) (table : List (List ℕ)) (text : List ℕ) → HasStrings big file table → is_among text table ≡ true → has_zero text ≡ false → string_at big file (offset_of table text) ≡ Some text
string_read big file table text h is none =
    let s = is_stored 4 table text is in
    let at : ℕ = strings_start big file + offset_of table text in
    let end : ℕ = strings_start big file + strings_size big file in
    let size = h.size in
    let offset = s.offset in
    let text_len : length (text ++ 0 ∷ []) ≡ length text + 1 = length-append text (0 ∷ []) in
    let one_len : length ((text ++ 0 ∷ []) ++ s.back) ≡ length (text ++ 0 ∷ []) + length s.back = length-append (text ++ 0 ∷ []) s.back in
    let all_len : length (string_bytes table) ≡ length s.front + length ((text ++ 0 ∷ []) ++ s.back) = ap length s.bytes ∙ length-append s.front ((text ++ 0 ∷ []) ++ s.back) in
    let inside : end ≤ length file = (let e = stands_inside file (strings_start big file + 4) (string_bytes table) h.bytes (omega arith) in omega arith) in
    let split : StandsAt file (strings_start big file + 4) (s.front ++ ((text ++ 0 ∷ []) ++ s.back)) = subst (StandsAt file (strings_start big file + 4)) s.bytes h.bytes in
    let here : StandsAt file at ((text ++ 0 ∷ []) ++ s.back) = stands-back file (strings_start big file + 4) at s.front ((text ++ 0 ∷ []) ++ s.back) split (omega arith) in
    let range : slice_range file at end ≡ (text ++ 0 ∷ []) ++ s.back = stands_part file at (end - at) ((text ++ 0 ∷ []) ++ s.back) here (omega arith) in
    let four = le-ltb (offset_of table text) 4 (omega arith) in
    let fits = le-leb end (length file) inside in
    rw (four, fits, range) (ap zero_ended (append_assoc text (0 ∷ []) s.back) ∙ zero_ended-behind text s.back none)

pub length-name_field : (strings : List (List ℕ)) (name : List ℕ) → length (symbol_name_field strings name) ≡ 8
unfolding number_bytes
length-name_field strings name = elim (cases_Bool (is_long name)) [
  | inl long ↦ rw long refl
  | inr short ↦ rw short (length-padded name (ltb-false 8 (length name) short))
]

-- a short name
inline_read : (big : Form) (file : List ℕ) (at : ℕ) (name : List ℕ) → length name ≤ 8 → has_zero name ≡ false → StandsAt file at (padded name) → symbol_name big file at ≡ Some name
unfolding number_bytes
inline_read big file at [] le none has =
    let first : field file at 0 4 ≡ 0 = field_in file at (padded []) 0 4 has (omega arith) in
    let second : field file at 4 4 ≡ 0 = field_in file at (padded []) 4 4 has (omega arith) in
    rw (first, second) refl
inline_read big file at (zero ∷ name) le none has = absurd cc
inline_read big file at (suc b ∷ name) le none has =
    let text : List ℕ = suc b ∷ name in
    let eight = length-padded text le in
    let value : field file at 0 4 ≡ suc b + 256 * num (byte_of (padded text)) 1 3 = field_in file at (padded text) 0 4 has (omega (arith, eight)) in
    let some : (field file at 0 4 == 0) ≡ false = ne_eqb _ 0 (λ e. omega arith) in
    let bytes : part file at 8 ≡ padded text = stands_part file at 8 (padded text) has (sym (length-padded text le)) in
    rw (some, bytes) (ap Some (up_to_zero-filled text (8 - length text) none))

-- a name of the string table
long_read : (big : Form) (file : List ℕ) (at offset : ℕ) (name : List ℕ) → 0 < offset → offset < 2 ^ 32 → StandsAt file at (numbers_bytes (U32 0 ∷ U32 offset ∷ [])) → string_at big file offset ≡ Some name → symbol_name big file at ≡ Some name
long_read big file at offset name some small has text =
    let read = λ (o : ℕ) (x : Number) (is : beginning_at (U32 0 ∷ U32 offset ∷ []) o ≡ Some x). field_read file at (U32 0 ∷ U32 offset ∷ []) o x (omega arith, (small, tt)) has is in
    let first : field file at 0 4 ≡ 0 = read 0 (U32 0) refl in
    let second : field file at 4 4 ≡ offset = read 4 (U32 offset) refl in
    let more : (offset == 0) ≡ false = ne_eqb offset 0 (λ e. omega arith) in
    rw (first, second, more) text

symbol_name_read : (big : Form) (file : List ℕ) (strings : List (List ℕ)) (count at : ℕ) (s : Symbol) → SymbolWritable big strings count s → StandsAt file at (symbol_name_field strings s.name) → HasStrings big file strings → symbol_name big file at ≡ Some s.name
symbol_name_read big file strings count at s w has table = elim (cases_Bool (is_long s.name)) [
  | inl long ↦
      (let offset : ℕ = offset_of strings s.name in
      let is : symbol_name_field strings s.name ≡ numbers_bytes (U32 0 ∷ U32 offset ∷ []) = rw long refl in
      let stored = is_stored 4 strings s.name (w.stored long) in
      let place = stored.offset in
      long_read big file at offset s.name (omega arith) w.near (subst (StandsAt file at) is has) (string_read big file strings s.name table (w.stored long) w.no_zero))
  | inr short ↦
      (let is : symbol_name_field strings s.name ≡ padded s.name = rw short refl in
      inline_read big file at s.name (ltb-false 8 (length s.name) short) w.no_zero (subst (StandsAt file at) is has))
]

-- the numbers of a symbol without a section are above those of sections
numbers_apart : (big : Form) → (last_number big + 1 ≡ debug_number big) × (debug_number big + 1 ≡ absolute_number big)
numbers_apart false = (refl, refl)
numbers_apart true = (refl, refl)

record IsHere (big : Form) (count k : ℕ) : Type 0 where
  some : (k == 0) ≡ false
  within : nat_lt count k ≡ false
  low : k ≤ last_number big

is_here : (big : Form) (count k : ℕ) → is_bad_number big count (belongs.Section k) ≡ false → IsHere big count k
is_here big count k good =
    let parts = or_parts (k == 0) (nat_lt count k || nat_lt (last_number big) k) good in
    let more = or_parts (nat_lt count k) (nat_lt (last_number big) k) parts.1 in
    record { some = parts.0; within = more.0; low = ltb-false (last_number big) k more.1 }

number_read : (big : Form) (count : ℕ) (b : SymbolSection) → is_bad_number big count b ≡ false → section_of_number big (section_number big b) ≡ b
number_read big count belongs.Undefined good = refl
number_read false count belongs.Absolute good = refl
number_read true count belongs.Absolute good = refl
number_read false count belongs.Debug good = refl
number_read true count belongs.Debug good = refl
number_read big count (belongs.Section k) good =
    let h = is_here big count k good in
    let low = h.low in
    let apart = numbers_apart big in
    let not_absolute : (k == absolute_number big) ≡ false = ne_eqb k (absolute_number big) (λ e. omega (arith, e, low, apart.0, apart.1)) in
    let not_debug : (k == debug_number big) ≡ false = ne_eqb k (debug_number big) (λ e. omega (arith, e, low, apart.0)) in
    rw (h.some, not_absolute, not_debug) refl

number_accepted : (big : Form) (count : ℕ) (b : SymbolSection) → is_bad_number big count b ≡ false → (nat_lt count (section_number big b) && nat_lt (section_number big b) (debug_number big)) ≡ false
number_accepted big count belongs.Undefined good = and_left _ _ (le-ltb count 0 (omega arith))
number_accepted false count belongs.Absolute good = and_right _ _ refl
number_accepted true count belongs.Absolute good = and_right _ _ refl
number_accepted false count belongs.Debug good = and_right _ _ refl
number_accepted true count belongs.Debug good = and_right _ _ refl
number_accepted big count (belongs.Section k) good = and_left _ _ (is_here big count k good).within

number_fits : (big : Form) (count : ℕ) (b : SymbolSection) → is_bad_number big count b ≡ false → NumberFits (number_of big (section_number big b))
number_fits false count belongs.Undefined good = omega arith
number_fits true count belongs.Undefined good = omega arith
number_fits false count belongs.Absolute good = omega arith
number_fits true count belongs.Absolute good = omega arith
number_fits false count belongs.Debug good = omega arith
number_fits true count belongs.Debug good = omega arith
number_fits false count (belongs.Section k) good = let low = (is_here false count k good).low in omega (arith, low)
number_fits true count (belongs.Section k) good = let low = (is_here true count k good).low in omega (arith, low)

-- the auxiliary records are whole, and not too many
record IsWhole (big : Form) (s : Symbol) : Type 0 where
  whole : length s.aux ≡ symbol_len big * aux_records big s
  few : aux_records big s < 256

aux_whole_by : (big : Form) (s : Symbol) → length s.aux % symbol_len big ≡ 0 → length s.aux ≤ 255 * symbol_len big → IsWhole big s
aux_whole_by false s whole few = record { whole = omega (arith, whole); few = omega (arith, few) }
aux_whole_by true s whole few = record { whole = omega (arith, whole); few = omega (arith, few) }

aux_whole : (big : Form) (count : ℕ) (s : Symbol) → is_bad_symbol big count s ≡ false → IsWhole big s
aux_whole big count s good =
    let parts = or_parts (is_bad_number big count s.section) (not (length s.aux % symbol_len big == 0) || nat_lt (255 * symbol_len big) (length s.aux)) good in
    let more = or_parts (not (length s.aux % symbol_len big == 0)) (nat_lt (255 * symbol_len big) (length s.aux)) parts.1 in
    aux_whole_by big s (eqb-true (length s.aux % symbol_len big) 0 (not-false (length s.aux % symbol_len big == 0) more.0)) (ltb-false (255 * symbol_len big) (length s.aux) more.1)

pub length-fields : (big : Form) (s : Symbol) → 8 + length (symbol_fields big s) ≡ symbol_len big
unfolding number_bytes
length-fields false s = refl
length-fields true s = refl

pub length-symbol : (big : Form) (strings : List (List ℕ)) (count : ℕ) (s : Symbol) → is_bad_symbol big count s ≡ false → length (symbol_bytes big strings s) ≡ symbol_len big * (1 + aux_records big s)
length-symbol big strings count s good =
    let name = length-name_field strings s.name in
    let one : length (symbol_bytes big strings s) ≡ length (symbol_name_field strings s.name) + length (symbol_fields big s ++ s.aux) = length-append (symbol_name_field strings s.name) (symbol_fields big s ++ s.aux) in
    let two : length (symbol_fields big s ++ s.aux) ≡ length (symbol_fields big s) + length s.aux = length-append (symbol_fields big s) s.aux in
    let fields = length-fields big s in
    let whole = (aux_whole big count s good).whole in
    omega (arith, name, one, two, fields, whole)

-- the fields of a record behind its name, read back
record FieldsRead (big : Form) (file : List ℕ) (at : ℕ) (s : Symbol) : Type 0 where
  value : field file at 8 4 ≡ s.value
  number : number_in big file at ≡ section_number big s.section
  kind : field file at (kind_at big) 2 ≡ s.kind
  class : field file at (class_at big) 1 ≡ s.class
  aux : aux_of big file at ≡ aux_records big s

fields_read : (big : Form) (file : List ℕ) (at : ℕ) (s : Symbol) → AllByRecursion NumberFits (symbol_numbers big s) → StandsAt file (at + 8) (symbol_fields big s) → FieldsRead big file at s
fields_read false file at s fit has =
    let read = λ (o : ℕ) (x : Number) (is : beginning_at (symbol_numbers false s) o ≡ Some x). field_read-behind file at (symbol_numbers false s) o x fit has is in
    record { value = read 0 (U32 s.value) refl; number = read 4 (U16 (section_number false s.section)) refl; kind = read 6 (U16 s.kind) refl; class = read 8 (U8 s.class) refl; aux = read 9 (U8 (aux_records false s)) refl }
fields_read true file at s fit has =
    let read = λ (o : ℕ) (x : Number) (is : beginning_at (symbol_numbers true s) o ≡ Some x). field_read-behind file at (symbol_numbers true s) o x fit has is in
    record { value = read 0 (U32 s.value) refl; number = read 4 (U32 (section_number true s.section)) refl; kind = read 8 (U16 s.kind) refl; class = read 10 (U8 s.class) refl; aux = read 11 (U8 (aux_records true s)) refl }

-- a symbol, read back
pub record IsSymbolAt (big : Form) (file : List ℕ) (at : ℕ) (count : ℕ) (s : Symbol) : Type 0 where
  pub is : symbol_at big file at ≡ s
  pub name : is_none (symbol_name big file at) ≡ false
  pub aux : aux_of big file at ≡ aux_records big s
  pub number : (nat_lt count (number_in big file at) && nat_lt (number_in big file at) (debug_number big)) ≡ false

same_symbol : (a b : List ℕ) (c d : ℕ) (x y : SymbolSection) (e f g h : ℕ) (i j : List ℕ) → a ≡ b → c ≡ d → x ≡ y → e ≡ f → g ≡ h → i ≡ j
    → record { name = a; value = c; section = x; kind = e; class = g; aux = i } ≡ (let s : Symbol = record { name = b; value = d; section = y; kind = f; class = h; aux = j } in s)
same_symbol a b c d x y e f g h i j ab cd xy ef gh ij = cc

pub symbol_read : (big : Form) (file : List ℕ) (strings : List (List ℕ)) (count at : ℕ) (s : Symbol) → SymbolWritable big strings count s → StandsAt file at (symbol_bytes big strings s) → HasStrings big file strings → IsSymbolAt big file at count s
symbol_read big file strings count at s w has table =
    let name_field : List ℕ = symbol_name_field strings s.name in
    let tail : List ℕ = symbol_fields big s ++ s.aux in
    let len = length-name_field strings s.name in
    let name = symbol_name_read big file strings count at s w (stands-front file at name_field tail has) table in
    let behind : StandsAt file (at + 8) tail = stands-back file at (at + 8) name_field tail has (omega (arith, len)) in
    let parts = or_parts (is_bad_number big count s.section) (not (length s.aux % symbol_len big == 0) || nat_lt (255 * symbol_len big) (length s.aux)) w.good in
    let whole = aux_whole big count s w.good in
    let fits = w.fits in
    let fit : AllByRecursion NumberFits (symbol_numbers big s) = (fits.value, (number_fits big count s.section parts.0, (fits.kind, (fits.class, (whole.few, tt))))) in
    let read = fields_read big file at s fit (stands-front file (at + 8) (symbol_fields big s) s.aux behind) in
    let fields = length-fields big s in
    let aux_has : StandsAt file (at + symbol_len big) s.aux = stands-back file (at + 8) (at + symbol_len big) (symbol_fields big s) s.aux behind (omega (arith, fields)) in
    let bytes = whole.whole in
    let aux_is : symbol_len big * aux_of big file at ≡ length s.aux = ap (λ (n : ℕ). symbol_len big * n) read.aux ∙ sym bytes in
    let aux : part file (at + symbol_len big) (symbol_len big * aux_of big file at) ≡ s.aux = stands_part file (at + symbol_len big) (symbol_len big * aux_of big file at) s.aux aux_has aux_is in
    record {
      is = same_symbol _ _ _ _ _ _ _ _ _ _ _ _ (ap (λ (o : Option (List ℕ)). unwrap_or o []) name) read.value (ap (section_of_number big) read.number ∙ number_read big count s.section parts.0) read.kind read.class aux;
      name = ap (λ (o : Option (List ℕ)). is_none o) name;
      aux = read.aux;
      number = ap (λ (n : ℕ). nat_lt count n && nat_lt n (debug_number big)) read.number ∙ number_accepted big count s.section parts.0;
    }

pub symbols_read : (big : Form) (file : List ℕ) (strings : List (List ℕ)) (count k : ℕ) (ss : List Symbol) → AllByRecursion (SymbolWritable big strings count) ss → section_count big file ≡ count
    → k + records_of big ss ≡ record_count big file → StandsAt file (record_start big file k) (flat_map (symbol_bytes big strings) ss) → HasStrings big file strings → AreSymbolsFrom big file k ss
symbols_read big file strings count k [] w sections records has table = record { are = refl; accepted = refl }
symbols_read big file strings count k (s ∷ ss) w sections records has table =
    let mine = w.0 in
    let at : ℕ = record_start big file k in
    let z : ℕ = aux_records big s in
    let here : IsSymbolAt big file at count s = symbol_read big file strings count at s w.0 (stands-front file at (symbol_bytes big strings s) (flat_map (symbol_bytes big strings) ss) has) table in
    let aux : aux_count big file k ≡ z = here.aux in
    let len = length-symbol big strings count s mine.good in
    let next : StandsAt file (record_start big file (k + 1 + z)) (flat_map (symbol_bytes big strings) ss) =
    stands-back file at (record_start big file (k + 1 + z)) (symbol_bytes big strings s) (flat_map (symbol_bytes big strings) ss) has (omega (arith, len)) in
    let later = symbols_read big file strings count (k + 1 + z) ss w.1 sections (omega arith) next table in
    let starts : symbols_from big file k (records_of big (s ∷ ss)) 0 ≡ k ∷ symbols_from big file (k + 1 + z) (records_of big ss) 0 =
    ap (λ (n : ℕ). symbols_from big file k (1 + n + records_of big ss) 0) (sym aux) ∙ form_symbols-step big file k (records_of big ss)
    ∙ ap (λ (n : ℕ). k ∷ symbols_from big file (k + 1 + n) (records_of big ss) 0) aux in
    let rest : List ℕ = symbols_from big file (k + 1 + z) (records_of big ss) 0 in
    let no_70 : nat_lt (record_count big file) (k + 1 + aux_count big file k) ≡ false = le-ltb (record_count big file) (k + 1 + aux_count big file k) (omega arith) in
    let no_71 : (nat_lt (section_count big file) (number_in big file at) && nat_lt (number_in big file at) (debug_number big)) ≡ false =
    ap (λ (n : ℕ). nat_lt n (number_in big file at) && nat_lt (number_in big file at) (debug_number big)) sections ∙ here.number in
    let no_69 = here.name in
    let none : first_standing (symbol_tests big file k) ≡ None = rw (no_69, no_70, no_71) refl in
    record {
      are =
          ap (map (λ k. symbol_at big file (record_start big file k))) starts ∙ ap (λ (x : Symbol). x ∷ map (λ k. symbol_at big file (record_start big file k)) rest) here.is
          ∙ ap (λ (xs : List Symbol). s ∷ xs) later.are;
      accepted = ap (λ (ks : List ℕ). first_standing (flat_map (symbol_tests big file) ks)) starts ∙ first-past (symbol_tests big file k) (flat_map (symbol_tests big file) rest) none ∙ later.accepted;
    }
