-- A written object, read back.
use Rattle.std.proofs.Common.{◌≡◌, ℕ, suc, ◌+◌, ◌*◌, ◌^◌, ◌<◌, ◌≤◌, Bool, true, false, cond, List, [], ◌∷◌, ◌++◌, length, Some, None, refl, sym, ap, subst, ◌∙◌, length-append, arith, inl, inr}
use Rattle.std.specs.Prelude.{map, nat_lt, nat_le, not, ◌==◌, ◌&&◌, ◌||◌}
use Rattle.std.specs.List.{flat_map, range_with_len, AllByRecursion}
use Rattle.std.proofs.lemmas.Bool.{cases_Bool, or_from, and_right, le-ltb, le-leb, lt-ltb, ltb-false, ne_eqb}
use Rattle.pe_view.specs.FirstStanding.{first-past}
use Rattle.pe_view.specs.Faults.{Test, first_standing}
use Rattle.pe_numbers.specs.declared.number.Number.{Number}
use Rattle.pe_numbers.specs.declared.number.Number.TheVariants.{U16, U32}
use Rattle.pe_numbers.specs.Numbers.{NumberFits, number_bytes, numbers_bytes, beginning_at}
use Rattle.pe_numbers.specs.StandsAt.{StandsAt, stands-front, stands-back, stands_part}
use Rattle.pe_view.specs.Number.{part}
use Rattle.coff_read.specs.Field.{field}
use Rattle.coff_read.specs.ObjectFaults.{is_other_file, is_cut_table}
use Rattle.coff_read.specs.Records.{Section, Symbol, Object, Fits}
use Rattle.coff_read.specs.Strings.{is_among, string_bytes}
use Rattle.coff_object.specs.Written.{strings_of, section_table, has_strings, string_table}
use Rattle.coff_object.proofs.Bytes.{field_read}
use Rattle.coff_read.specs.FormFaults.{big_class, kind_tests, size_tests, section_table_tests, header_tests, symbol_table_tests, section_tests, symbol_tests, relocation_tests, record_tests, object_tests, IsObjectOf}
use Rattle.coff_read.specs.FormReading.{symbol_pointer, record_count, strings_start, strings_size, section_in, section_start, section_starts, symbol_at, record_start, symbols_from, symbol_indexes}
use Rattle.coff_read.specs.FormRecords.{records_of}
use Rattle.coff_read.specs.Forms.{Form, header_len, machine_at, time_stamp_at, records_at, section_count, optional_size, symbol_len}
use Rattle.coff_read.specs.Forms as forms
use Rattle.coff_object.specs.FormWritten.{symbol_bytes, optional_of, characteristics_of, bodies_start, symbols_start, symbols_pointer, header_numbers, coff_header, canon}
use Rattle.coff_object.specs.FormWriteFaults.{most_sections, is_misread, write_tests}
use Rattle.coff_object.proofs.Laid.{Laid, laid, end_of_symbols}
use Rattle.coff_object.proofs.SectionsBack.{AreSectionsFrom, sections_read}
use Rattle.coff_object.proofs.SymbolsBack.{HasStrings, SymbolWritable, AreSymbolsFrom, symbols_read}
use Rattle.coff_object.proofs.Writable.{Accepted, accepted, header_kept, sections_writable, symbols_writable}

-- the header of a file
record HeaderIs (big : Form) (file : List ℕ) (o : Object) : Type 0 where
  machine : field file 0 (machine_at big) 2 ≡ o.machine
  sections : section_count big file ≡ length o.sections
  time_stamp : field file 0 (time_stamp_at big) 4 ≡ o.time_stamp
  pointer : symbol_pointer big file ≡ symbols_pointer big o
  count : field file 0 (records_at big) 4 ≡ records_of big o.symbols
  optional : optional_size big file ≡ length (optional_of big o)
  characteristics : forms.characteristics_of big file ≡ characteristics_of big o

pointer_lt : (b : Bool) (at : ℕ) → at < 2 ^ 32 → cond b at 0 < 2 ^ 32
pointer_lt true at lt = lt
pointer_lt false at lt = omega arith

-- the numbers of a header fit
header_fits : (big : Form) (o : Object) → Fits o → length o.sections ≤ most_sections big → length o.optional ≤ 65535 → symbols_start big o < 2 ^ 32 → records_of big o.symbols < 2 ^ 32 → AllByRecursion NumberFits (header_numbers big o)
header_fits false o fits sections optional start records =
    (fits.header.machine, (omega (arith, sections), (fits.header.time_stamp, (pointer_lt (has_strings o) (symbols_start false o) start, (records, (omega (arith, optional), (fits.header.characteristics, tt)))))))
header_fits true o fits sections optional start records =
    let z : 0 < 2 ^ 32 = omega arith in
    (omega arith, (omega arith, (omega arith, (fits.header.machine, (fits.header.time_stamp, (omega arith, (omega arith, (omega arith, (omega arith, (z, (z, (z, (z, (omega (arith, sections), (pointer_lt (has_strings o) (symbols_start true o) start, (records, tt))))))))))))))))

header_read : (big : Form) (file : List ℕ) (o : Object) → AllByRecursion NumberFits (header_numbers big o) → StandsAt file 0 (coff_header big o) → HeaderIs big file o
header_read false file o fit there =
    let read = λ (k : ℕ) (x : Number) (is : beginning_at (header_numbers false o) k ≡ Some x). field_read file 0 (header_numbers false o) k x fit there is in
    record {
      machine = read 0 (U16 o.machine) refl;
      sections = read 2 (U16 (length o.sections)) refl;
      time_stamp = read 4 (U32 o.time_stamp) refl;
      pointer = read 8 (U32 (symbols_pointer false o)) refl;
      count = read 12 (U32 (records_of false o.symbols)) refl;
      optional = read 16 (U16 (length o.optional)) refl;
      characteristics = read 18 (U16 o.characteristics) refl;
    }
header_read true file o fit there =
    let read = λ (k : ℕ) (x : Number) (is : beginning_at (header_numbers true o) k ≡ Some x). field_read file 0 (header_numbers true o) k x fit there is in
    record {
      machine = read 6 (U16 o.machine) refl;
      sections = read 44 (U32 (length o.sections)) refl;
      time_stamp = read 8 (U32 o.time_stamp) refl;
      pointer = read 48 (U32 (symbols_pointer true o)) refl;
      count = read 52 (U32 (records_of true o.symbols)) refl;
      optional = refl;
      characteristics = refl;
    }

header_some : (big : Form) → 0 < header_len big
header_some false = omega arith
header_some true = omega arith

no_items : {X : Type 0} (xs : List X) → length xs ≡ 0 → xs ≡ []
no_items [] e = refl
no_items (x ∷ xs) e = absurd (omega arith)

-- the symbol table and the string table of a file
record TablesAre (big : Form) (file : List ℕ) (o : Object) : Type 0 where
  records : record_count big file ≡ records_of big o.symbols
  accepted : first_standing (symbol_table_tests big file) ≡ None
  start : has_strings o ≡ true → symbol_pointer big file ≡ symbols_start big o
  strings : has_strings o ≡ true → HasStrings big file (strings_of o)
  strings_small : 4 + length (string_bytes (strings_of o)) < 2 ^ 32

tables_some : (big : Form) (file : List ℕ) (o : Object) → Laid big file o → HeaderIs big file o → length file < 2 ^ 32 → has_strings o ≡ true → TablesAre big file o
unfolding number_bytes
tables_some big file o l h small some =
    let bytes : List ℕ = string_bytes (strings_of o) in
    let q : ℕ = end_of_symbols big o in
    let table : string_table o ≡ numbers_bytes (U32 (4 + length bytes) ∷ []) ++ bytes = rw some refl in
    let table_len : length (string_table o) ≡ 4 + length bytes = ap length table ∙ length-append (numbers_bytes (U32 (4 + length bytes) ∷ [])) bytes in
    let size = l.size in
    let pointer : symbol_pointer big file ≡ symbols_start big o = h.pointer ∙ ap (λ (b : Bool). cond b (symbols_start big o) 0) some in
    let not_none : (symbol_pointer big file == 0) ≡ false = ap (λ (n : ℕ). n == 0) pointer ∙ ne_eqb (symbols_start big o) 0 (λ e. (let long = header_some big in omega (arith, long, e))) in
    let records : record_count big file ≡ records_of big o.symbols = ap (λ (b : Bool). cond b 0 (field file 0 (records_at big) 4)) not_none ∙ h.count in
    let more : symbol_len big * record_count big file ≡ symbol_len big * records_of big o.symbols = ap (λ (n : ℕ). symbol_len big * n) records in
    let start : strings_start big file ≡ q = omega arith in
    let whole : StandsAt file q (numbers_bytes (U32 (4 + length bytes) ∷ []) ++ bytes) = subst (StandsAt file q) table l.strings in
    let written : field file q 0 4 ≡ 4 + length bytes =
    field_read file q (U32 (4 + length bytes) ∷ []) 0 (U32 (4 + length bytes)) (omega arith, tt) (stands-front file q (numbers_bytes (U32 (4 + length bytes) ∷ [])) bytes whole) refl in
    let inside : nat_le (strings_start big file + 4) (length file) ≡ true = le-leb (strings_start big file + 4) (length file) (omega arith) in
    let field_is : field file (strings_start big file) 0 4 ≡ 4 + length bytes = ap (λ (n : ℕ). field file n 0 4) start ∙ written in
    let size_is : strings_size big file ≡ 4 + length bytes =
    ap (λ (b : Bool). cond b 0 (cond (nat_le (strings_start big file + 4) (length file)) (field file (strings_start big file) 0 4) 0)) not_none
    ∙ ap (λ (b : Bool). cond b (field file (strings_start big file) 0 4) 0) inside ∙ field_is in
    let no_67 : nat_lt (length file) (strings_start big file) ≡ false = le-ltb (length file) (strings_start big file) (omega arith) in
    let not_cut : nat_lt (length file) (strings_start big file + 4) ≡ false = le-ltb (length file) (strings_start big file + 4) (omega arith) in
    let not_short : nat_lt (strings_size big file) 4 ≡ false = le-ltb (strings_size big file) 4 (omega arith) in
    let not_past : nat_lt (length file) (strings_start big file + strings_size big file) ≡ false = le-ltb (length file) (strings_start big file + strings_size big file) (omega arith) in
    let cut : is_cut_table (length file) (strings_start big file) (strings_size big file) ≡ false = and_right _ _ (or_from _ _ not_cut (or_from _ _ (and_right _ _ not_short) not_past)) in
    let first : (not (symbol_pointer big file == 0) && nat_lt (length file) (strings_start big file)) ≡ false = and_right _ _ no_67 in
    let second : (not (symbol_pointer big file == 0) && is_cut_table (length file) (strings_start big file) (strings_size big file)) ≡ false = and_right _ _ cut in
    let behind : StandsAt file (strings_start big file + 4) bytes = stands-back file q (strings_start big file + 4) (numbers_bytes (U32 (4 + length bytes) ∷ [])) bytes whole (omega arith) in
    record {
      records = records;
      accepted = rw (first, second) refl;
      start = λ e. pointer;
      strings = λ e. record { size = size_is; bytes = behind };
      strings_small = omega arith;
    }

tables_none : (big : Form) (file : List ℕ) (o : Object) → HeaderIs big file o → has_strings o ≡ false → TablesAre big file o
tables_none big file o h none =
    let le = ltb-false 0 (length o.symbols + length (strings_of o)) none in
    let symbols : o.symbols ≡ [] = no_items o.symbols (omega arith) in
    let strings : strings_of o ≡ [] = no_items (strings_of o) (omega arith) in
    let pointer : symbol_pointer big file ≡ 0 = h.pointer ∙ ap (λ (b : Bool). cond b (symbols_start big o) 0) none in
    let is_none : (symbol_pointer big file == 0) ≡ true = ap (λ (n : ℕ). n == 0) pointer in
    let first : (not (symbol_pointer big file == 0) && nat_lt (length file) (strings_start big file)) ≡ false = ap (λ (b : Bool). not b && nat_lt (length file) (strings_start big file)) is_none in
    let second : (not (symbol_pointer big file == 0) && is_cut_table (length file) (strings_start big file) (strings_size big file)) ≡ false =
    ap (λ (b : Bool). not b && is_cut_table (length file) (strings_start big file) (strings_size big file)) is_none in
    let few : length (string_bytes (strings_of o)) ≡ 0 = ap (λ (ts : List (List ℕ)). length (string_bytes ts)) strings in
    record {
      records = ap (λ (b : Bool). cond b 0 (field file 0 (records_at big) 4)) is_none ∙ sym (ap (records_of big) symbols);
      accepted = rw (first, second) refl;
      start = λ e. absurd (let f : true ≡ false = sym e ∙ none in cc);
      strings = λ e. absurd (let f : true ≡ false = sym e ∙ none in cc);
      strings_small = omega arith;
    }

tables_read : (big : Form) (file : List ℕ) (o : Object) → Laid big file o → HeaderIs big file o → length file < 2 ^ 32 → TablesAre big file o
tables_read big file o l h small = elim (cases_Bool (has_strings o)) [
  | inl some ↦ tables_some big file o l h small some
  | inr none ↦ tables_none big file o h none
]

any_strings : (o : Object) (text : List ℕ) → is_among text (strings_of o) ≡ true → has_strings o ≡ true
any_strings o text is =
    let some : 0 < length (strings_of o) = some_in text (strings_of o) is in
    lt-ltb 0 (length o.symbols + length (strings_of o)) (omega arith)
  where
    some_in : (text : List ℕ) (table : List (List ℕ)) → is_among text table ≡ true → 0 < length table
    some_in text [] is = absurd cc
    some_in text (t ∷ table) is = omega arith

-- all symbols, where there are any
symbols_all : (big : Form) (file : List ℕ) (o : Object) (ss : List Symbol) → o.symbols ≡ ss → AllByRecursion (SymbolWritable big (strings_of o) (length o.sections)) o.symbols → Laid big file o → HeaderIs big file o → TablesAre big file o
    → AreSymbolsFrom big file 0 o.symbols
symbols_all big file o [] e w l h t = subst (AreSymbolsFrom big file 0) (sym e) (record { are = refl; accepted = refl })
symbols_all big file o (s ∷ ss) e w l h t =
    let some : has_strings o ≡ true = lt-ltb 0 (length o.symbols + length (strings_of o)) (let n : length o.symbols ≡ suc (length ss) = ap length e in omega arith) in
    let start = t.start some in
    let at : symbols_start big o ≡ record_start big file 0 = omega arith in
    let records = t.records in
    symbols_read big file (strings_of o) (length o.sections) 0 o.symbols w h.sections (omega arith) (subst (λ (n : ℕ). StandsAt file n (flat_map (symbol_bytes big (strings_of o)) o.symbols)) at l.symbols) (t.strings some)

-- the class id of a written big object
class_read : (file : List ℕ) (o : Object) → StandsAt file 0 (coff_header true o) → part file 12 16 ≡ big_class
unfolding number_bytes
class_read file o there =
    let front : List ℕ = numbers_bytes (U16 0 ∷ U16 0xffff ∷ U16 2 ∷ U16 o.machine ∷ U32 o.time_stamp ∷ []) in
    let rest : List ℕ = numbers_bytes (U32 0 ∷ U32 0 ∷ U32 0 ∷ U32 0 ∷ U32 (length o.sections) ∷ U32 (symbols_pointer true o) ∷ U32 (records_of true o.symbols) ∷ []) in
    let all : StandsAt file 0 (front ++ (big_class ++ rest)) = there in
    stands_part file 12 16 big_class (stands-front file 12 big_class rest (stands-back file 0 12 front (big_class ++ rest) all refl)) refl

-- a written object begins as one of its form
kind_read : (big : Form) (file : List ℕ) (o : Object) → AllByRecursion NumberFits (header_numbers big o) → StandsAt file 0 (coff_header big o) → file ≡ canon big o → is_misread big o ≡ false → first_standing (kind_tests big file) ≡ None
kind_read false file o fit there is other = let plain : is_other_file file ≡ false = ap is_other_file is ∙ other in rw plain refl
kind_read true file o fit there is other =
    let read = λ (k : ℕ) (x : Number) (is : beginning_at (header_numbers true o) k ≡ Some x). field_read file 0 (header_numbers true o) k x fit there is in
    let first : field file 0 0 2 ≡ 0 = read 0 (U16 0) refl in
    let second : field file 0 2 2 ≡ 0xffff = read 2 (U16 0xffff) refl in
    let version : field file 0 4 2 ≡ 2 = read 4 (U16 2) refl in
    rw (first, second, version, class_read file o there) refl

same_object : (a b c d e f : ℕ) (g h : List ℕ) (ss ts : List Section) (us vs : List Symbol) → a ≡ b → c ≡ d → e ≡ f → g ≡ h → ss ≡ ts → us ≡ vs
    → record { machine = a; time_stamp = c; characteristics = e; optional = g; sections = ss; symbols = us }
    ≡ (let o : Object = record { machine = b; time_stamp = d; characteristics = f; optional = h; sections = ts; symbols = vs } in o)
same_object a b c d e f g h ss ts us vs ab cd ef gh st uv = cc

laid_read : (big : Form) (file : List ℕ) (o : Object) → Laid big file o → Fits o → Accepted big o → length file < 2 ^ 32 → file ≡ canon big o → records_of big o.symbols < 2 ^ 32 → IsObjectOf big file o
unfolding object_tests record_tests
laid_read big file o l fits a small is few =
    let size = l.size in
    let within : symbols_start big o < 2 ^ 32 = omega (arith, size, small) in
    let kept = header_kept big o a.header in
    let fit = header_fits big o fits a.count kept.few within few in
    let h : HeaderIs big file o = header_read big file o fit l.header in
    let kind = kind_read big file o fit l.header is a.other in
    let t : TablesAre big file o = tables_read big file o l h small in
    let strings : List (List ℕ) = strings_of o in
    let count : ℕ = records_of big o.symbols in
    let base : ℕ = header_len big + optional_size big file in
    let optional = h.optional in
    let sections_count = h.sections in
    let table_at : header_len big + length (optional_of big o) ≡ base + 40 * 0 = omega (arith, optional) in
    let headers_are : List ℕ = section_table strings (bodies_start big o) o.sections in
    let table : StandsAt file (base + 40 * 0) headers_are = subst (λ (n : ℕ). StandsAt file n headers_are) table_at l.table in
    let some : 0 < bodies_start big o = (let long = header_some big in omega (arith, long)) in
    let ss : AreSectionsFrom big file base 0 o.sections =
    sections_read big file strings count base 0 (bodies_start big o) o.sections (sections_writable big o fits a) t.records some table l.bodies (omega (arith, within)) (λ s is. t.strings (any_strings o s.name is)) in
    let us : AreSymbolsFrom big file 0 o.symbols = symbols_all big file o o.symbols refl (symbols_writable big o fits a t.strings_small) l h t in
    let starts : section_starts big file ≡ map (λ k. base + 40 * k) (range_with_len 0 (length o.sections)) = ap (λ (n : ℕ). map (section_start big file) (range_with_len 0 n)) h.sections in
    let indexes : symbol_indexes big file ≡ symbols_from big file 0 count 0 = ap (λ (n : ℕ). symbols_from big file 0 n 0) t.records in
    let long : nat_lt (length file) (header_len big) ≡ false = le-ltb (length file) (header_len big) (omega (arith, size)) in
    let short : nat_lt (2 ^ 32) (length file) ≡ false = le-ltb (2 ^ 32) (length file) (omega (arith, small)) in
    let inside : nat_lt (length file) (section_start big file (section_count big file)) ≡ false = le-ltb (length file) (section_start big file (section_count big file)) (omega (arith, size, optional, sections_count)) in
    let no_61 : (nat_lt (length file) (header_len big) || nat_lt (2 ^ 32) (length file)) ≡ false = or_from _ _ long short in
    let sized : first_standing (size_tests big file) ≡ None = rw no_61 refl in
    let table_fits : first_standing (section_table_tests big file) ≡ None = rw inside refl in
    let headers : first_standing (header_tests big file) ≡ None =
    first-past (size_tests big file) (kind_tests big file ++ section_table_tests big file) sized ∙ first-past (kind_tests big file) (section_table_tests big file) kind ∙ table_fits in
    let sections_none : first_standing (flat_map (section_tests big file) (section_starts big file)) ≡ None = ap (λ (hs : List ℕ). first_standing (flat_map (section_tests big file) hs)) starts ∙ ss.accepted in
    let relocations_none : first_standing (flat_map (relocation_tests big file) (section_starts big file)) ≡ None = ap (λ (hs : List ℕ). first_standing (flat_map (relocation_tests big file) hs)) starts ∙ ss.relocations in
    let symbols_none : first_standing (flat_map (symbol_tests big file) (symbol_indexes big file)) ≡ None = ap (λ (ks : List ℕ). first_standing (flat_map (symbol_tests big file) ks)) indexes ∙ us.accepted in
    let r4 : List Test = flat_map (relocation_tests big file) (section_starts big file) in
    let r3 : List Test = flat_map (symbol_tests big file) (symbol_indexes big file) ++ r4 in
    let r2 : List Test = flat_map (section_tests big file) (section_starts big file) ++ r3 in
    let r1 : List Test = symbol_table_tests big file ++ r2 in
    record {
      accepted =
          first-past (header_tests big file) r1 headers ∙ first-past (symbol_table_tests big file) r2 t.accepted ∙ first-past (flat_map (section_tests big file) (section_starts big file)) r3 sections_none
          ∙ first-past (flat_map (symbol_tests big file) (symbol_indexes big file)) r4 symbols_none ∙ relocations_none;
      holds = same_object _ _ _ _ _ _ _ _ _ _ _ _ h.machine h.time_stamp (h.characteristics ∙ kept.characteristics)
          (stands_part file (header_len big) (optional_size big file) (optional_of big o) l.optional h.optional ∙ kept.optional)
          (ap (map (section_in big file)) starts ∙ ss.are)
          (ap (map (λ k. symbol_at big file (record_start big file k))) indexes ∙ us.are);
    }

-- there are no more records than bytes
few_records : (big : Form) (n : ℕ) → n ≤ symbol_len big * n
few_records false n = omega arith
few_records true n = omega arith

-- what was written is read back
pub read_back : (big : Form) (o : Object) → Fits o → first_standing (write_tests big o) ≡ None → IsObjectOf big (canon big o) o
read_back big o fits none =
    let a : Accepted big o = accepted big o none in
    let l = laid big o a.near a.symbols in
    let size = l.size in
    let small = a.small in
    let few = few_records big (records_of big o.symbols) in
    laid_read big (canon big o) o l fits a a.small refl (omega (arith, size, small, few))
