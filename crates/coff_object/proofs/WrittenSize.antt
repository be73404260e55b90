-- The size of a written object, and its first bytes.
use Rattle.std.proofs.Common.{◌≡◌, ℕ, ◌+◌, ◌*◌, ◌/◌, ◌^◌, ◌<◌, ◌≤◌, Bool, true, false, List, [], ◌∷◌, ◌++◌, length, Some, refl, ap, ◌∙◌, length-append, arith}
use Rattle.std.specs.Prelude.{nat_lt, ◌||◌}
use Rattle.std.specs.List.{flat_map, list_any, AllByRecursion}
use Rattle.std.proofs.lemmas.Bool.{le-ltb}
use Rattle.pe_numbers.specs.declared.number.Number.{Number}
use Rattle.pe_numbers.specs.declared.number.Number.TheVariants.{U16, U32}
use Rattle.pe_numbers.specs.Numbers.{number_bytes, numbers_bytes, beginning_at}
use Rattle.pe_numbers.specs.StandsAt.{StandsAt}
use Rattle.coff_read.specs.Field.{field}
use Rattle.coff_read.specs.ObjectFaults.{is_other_header}
use Rattle.coff_read.specs.Records.{Section, Symbol, Object}
use Rattle.coff_read.specs.FormRecords.{records_of, is_bad_symbol}
use Rattle.coff_read.specs.Forms.{Form, header_len, symbol_len}
use Rattle.coff_object.specs.FormWriteFaults.{is_bad_header, most_sections, is_misread, is_bad_object}
use Rattle.coff_object.specs.FormWritten.{optional_of, bodies_start, symbol_fields, symbol_bytes, coff_header, canon}
use Rattle.coff_object.specs.Sizes.{symbols_size}
use Rattle.coff_object.specs.StringTableView.{counted}
use Rattle.coff_read.specs.Strings.{string_bytes}
use Rattle.coff_object.specs.WriteFaults.{is_far, is_bad_section}
use Rattle.coff_object.specs.Written.{strings_of, section_body, section_table, symbol_name_field, has_strings, string_table}
use Rattle.coff_object.proofs.Bytes.{field_read}
use Rattle.coff_object.proofs.SectionsBack.{length-table}
use Rattle.coff_object.proofs.Laid.{length-coff}
use Rattle.coff_object.proofs.SymbolsBack.{length-name_field, length-fields}

length-symbol : (big : Form) (strings : List (List ℕ)) (s : Symbol) → length (symbol_bytes big strings s) ≡ symbol_len big + length s.aux
length-symbol big strings s =
    let name = length-name_field strings s.name in
    let one : length (symbol_bytes big strings s) ≡ length (symbol_name_field strings s.name) + length (symbol_fields big s ++ s.aux) = length-append (symbol_name_field strings s.name) (symbol_fields big s ++ s.aux) in
    let two : length (symbol_fields big s ++ s.aux) ≡ length (symbol_fields big s) + length s.aux = length-append (symbol_fields big s) s.aux in
    let fields = length-fields big s in
    omega (arith, name, one, two, fields)

length-symbols : (big : Form) (strings : List (List ℕ)) (ss : List Symbol) → length (flat_map (symbol_bytes big strings) ss) ≡ symbols_size big ss
length-symbols big strings [] = refl
length-symbols big strings (s ∷ ss) =
    let both : length (symbol_bytes big strings s ++ flat_map (symbol_bytes big strings) ss) ≡ length (symbol_bytes big strings s) + length (flat_map (symbol_bytes big strings) ss) = length-append (symbol_bytes big strings s) (flat_map (symbol_bytes big strings) ss) in
    let here = length-symbol big strings s in
    let later = length-symbols big strings ss in
    omega (arith, both, here, later)

pub table_len : (o : Object) → has_strings o ≡ true → length (string_table o) ≡ 4 + length (string_bytes (strings_of o))
unfolding number_bytes
table_len o some =
    let bytes : List ℕ = string_bytes (strings_of o) in
    let table : string_table o ≡ numbers_bytes (U32 (4 + length bytes) ∷ []) ++ bytes = rw some refl in
    ap length table ∙ length-append (numbers_bytes (U32 (4 + length bytes) ∷ [])) bytes

-- the parts' sizes, where the section table's is `table`
sum_of : (big : Form) (o : Object) (table : ℕ) → length (section_table (strings_of o) (bodies_start big o) o.sections) ≡ table
    → length (canon big o) ≡ header_len big + length (optional_of big o) + table + length (flat_map section_body o.sections) + symbols_size big o.symbols + length (string_table o)
unfolding canon
sum_of big o table is =
    let strings : List (List ℕ) = strings_of o in
    let headers : List ℕ = section_table strings (bodies_start big o) o.sections in
    let bodies : List ℕ = flat_map section_body o.sections in
    let symbols : List ℕ = flat_map (symbol_bytes big strings) o.symbols in
    let a4 : List ℕ = symbols ++ string_table o in
    let a3 : List ℕ = bodies ++ a4 in
    let a2 : List ℕ = headers ++ a3 in
    let a1 : List ℕ = optional_of big o ++ a2 in
    let symbols_len = length-symbols big strings o.symbols in
    let l0 : length (coff_header big o ++ a1) ≡ header_len big + length a1 = length-append (coff_header big o) a1 ∙ ap (λ (n : ℕ). n + length a1) (length-coff big o) in
    let l1 : length a1 ≡ length (optional_of big o) + length a2 = length-append (optional_of big o) a2 in
    let l2 : length a2 ≡ length headers + length a3 = length-append headers a3 in
    let l3 : length a3 ≡ length bodies + length a4 = length-append bodies a4 in
    let l4 : length a4 ≡ length symbols + length (string_table o) = length-append symbols (string_table o) in
    omega (arith, symbols_len, l0, l1, l2, l3, l4, is)

pub canon_size : (big : Form) (o : Object) → AllByRecursion (λ (s : Section). is_far (strings_of o) s ≡ false) o.sections
    → length (canon big o) ≡ header_len big + length (optional_of big o) + 40 * length o.sections + length (flat_map section_body o.sections) + symbols_size big o.symbols + length (string_table o)
canon_size big o near = sum_of big o (40 * length o.sections) (length-table (strings_of o) (bodies_start big o) o.sections near)

-- a record and its auxiliary ones are no more than their bytes
record-le : (big : Form) (n : ℕ) → 1 + n / symbol_len big ≤ symbol_len big + n
record-le false n = omega arith
record-le true n = omega arith

pub records-le : (big : Form) (ss : List Symbol) → records_of big ss ≤ symbols_size big ss
records-le big [] = omega arith
records-le big (s ∷ ss) = let here = record-le big (length s.aux) in let later = records-le big ss in omega (arith, here, later)

pub few_records : (big : Form) (o : Object) → length (canon big o) < 2 ^ 32 → counted (records_of big o.symbols) ≡ records_of big o.symbols
few_records big o small =
    let sum = sum_of big o (length (section_table (strings_of o) (bodies_start big o) o.sections)) refl in
    let le = records-le big o.symbols in
    omega (arith, sum, le, small)

-- how a plain object begins
pub other_is : (o : Object) → o.machine < 2 ^ 16 → o.time_stamp < 2 ^ 32 → length o.sections < 2 ^ 16 → is_misread false o ≡ is_other_header o.machine (length o.sections) o.time_stamp
unfolding canon number_bytes
other_is o machine time_stamp few =
    let first : List Number = U16 o.machine ∷ U16 (length o.sections) ∷ U32 o.time_stamp ∷ [] in
    let there : StandsAt (canon false o) 0 (numbers_bytes first) = refl in
    let read = λ (k : ℕ) (x : Number) (is : beginning_at first k ≡ Some x). field_read (canon false o) 0 first k x (machine, (few, (time_stamp, tt))) there is in
    ap (λ (n : ℕ). is_other_header n (field (canon false o) 0 2 2) (field (canon false o) 0 4 4)) (read 0 (U16 o.machine) refl)
    ∙ ap (λ (n : ℕ). is_other_header o.machine n (field (canon false o) 0 4 4)) (read 2 (U16 (length o.sections)) refl)
    ∙ ap (is_other_header o.machine (length o.sections)) (read 4 (U32 o.time_stamp) refl)

-- what is left to test, once the header and the count of sections fit
pub bad_object : (big : Form) (o : Object) → is_bad_header big o ≡ false → length o.sections ≤ most_sections big
    → is_bad_object big o ≡ (is_misread big o || (list_any (is_bad_section (records_of big o.symbols)) o.sections || list_any (is_bad_symbol big (length o.sections)) o.symbols))
bad_object big o header few =
    let b : nat_lt (most_sections big) (length o.sections) ≡ false = le-ltb (most_sections big) (length o.sections) few in
    ap (λ (x : Bool). x || (nat_lt (most_sections big) (length o.sections) || (is_misread big o || (list_any (is_bad_section (records_of big o.symbols)) o.sections || list_any (is_bad_symbol big (length o.sections)) o.symbols)))) header
    ∙ ap (λ (x : Bool). x || (is_misread big o || (list_any (is_bad_section (records_of big o.symbols)) o.sections || list_any (is_bad_symbol big (length o.sections)) o.symbols))) b
