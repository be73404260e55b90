-- An object without a fault has a written form.
use Rattle.std.proofs.Common.{◌≡◌, ℕ, ◌+◌, ◌*◌, ◌/◌, ◌%◌, ◌^◌, ◌<◌, ◌≤◌, true, false, List, [], ◌∷◌, ◌++◌, length, None, refl, ap, ◌∙◌, arith, append_assoc, inl, inr}
use Rattle.std.specs.Prelude.{not, nat_lt, ◌==◌, ◌||◌}
use Rattle.std.specs.List.{flat_map, AllByRecursion}
use Rattle.std.proofs.lemmas.Bool.{cases_Bool, or_parts, ltb-false}
use Rattle.pe_view.specs.Faults.{first_standing}
use Rattle.coff_read.specs.Records.{Symbol, Object}
use Rattle.coff_read.specs.Strings.{string_bytes}
use Rattle.coff_read.specs.FormRecords.{section_number, aux_records, last_number, is_bad_number, is_bad_aux, is_bad_symbol}
use Rattle.coff_read.specs.Forms.{Form, symbol_len, absolute_number, debug_number}
use Rattle.coff_read.specs.declared.symbol.SymbolSection.{SymbolSection}
use Rattle.coff_read.specs.declared.symbol.SymbolSection.TheVariants as belongs
use Rattle.coff_object.specs.FormWriteFaults.{write_tests}
use Rattle.coff_object.specs.FormWritten.{number_limit, optional_of, bodies_start, symbol_bytes, coff_header, canon}
use Rattle.coff_object.specs.Writable.{IsWritable}
use Rattle.coff_object.specs.Written.{strings_of, section_body, section_table, has_strings, string_table}
use Rattle.coff_object.proofs.Writable.{Accepted, accepted, header_kept}
use Rattle.coff_object.proofs.WrittenSize.{canon_size, table_len, records-le}

few_by : (big : Form) (n : ℕ) → n ≤ 255 * symbol_len big → n / symbol_len big < 2 ^ 8
few_by false n le = omega (arith, le)
few_by true n le = omega (arith, le)

few_aux : (big : Form) (count : ℕ) (ss : List Symbol) → AllByRecursion (λ (s : Symbol). is_bad_symbol big count s ≡ false) ss → AllByRecursion (λ (s : Symbol). aux_records big s < 2 ^ 8) ss
few_aux big count [] good = tt
few_aux big count (s ∷ ss) good =
    let parts = or_parts (is_bad_number big count s.section) (is_bad_aux big (length s.aux)) good.0 in
    let more = or_parts (not (length s.aux % symbol_len big == 0)) (nat_lt (255 * symbol_len big) (length s.aux)) parts.1 in
    (few_by big (length s.aux) (ltb-false (255 * symbol_len big) (length s.aux) more.1), few_aux big count ss good.1)

-- the numbers of a form are in its width
record InWidth (big : Form) : Type 0 where
  none : 0 < number_limit big
  last : last_number big < number_limit big
  absolute : absolute_number big < number_limit big
  debug : debug_number big < number_limit big

in_width : (big : Form) → InWidth big
in_width false = record { none = omega arith; last = omega arith; absolute = omega arith; debug = omega arith }
in_width true = record { none = omega arith; last = omega arith; absolute = omega arith; debug = omega arith }

number_fits : (big : Form) (count : ℕ) (section : SymbolSection) → is_bad_number big count section ≡ false → section_number big section < number_limit big
number_fits big count belongs.Undefined good = (in_width big).none
number_fits big count belongs.Absolute good = (in_width big).absolute
number_fits big count belongs.Debug good = (in_width big).debug
number_fits big count (belongs.Section k) good =
    let some = or_parts (k == 0) (nat_lt count k || nat_lt (last_number big) k) good in
    let more = or_parts (nat_lt count k) (nat_lt (last_number big) k) some.1 in
    let low = ltb-false (last_number big) k more.1 in
    let last = (in_width big).last in
    omega (arith, low, last)

numbers_fit : (big : Form) (count : ℕ) (ss : List Symbol) → AllByRecursion (λ (s : Symbol). is_bad_symbol big count s ≡ false) ss → AllByRecursion (λ (s : Symbol). section_number big s.section < number_limit big) ss
numbers_fit big count [] good = tt
numbers_fit big count (s ∷ ss) good =
    let parts = or_parts (is_bad_number big count s.section) (is_bad_aux big (length s.aux)) good.0 in
    (number_fits big count s.section parts.0, numbers_fit big count ss good.1)

no_strings : (ts : List (List ℕ)) → length ts ≡ 0 → length (string_bytes ts) ≡ 0
no_strings [] e = refl
no_strings (t ∷ ts) e = absurd (omega arith)

pub writable : (big : Form) (o : Object) → first_standing (write_tests big o) ≡ None → IsWritable big o
writable big o none =
    let a : Accepted big o = accepted big o none in
    let kept = header_kept big o a.header in
    let size = canon_size big o a.near in
    let small = a.small in
    let optional = kept.few in
    let le = records-le big o.symbols in
    let strings : 4 + length (string_bytes (strings_of o)) < 2 ^ 32 = elim (cases_Bool (has_strings o)) [
      | inl some ↦ (let len = table_len o some in omega arith)
      | inr nothing ↦
          (let zero_is = ltb-false 0 (length o.symbols + length (strings_of o)) nothing in
          let empty = no_strings (strings_of o) (omega arith) in
          omega arith)
    ] in
    record {
      near = a.near;
      few = a.few;
      aux = few_aux big (length o.sections) o.symbols a.symbols;
      numbers = numbers_fit big (length o.sections) o.symbols a.symbols;
      optional = omega (arith, optional);
      count = a.count;
      records = omega arith;
      bodies = omega arith;
      strings = strings;
    }

six_parts : (a b c d e f : List ℕ) → a ++ b ++ c ++ d ++ e ++ f ≡ a ++ (b ++ (c ++ (d ++ (e ++ f))))
six_parts a b c d e f =
    append_assoc (a ++ b ++ c ++ d) e f
    ∙ append_assoc (a ++ b ++ c) d (e ++ f)
    ∙ append_assoc (a ++ b) c (d ++ (e ++ f))
    ∙ append_assoc a b (c ++ (d ++ (e ++ f)))

-- the parts, in order
pub parts_are : (big : Form) (o : Object) (strings : List (List ℕ)) (start head all : List ℕ) → strings ≡ strings_of o → start ≡ []
    → head ≡ start ++ coff_header big o ++ optional_of big o ++ section_table strings (bodies_start big o) o.sections
    → all ≡ head ++ flat_map section_body o.sections ++ flat_map (symbol_bytes big strings) o.symbols ++ string_table o → all ≡ canon big o
unfolding canon
parts_are big o strings start head all is none front whole =
    let table : List ℕ = section_table strings (bodies_start big o) o.sections in
    let bodies : List ℕ = flat_map section_body o.sections in
    let symbols : List ℕ = flat_map (symbol_bytes big strings) o.symbols in
    whole
    ∙ ap (λ (bs : List ℕ). bs ++ bodies ++ symbols ++ string_table o) (front ∙ ap (λ (bs : List ℕ). bs ++ coff_header big o ++ optional_of big o ++ table) none)
    ∙ six_parts (coff_header big o) (optional_of big o) table bodies symbols (string_table o)
    ∙ ap (λ (ts : List (List ℕ)). coff_header big o ++ (optional_of big o ++ (section_table ts (bodies_start big o) o.sections ++ (bodies ++ (flat_map (symbol_bytes big ts) o.symbols ++ string_table o))))) is
