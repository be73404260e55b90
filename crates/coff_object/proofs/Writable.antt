-- What holds for an object without a fault of the writer.
use Rattle.std.proofs.Common.{◌≡◌, ℕ, ◌+◌, ◌-◌, ◌^◌, ◌<◌, ◌≤◌, Bool, true, false, cond, List, [], ◌∷◌, ◌++◌, length, Option, Some, None, refl, sym, ap, ◌∙◌, length-append, arith, inl, inr}
use Rattle.std.specs.Prelude.{nat_lt}
use Rattle.std.specs.List.{list_any, AllByRecursion}
use Rattle.std.specs.Str.{bytes_eq}
use Rattle.std.proofs.lemmas.Bool.{cases_Bool, or_parts, or_left, or_right, ltb-false}
use Rattle.pe_view.specs.FirstStanding.{none-append}
use Rattle.pe_view.specs.Faults.{Test, first_standing}
use Rattle.pe_view.specs.declared.fault.Fault.{Fault}
use Rattle.coff_read.specs.Names.{is_long, is_long_section_name}
use Rattle.coff_read.specs.Records.{Section, Symbol, Object, Fits, SectionFits, RelocationsFit, SymbolFits}
use Rattle.coff_read.specs.Strings.{is_among, with_strings, offset_from, string_bytes}
use Rattle.coff_read.specs.FormRecords.{records_of, is_bad_symbol}
use Rattle.coff_read.specs.Forms.{Form}
use Rattle.coff_object.specs.FormWriteFaults.{is_bad_header, most_sections, is_misread, is_bad_object, write_tests}
use Rattle.coff_object.specs.FormWritten.{optional_of, characteristics_of, canon}
use Rattle.coff_object.specs.WriteFaults.{each_item, of_item, has_zero, is_far, has_many_relocations, is_bad_section}
use Rattle.coff_object.specs.Written.{long_section_names, long_symbol_names, strings_of}
use Rattle.coff_object.proofs.SectionsBack.{SectionWritable}
use Rattle.coff_object.proofs.StringTable.{in-all, in-first, equal_bytes}
use Rattle.coff_object.proofs.SymbolsBack.{SymbolWritable}

none_head : (b : Bool) (y : Fault) (rest : Option Fault) → cond b (Some y) rest ≡ None → (b ≡ false) × (rest ≡ None)
none_head true y rest none = absurd cc
none_head false y rest none = (refl, none)

pub none_each : {X : Type 0} (number : ℕ) (stands : X → Bool) (k : ℕ) (xs : List X) → first_standing (each_item number stands k xs) ≡ None → AllByRecursion (λ x. stands x ≡ false) xs
none_each number stands k [] none = tt
none_each number stands k (x ∷ xs) none =
    let parts = none_head (stands x) (of_item number k (stands x)).fault (first_standing (each_item number stands (k + 1) xs)) none in
    (parts.0, none_each number stands (k + 1) xs parts.1)

none_any : {X : Type 0} (p : X → Bool) (xs : List X) → list_any p xs ≡ false → AllByRecursion (λ x. p x ≡ false) xs
none_any p [] none = tt
none_any p (x ∷ xs) none = let parts = or_parts (p x) (list_any p xs) none in (parts.0, none_any p xs parts.1)

-- an object without a fault
pub record Accepted (big : Form) (o : Object) : Type 0 where
  pub section_names : AllByRecursion (λ (s : Section). has_zero s.name ≡ false) o.sections
  pub symbol_names : AllByRecursion (λ (s : Symbol). has_zero s.name ≡ false) o.symbols
  pub near : AllByRecursion (λ (s : Section). is_far (strings_of o) s ≡ false) o.sections
  pub few : AllByRecursion (λ (s : Section). has_many_relocations s ≡ false) o.sections
  pub small : length (canon big o) < 2 ^ 32
  pub header : is_bad_header big o ≡ false
  pub count : length o.sections ≤ most_sections big
  pub other : is_misread big o ≡ false
  pub sections : AllByRecursion (λ (s : Section). is_bad_section (records_of big o.symbols) s ≡ false) o.sections
  pub symbols : AllByRecursion (λ (s : Symbol). is_bad_symbol big (length o.sections) s ≡ false) o.symbols

pub accepted : (big : Form) (o : Object) → first_standing (write_tests big o) ≡ None → Accepted big o
unfolding write_tests
accepted big o none =
    let section_names : List Test = each_item 81 (λ (s : Section). has_zero s.name) 0 o.sections in
    let symbol_names : List Test = each_item 81 (λ (s : Symbol). has_zero s.name) (length o.sections) o.symbols in
    let far : List Test = each_item 82 (is_far (strings_of o)) 0 o.sections in
    let many : List Test = each_item 83 has_many_relocations 0 o.sections in
    let size : Test = of_item 84 0 (nat_lt (2 ^ 32 - 1) (length (canon big o))) in
    let bad : Test = of_item 85 0 (is_bad_object big o) in
    let p = none-append (section_names ++ symbol_names) ((far ++ many) ++ (size ∷ bad ∷ [])) none in
    let q = none-append (far ++ many) (size ∷ bad ∷ []) p.1 in
    let a = none-append section_names symbol_names p.0 in
    let c = none-append far many q.0 in
    let e = none_head size.stands size.fault (first_standing (bad ∷ [])) q.1 in
    let f = none_head bad.stands bad.fault None e.1 in
    let g = or_parts (is_bad_header big o) _ f.0 in
    let h = or_parts (nat_lt (most_sections big) (length o.sections)) _ g.1 in
    let i = or_parts (is_misread big o) _ h.1 in
    let j = or_parts (list_any (is_bad_section (records_of big o.symbols)) o.sections) (list_any (is_bad_symbol big (length o.sections)) o.symbols) i.1 in
    let le = ltb-false (2 ^ 32 - 1) (length (canon big o)) e.0 in
    record {
      section_names = none_each 81 (λ (s : Section). has_zero s.name) 0 o.sections a.0;
      symbol_names = none_each 81 (λ (s : Symbol). has_zero s.name) (length o.sections) o.symbols a.1;
      near = none_each 82 (is_far (strings_of o)) 0 o.sections c.0;
      few = none_each 83 has_many_relocations 0 o.sections c.1;
      small = omega arith;
      header = g.0;
      count = ltb-false (most_sections big) (length o.sections) h.0;
      other = i.0;
      sections = none_any (is_bad_section (records_of big o.symbols)) o.sections j.0;
      symbols = none_any (is_bad_symbol big (length o.sections)) o.symbols j.1;
    }

no_bytes : (bytes : List ℕ) → length bytes ≤ 0 → bytes ≡ []
no_bytes [] le = refl
no_bytes (b ∷ bytes) le = absurd (omega arith)

-- what the header stores of the optional header and of Characteristics is what the object has
pub record HeaderKept (big : Form) (o : Object) : Type 0 where
  pub optional : optional_of big o ≡ o.optional
  pub characteristics : characteristics_of big o ≡ o.characteristics
  pub few : length o.optional ≤ 65535

pub header_kept : (big : Form) (o : Object) → is_bad_header big o ≡ false → HeaderKept big o
header_kept false o good = record { optional = refl; characteristics = refl; few = ltb-false 65535 (length o.optional) good }
header_kept true o good =
    let parts = or_parts (nat_lt 0 (length o.optional)) (nat_lt 0 o.characteristics) good in
    let none = ltb-false 0 (length o.optional) parts.0 in
    let zero_is = ltb-false 0 o.characteristics parts.1 in
    let flags : 0 ≡ o.characteristics = omega (arith, zero_is) in
    record { optional = sym (no_bytes o.optional none); characteristics = flags; few = omega (arith, none) }

-- the long names of sections are among the strings
sections_stored : (strings : List (List ℕ)) (ss : List Section) → ((text : List ℕ) → is_among text (long_section_names ss) ≡ true → is_among text strings ≡ true)
    → AllByRecursion (λ (s : Section). is_long_section_name s.name ≡ true → is_among s.name strings ≡ true) ss
sections_stored strings [] all = tt
sections_stored strings (s ∷ ss) all =
    let later : List (List ℕ) = long_section_names ss in (
      (λ long. all s.name (ap (λ (b : Bool). is_among s.name (cond b (s.name ∷ later) later)) long ∙ or_left _ _ (equal_bytes s.name))),
      sections_stored strings ss (λ text is. all text (elim (cases_Bool (is_long_section_name s.name)) [
        | inl long ↦ ap (λ (b : Bool). is_among text (cond b (s.name ∷ later) later)) long ∙ or_right _ _ is
        | inr short ↦ ap (λ (b : Bool). is_among text (cond b (s.name ∷ later) later)) short ∙ is
      ])),
    )

symbols_stored : (strings : List (List ℕ)) (ss : List Symbol) → ((text : List ℕ) → is_among text (long_symbol_names ss) ≡ true → is_among text strings ≡ true)
    → AllByRecursion (λ (s : Symbol). is_long s.name ≡ true → is_among s.name strings ≡ true) ss
symbols_stored strings [] all = tt
symbols_stored strings (s ∷ ss) all =
    let later : List (List ℕ) = long_symbol_names ss in (
      (λ long. all s.name (ap (λ (b : Bool). is_among s.name (cond b (s.name ∷ later) later)) long ∙ or_left _ _ (equal_bytes s.name))),
      symbols_stored strings ss (λ text is. all text (elim (cases_Bool (is_long s.name)) [
        | inl long ↦ ap (λ (b : Bool). is_among text (cond b (s.name ∷ later) later)) long ∙ or_right _ _ is
        | inr short ↦ ap (λ (b : Bool). is_among text (cond b (s.name ∷ later) later)) short ∙ is
      ])),
    )

join_sections : (strings : List (List ℕ)) (count : ℕ) (ss : List Section) → AllByRecursion SectionFits ss → AllByRecursion RelocationsFit ss
    → AllByRecursion (λ (s : Section). is_long_section_name s.name ≡ true → is_among s.name strings ≡ true) ss
    → AllByRecursion (λ (s : Section). has_zero s.name ≡ false) ss → AllByRecursion (λ (s : Section). is_far strings s ≡ false) ss
    → AllByRecursion (λ (s : Section). has_many_relocations s ≡ false) ss → AllByRecursion (λ (s : Section). is_bad_section count s ≡ false) ss
    → AllByRecursion (SectionWritable strings count) ss
join_sections strings count [] a r b c d e f = tt
join_sections strings count (s ∷ ss) a r b c d e f =
    (record { fits = a.0; relocations = r.0; stored = b.0; no_zero = c.0; near = d.0; few = e.0; good = f.0 }, join_sections strings count ss a.1 r.1 b.1 c.1 d.1 e.1 f.1)

-- no offset passes the table's end
pub offset-le : (at : ℕ) (table : List (List ℕ)) (text : List ℕ) → offset_from at table text ≤ at + length (string_bytes table)
offset-le at [] text = omega arith
offset-le at (t ∷ table) text =
    let whole : length ((t ++ 0 ∷ []) ++ string_bytes table) ≡ length (t ++ 0 ∷ []) + length (string_bytes table) = length-append (t ++ 0 ∷ []) (string_bytes table) in
    let one : length (t ++ 0 ∷ []) ≡ length t + 1 = length-append t (0 ∷ []) in
    let later = offset-le (at + length t + 1) table text in
    elim (cases_Bool (bytes_eq text t)) [
      | inl same ↦ rw same (omega arith)
      | inr other ↦ rw other (omega arith)
    ]

join_symbols : (big : Form) (strings : List (List ℕ)) (count : ℕ) (ss : List Symbol) → 4 + length (string_bytes strings) < 2 ^ 32 → AllByRecursion SymbolFits ss
    → AllByRecursion (λ (s : Symbol). is_long s.name ≡ true → is_among s.name strings ≡ true) ss
    → AllByRecursion (λ (s : Symbol). has_zero s.name ≡ false) ss → AllByRecursion (λ (s : Symbol). is_bad_symbol big count s ≡ false) ss
    → AllByRecursion (SymbolWritable big strings count) ss
join_symbols big strings count [] small a b c d = tt
join_symbols big strings count (s ∷ ss) small a b c d =
    let le = offset-le 4 strings s.name in
    (record { fits = a.0; stored = b.0; no_zero = c.0; near = omega arith; good = d.0 }, join_symbols big strings count ss small a.1 b.1 c.1 d.1)

pub sections_writable : (big : Form) (o : Object) → Fits o → Accepted big o → AllByRecursion (SectionWritable (strings_of o) (records_of big o.symbols)) o.sections
unfolding strings_of
sections_writable big o fits a =
    join_sections (strings_of o) (records_of big o.symbols) o.sections fits.sections fits.relocations
    (sections_stored (strings_of o) o.sections (λ text is. in-first text (with_strings [] (long_section_names o.sections)) (long_symbol_names o.symbols) (in-all text [] (long_section_names o.sections) is)))
    a.section_names a.near a.few a.sections

pub symbols_writable : (big : Form) (o : Object) → Fits o → Accepted big o → 4 + length (string_bytes (strings_of o)) < 2 ^ 32 → AllByRecursion (SymbolWritable big (strings_of o) (length o.sections)) o.symbols
unfolding strings_of
symbols_writable big o fits a small =
    join_symbols big (strings_of o) (length o.sections) o.symbols small fits.symbols
    (symbols_stored (strings_of o) o.symbols (λ text is. in-all text (with_strings [] (long_section_names o.sections)) (long_symbol_names o.symbols) is))
    a.symbol_names a.symbols
