-- Written sections, read back.
use Rattle.std.proofs.Common.{◌≡◌, ℕ, ◌+◌, ◌-◌, ◌*◌, ◌^◌, ◌<◌, ◌≤◌, true, false, List, [], ◌∷◌, ◌++◌, length, Option, Some, None, refl, sym, ap, subst, ◌∙◌, length-append, arith, inl, inr}
use Rattle.std.specs.Prelude.{map, nat_le, nat_lt, not, ◌==◌, ◌&&◌, bit_and, is_none}
use Rattle.std.specs.List.{flat_map, range_with_len, list_any, AllByRecursion}
use Rattle.std.specs.Option.{unwrap_or}
use Rattle.std.proofs.lemmas.Bool.{cases_Bool, or_parts, and_right, le-ltb, ltb-false, ne_eqb}
use Rattle.pe_view.specs.Faults.{first_standing}
use Rattle.pe_view.specs.Number.{part}
use Rattle.pe_view.specs.FirstStanding.{first-past}
use Rattle.pe_numbers.specs.declared.number.Number.{Number}
use Rattle.pe_numbers.specs.declared.number.Number.TheVariants.{U16, U32}
use Rattle.pe_numbers.specs.Numbers.{NumberFits, number_bytes, beginning_at}
use Rattle.pe_numbers.specs.StandsAt.{StandsAt, stands-front, stands-back, stands_part, stands_inside}
use Rattle.coff_read.specs.Field.{field}
use Rattle.coff_read.specs.Names.{name_offset, decimal_digits, padded, is_long, begins_with_slash, is_long_section_name}
use Rattle.coff_read.specs.Reading.{relocation_at, relocation_start, raw_at, is_absent}
use Rattle.coff_read.specs.Records.{Raw, Bytes, Absent, RawFits, Section, SectionFits, RelocationsFit, RelocationFits}
use Rattle.coff_read.specs.Strings.{is_among, offset_of}
use Rattle.coff_object.specs.WriteFaults.{has_zero, is_far, has_many_relocations, is_bad_raw, is_bad_section}
use Rattle.coff_object.specs.Written.{raw_bytes, raw_size, pointer_to, section_body, section_name_field, section_numbers, section_fields, section_header, section_table, relocation_bytes}
use Rattle.coff_read.specs.declared.relocation.Relocation.{Relocation}
use Rattle.coff_object.proofs.Bytes.{field_read-behind}
use Rattle.coff_object.proofs.NameFields.{up_to_zero-filled, length-padded, inline_offset, length-decimal, long_offset}
use Rattle.coff_object.proofs.RelocationsBack.{relocation_read, relocations_read}
use Rattle.coff_object.proofs.StringTable.{is_stored}
use Rattle.coff_read.specs.FormFaults.{section_tests, relocation_tests, relocation_test}
use Rattle.coff_read.specs.FormReading.{section_in, section_name, section_text, record_count}
use Rattle.coff_read.specs.Forms.{Form}
use Rattle.coff_object.proofs.SymbolsBack.{HasStrings, string_read}

-- what a section must be to be written and read back, if the symbol table has `count` records
pub record SectionWritable (strings : List (List ℕ)) (count : ℕ) (s : Section) : Type 0 where
  pub fits : SectionFits s
  pub relocations : RelocationsFit s
  pub stored : is_long_section_name s.name ≡ true → is_among s.name strings ≡ true
  pub no_zero : has_zero s.name ≡ false
  pub near : is_far strings s ≡ false
  pub few : has_many_relocations s ≡ false
  pub good : is_bad_section count s ≡ false

short_name : (name : List ℕ) → is_long_section_name name ≡ false → (length name ≤ 8) × (begins_with_slash name ≡ false)
short_name name short =
    let parts = or_parts (is_long name) (begins_with_slash name) short in
    (ltb-false 8 (length name) parts.0, parts.1)

-- an offset of seven digits
near_offset : (strings : List (List ℕ)) (s : Section) → is_long_section_name s.name ≡ true → is_far strings s ≡ false → offset_of strings s.name < 10 ^ 7
near_offset strings s long near =
    let far : nat_lt 9999999 (offset_of strings s.name) ≡ false = rw long at near in
    let le = ltb-false 9999999 (offset_of strings s.name) far in
    omega arith

pub length-name_field : (strings : List (List ℕ)) (s : Section) → is_far strings s ≡ false → length (section_name_field strings s.name) ≡ 8
length-name_field strings s near = elim (cases_Bool (is_long_section_name s.name)) [
  | inl long ↦
      (let digits = length-decimal (offset_of strings s.name) (near_offset strings s long near) in
      rw long (length-padded (47 ∷ decimal_digits (offset_of strings s.name)) (omega arith)))
  | inr short ↦ rw short (length-padded s.name (short_name s.name short).0)
]

section_name_in : (big : Form) (file : List ℕ) (h : ℕ) (field : List ℕ) (name : Option (List ℕ)) → part file h 8 ≡ field → section_text big file field (name_offset field) ≡ name → section_name big file h ≡ name
section_name_in big file h field name part_is is = ap (λ (bs : List ℕ). section_text big file bs (name_offset bs)) part_is ∙ is

pub section_name_read : (big : Form) (file : List ℕ) (strings : List (List ℕ)) (count h : ℕ) (s : Section) → SectionWritable strings count s → StandsAt file h (section_name_field strings s.name)
    → (is_long_section_name s.name ≡ true → HasStrings big file strings) → section_name big file h ≡ Some s.name
section_name_read big file strings count h s w has table = elim (cases_Bool (is_long_section_name s.name)) [
  | inl long ↦
      (let offset : ℕ = offset_of strings s.name in
      let is : section_name_field strings s.name ≡ padded (47 ∷ decimal_digits offset) = rw long refl in
      let stored = is_stored 4 strings s.name (w.stored long) in
      let at = stored.offset in
      let field : part file h 8 ≡ padded (47 ∷ decimal_digits offset) = stands_part file h 8 (section_name_field strings s.name) has (sym (length-name_field strings s w.near)) ∙ is in
      section_name_in big file h (padded (47 ∷ decimal_digits offset)) (Some s.name) field
      (ap (section_text big file (padded (47 ∷ decimal_digits offset))) (long_offset offset (omega arith)) ∙ string_read big file strings s.name (table long) (w.stored long) w.no_zero))
  | inr short ↦
      (let is : section_name_field strings s.name ≡ padded s.name = rw short refl in
      let parts = short_name s.name short in
      let field : part file h 8 ≡ padded s.name = stands_part file h 8 (section_name_field strings s.name) has (sym (length-name_field strings s w.near)) ∙ is in
      section_name_in big file h (padded s.name) (Some s.name) field
      (ap (section_text big file (padded s.name)) (inline_offset s.name parts.1) ∙ ap Some (up_to_zero-filled s.name (8 - length s.name) w.no_zero)))
]

pub pointer_some : (at count : ℕ) → 0 < count → pointer_to at count ≡ at
pointer_some at count some = let e : (count == 0) ≡ false = ne_eqb count 0 (λ h. omega arith) in rw e refl

pub pointer_small : (at count : ℕ) → at < 2 ^ 32 → pointer_to at count < 2 ^ 32
pointer_small at count lt = elim (cases_Bool (count == 0)) [
  | inl none ↦ rw none (omega arith)
  | inr some ↦ rw some lt
]

some_length : (b : List ℕ) → (length b == 0) ≡ false → 0 < length b
some_length [] some = absurd cc
some_length (x ∷ b) some = omega arith

raw_read : (file : List ℕ) (at flags : ℕ) (raw : Raw) → 0 < at → StandsAt file at (raw_bytes raw) → is_bad_raw raw flags ≡ false
    → raw_at file (pointer_to at (length (raw_bytes raw))) (raw_size raw) flags ≡ raw
raw_read file at flags (Absent size) some h good = refl
raw_read file at flags (Bytes bytes) some h good =
    let parts = or_parts (length bytes == 0) (not (bit_and flags 0x80 == 0)) good in
    let pointer : pointer_to at (length bytes) ≡ at = rw parts.0 refl in
    let at_some : (at == 0) ≡ false = ne_eqb at 0 (λ e. omega arith) in
    let absent : is_absent at (length bytes) flags ≡ false = rw (at_some, parts.0, parts.1) refl in
    ap (λ (p : ℕ). raw_at file p (length bytes) flags) pointer ∙ rw absent (ap Bytes (stands_part file at (length bytes) bytes h refl))

raw_accepted : (file : List ℕ) (at flags : ℕ) (raw : Raw) → 0 < at → StandsAt file at (raw_bytes raw) → is_bad_raw raw flags ≡ false
    → (not (is_absent (pointer_to at (length (raw_bytes raw))) (raw_size raw) flags) && nat_lt (length file) (pointer_to at (length (raw_bytes raw)) + raw_size raw)) ≡ false
raw_accepted file at flags (Absent size) some h good = refl
raw_accepted file at flags (Bytes bytes) some h good =
    let parts = or_parts (length bytes == 0) (not (bit_and flags 0x80 == 0)) good in
    let pointer : pointer_to at (length bytes) ≡ at = rw parts.0 refl in
    let inside = stands_inside file at bytes h (some_length bytes parts.0) in
    let fits : nat_lt (length file) (at + length bytes) ≡ false = le-ltb (length file) (at + length bytes) inside in
    ap (λ (p : ℕ). not (is_absent p (length bytes) flags) && nat_lt (length file) (p + length bytes)) pointer ∙ rw fits (and_right _ _ refl)

raw_small : (at : ℕ) (raw : Raw) → RawFits raw → at + length (raw_bytes raw) < 2 ^ 32 → raw_size raw < 2 ^ 32
raw_small at (Bytes bytes) fits lt = omega arith
raw_small at (Absent size) fits lt = fits

-- the numbers of a section's header fit, where its body begins at a place
section_fits : (at : ℕ) (s : Section) → SectionFits s → has_many_relocations s ≡ false → at + length (section_body s) < 2 ^ 32 → AllByRecursion NumberFits (section_numbers at s)
section_fits at s fits few small =
    let body : length (section_body s) ≡ length (raw_bytes s.raw) + length (flat_map relocation_bytes s.relocations) = length-append (raw_bytes s.raw) (flat_map relocation_bytes s.relocations) in
    let many = ltb-false 65534 (length s.relocations) few in
    (fits.virtual_size, (fits.virtual_address, (raw_small at s.raw fits.raw (omega arith), (pointer_small at (length (raw_bytes s.raw)) (omega arith), (pointer_small (at + length (raw_bytes s.raw)) (length s.relocations) (omega arith), (omega arith, (omega (arith, many), (omega arith, (fits.flags, tt)))))))))

relocations_of : (file : List ℕ) (at : ℕ) (rs : List Relocation) → StandsAt file at (flat_map relocation_bytes rs) → AllByRecursion RelocationFits rs
    → map (λ k. relocation_at file (pointer_to at (length rs) + 10 * k)) (range_with_len 0 (length rs)) ≡ rs
relocations_of file at [] has fits = refl
relocations_of file at (r ∷ rs) has fits =
    let pointer = pointer_some at (length (r ∷ rs)) (omega arith) in
    let start : at + 0 ≡ at = omega arith in
    let here : StandsAt file (at + 0) (flat_map relocation_bytes (r ∷ rs)) = subst (λ (n : ℕ). StandsAt file n (flat_map relocation_bytes (r ∷ rs))) (sym start) has in
    ap (λ (p : ℕ). map (λ k. relocation_at file (p + 10 * k)) (range_with_len 0 (length (r ∷ rs)))) pointer ∙ relocations_read file at 0 (r ∷ rs) here fits

-- none of them names a record that isn't there
pub relocations_accepted : (big : Form) (file : List ℕ) (base i count : ℕ) (rs : List Relocation) → StandsAt file (base + 10 * i) (flat_map relocation_bytes rs) → AllByRecursion RelocationFits rs
    → record_count big file ≡ count → list_any (λ (r : Relocation). nat_le count r.symbol) rs ≡ false
    → first_standing (map (λ k. relocation_test big file (base + 10 * k)) (range_with_len i (length rs))) ≡ None
unfolding number_bytes
relocations_accepted big file base i count [] h fits is none = refl
relocations_accepted big file base i count (r ∷ rs) h fits is none =
    let at : ℕ = base + 10 * i in
    let parts = or_parts (nat_le count r.symbol) (list_any (λ (r : Relocation). nat_le count r.symbol) rs) none in
    let symbol : field file at 4 4 ≡ r.symbol = ap (λ (r : Relocation). r.symbol) (relocation_read file at r (stands-front file at (relocation_bytes r) (flat_map relocation_bytes rs) h) fits.0) in
    let stands : (relocation_test big file at).stands ≡ false = ap (λ (n : ℕ). nat_le n (field file at 4 4)) is ∙ ap (nat_le count) symbol ∙ parts.0 in
    let behind = stands-back file at (base + 10 * (i + 1)) (relocation_bytes r) (flat_map relocation_bytes rs) h (omega arith) in
    rw stands (relocations_accepted big file base (i + 1) count rs behind fits.1 is parts.1)

relocations_fine : (big : Form) (file : List ℕ) (at count : ℕ) (rs : List Relocation) → StandsAt file at (flat_map relocation_bytes rs) → AllByRecursion RelocationFits rs → record_count big file ≡ count
    → list_any (λ (r : Relocation). nat_le count r.symbol) rs ≡ false
    → first_standing (map (λ k. relocation_test big file (pointer_to at (length rs) + 10 * k)) (range_with_len 0 (length rs))) ≡ None
relocations_fine big file at count [] has fits is none = refl
relocations_fine big file at count (r ∷ rs) has fits is none =
    let pointer = pointer_some at (length (r ∷ rs)) (omega arith) in
    let start : at + 0 ≡ at = omega arith in
    let here : StandsAt file (at + 0) (flat_map relocation_bytes (r ∷ rs)) = subst (λ (n : ℕ). StandsAt file n (flat_map relocation_bytes (r ∷ rs))) (sym start) has in
    ap (λ (p : ℕ). first_standing (map (λ k. relocation_test big file (p + 10 * k)) (range_with_len 0 (length (r ∷ rs))))) pointer ∙ relocations_accepted big file at 0 count (r ∷ rs) here fits is none

pub length-relocations : (rs : List Relocation) → length (flat_map relocation_bytes rs) ≡ 10 * length rs
unfolding number_bytes
length-relocations [] = refl
length-relocations (r ∷ rs) = omega (arith, length-relocations rs)

relocations_inside : (file : List ℕ) (at : ℕ) (rs : List Relocation) → StandsAt file at (flat_map relocation_bytes rs)
    → (not (length rs == 0) && nat_lt (length file) (pointer_to at (length rs) + 10 * length rs)) ≡ false
relocations_inside file at [] has = refl
relocations_inside file at (r ∷ rs) has =
    let len = length-relocations (r ∷ rs) in
    let inside = stands_inside file at (flat_map relocation_bytes (r ∷ rs)) has (omega arith) in
    let fits : nat_lt (length file) (at + 10 * length (r ∷ rs)) ≡ false = le-ltb (length file) (at + 10 * length (r ∷ rs)) (omega arith) in
    ap (λ (p : ℕ). not (length (r ∷ rs) == 0) && nat_lt (length file) (p + 10 * length (r ∷ rs))) (pointer_some at (length (r ∷ rs)) (omega arith)) ∙ rw fits (and_right _ _ refl)

-- a section, read back
pub record IsSectionAt (big : Form) (file : List ℕ) (h : ℕ) (s : Section) : Type 0 where
  pub is : section_in big file h ≡ s
  pub accepted : first_standing (section_tests big file h) ≡ None
  pub relocations : first_standing (relocation_tests big file h) ≡ None

same_section : (a b : List ℕ) (c d e f : ℕ) (x y : Raw) (g h : ℕ) (rs qs : List Relocation) → a ≡ b → c ≡ d → e ≡ f → x ≡ y → g ≡ h → rs ≡ qs
    → record { name = a; virtual_size = c; virtual_address = e; raw = x; flags = g; relocations = rs }
    ≡ (let s : Section = record { name = b; virtual_size = d; virtual_address = f; raw = y; flags = h; relocations = qs } in s)
same_section a b c d e f x y g h rs qs ab cd ef xy gh rq = cc

pub section_read : (big : Form) (file : List ℕ) (strings : List (List ℕ)) (count h at : ℕ) (s : Section) → SectionWritable strings count s → record_count big file ≡ count → 0 < at
    → StandsAt file h (section_header strings at s) → StandsAt file at (section_body s) → at + length (section_body s) < 2 ^ 32 → (is_long_section_name s.name ≡ true → HasStrings big file strings)
    → IsSectionAt big file h s
section_read big file strings count h at s w records some header body small table =
    let name_field : List ℕ = section_name_field strings s.name in
    let len = length-name_field strings s w.near in
    let name = section_name_read big file strings count h s w (stands-front file h name_field (section_fields at s) header) table in
    let fields : StandsAt file (h + 8) (section_fields at s) = stands-back file h (h + 8) name_field (section_fields at s) header (omega arith) in
    let read = λ (o : ℕ) (x : Number) (is : beginning_at (section_numbers at s) o ≡ Some x). field_read-behind file h (section_numbers at s) o x (section_fits at s w.fits w.few small) fields is in
    let size_is : field file h 16 4 ≡ raw_size s.raw = read 8 (U32 (raw_size s.raw)) refl in
    let pointer_is : field file h 20 4 ≡ pointer_to at (length (raw_bytes s.raw)) = read 12 (U32 (pointer_to at (length (raw_bytes s.raw)))) refl in
    let relocations_are : field file h 24 4 ≡ pointer_to (at + length (raw_bytes s.raw)) (length s.relocations) = read 16 (U32 (pointer_to (at + length (raw_bytes s.raw)) (length s.relocations))) refl in
    let count_is : field file h 32 2 ≡ length s.relocations = read 24 (U16 (length s.relocations)) refl in
    let flags_are : field file h 36 4 ≡ s.flags = read 28 (U32 s.flags) refl in
    let after : ℕ = at + length (raw_bytes s.raw) in
    let raw_has : StandsAt file at (raw_bytes s.raw) = stands-front file at (raw_bytes s.raw) (flat_map relocation_bytes s.relocations) body in
    let relocations_has : StandsAt file after (flat_map relocation_bytes s.relocations) = stands-back file at after (raw_bytes s.raw) (flat_map relocation_bytes s.relocations) body refl in
    let parts = or_parts (is_bad_raw s.raw s.flags) (list_any (λ (r : Relocation). nat_le count r.symbol) s.relocations) w.good in
    let raw : raw_at file (field file h 20 4) (field file h 16 4) (field file h 36 4) ≡ s.raw =
    ap (λ (p : ℕ). raw_at file p (field file h 16 4) (field file h 36 4)) pointer_is ∙ ap (λ (n : ℕ). raw_at file (pointer_to at (length (raw_bytes s.raw))) n (field file h 36 4)) size_is
    ∙ ap (raw_at file (pointer_to at (length (raw_bytes s.raw))) (raw_size s.raw)) flags_are ∙ raw_read file at s.flags s.raw some raw_has parts.0 in
    let pointed : ℕ = pointer_to after (length s.relocations) in
    let relocations : map (λ k. relocation_at file (relocation_start file h k)) (range_with_len 0 (field file h 32 2)) ≡ s.relocations =
    ap (λ (p : ℕ). map (λ k. relocation_at file (p + 10 * k)) (range_with_len 0 (field file h 32 2))) relocations_are
    ∙ ap (λ (n : ℕ). map (λ k. relocation_at file (pointed + 10 * k)) (range_with_len 0 n)) count_is
    ∙ relocations_of file after s.relocations relocations_has w.relocations in
    let no_relocation : first_standing (relocation_tests big file h) ≡ None =
    ap (λ (p : ℕ). first_standing (map (λ k. relocation_test big file (p + 10 * k)) (range_with_len 0 (field file h 32 2)))) relocations_are
    ∙ ap (λ (n : ℕ). first_standing (map (λ k. relocation_test big file (pointed + 10 * k)) (range_with_len 0 n))) count_is
    ∙ relocations_fine big file after count s.relocations relocations_has w.relocations records parts.1 in
    let many = ltb-false 65534 (length s.relocations) w.few in
    let no_64 : (not (is_absent (field file h 20 4) (field file h 16 4) (field file h 36 4)) && nat_lt (length file) (field file h 20 4 + field file h 16 4)) ≡ false =
    ap (λ (p : ℕ). not (is_absent p (field file h 16 4) (field file h 36 4)) && nat_lt (length file) (p + field file h 16 4)) pointer_is
    ∙ ap (λ (n : ℕ). not (is_absent (pointer_to at (length (raw_bytes s.raw))) n (field file h 36 4)) && nat_lt (length file) (pointer_to at (length (raw_bytes s.raw)) + n)) size_is
    ∙ ap (λ (x : ℕ). not (is_absent (pointer_to at (length (raw_bytes s.raw))) (raw_size s.raw) x) && nat_lt (length file) (pointer_to at (length (raw_bytes s.raw)) + raw_size s.raw)) flags_are
    ∙ raw_accepted file at s.flags s.raw some raw_has parts.0 in
    let not_most : (field file h 32 2 == 0xffff) ≡ false = ap (λ (n : ℕ). n == 0xffff) count_is ∙ ne_eqb (length s.relocations) 0xffff (λ e. omega arith) in
    let no_65 : (not (bit_and (field file h 36 4) 0x0100_0000 == 0) && field file h 32 2 == 0xffff) ≡ false = and_right _ _ not_most in
    let no_66 : (not (field file h 32 2 == 0) && nat_lt (length file) (relocation_start file h (field file h 32 2))) ≡ false =
    ap (λ (p : ℕ). not (field file h 32 2 == 0) && nat_lt (length file) (p + 10 * field file h 32 2)) relocations_are
    ∙ ap (λ (n : ℕ). not (n == 0) && nat_lt (length file) (pointed + 10 * n)) count_is
    ∙ relocations_inside file after s.relocations relocations_has in
    let no_69 : is_none (section_name big file h) ≡ false = ap (λ (o : Option (List ℕ)). is_none o) name in
    record {
      is = same_section _ _ _ _ _ _ _ _ _ _ _ _ (ap (λ (o : Option (List ℕ)). unwrap_or o []) name) (read 0 (U32 s.virtual_size) refl) (read 4 (U32 s.virtual_address) refl) raw flags_are relocations;
      accepted = rw (no_64, no_65, no_66, no_69) refl;
      relocations = no_relocation;
    }

length-header : (strings : List (List ℕ)) (at : ℕ) (s : Section) → is_far strings s ≡ false → length (section_header strings at s) ≡ 40
unfolding number_bytes
length-header strings at s near =
    let both : length (section_header strings at s) ≡ length (section_name_field strings s.name) + length (section_fields at s) = length-append (section_name_field strings s.name) (section_fields at s) in
    let name = length-name_field strings s near in
    omega arith

pub length-table : (strings : List (List ℕ)) (at : ℕ) (ss : List Section) → AllByRecursion (λ s. is_far strings s ≡ false) ss → length (section_table strings at ss) ≡ 40 * length ss
length-table strings at [] near = refl
length-table strings at (s ∷ ss) near =
    let next : ℕ = at + length (section_body s) in
    let both : length (section_header strings at s ++ section_table strings next ss) ≡ length (section_header strings at s) + length (section_table strings next ss) = length-append (section_header strings at s) (section_table strings next ss) in
    let here = length-header strings at s near.0 in
    let later = length-table strings next ss near.1 in
    omega arith

-- the sections from index i on, read back

-- the sections from index i on, read back
pub record AreSectionsFrom (big : Form) (file : List ℕ) (base i : ℕ) (ss : List Section) : Type 0 where
  pub are : map (section_in big file) (map (λ k. base + 40 * k) (range_with_len i (length ss))) ≡ ss
  pub accepted : first_standing (flat_map (section_tests big file) (map (λ k. base + 40 * k) (range_with_len i (length ss)))) ≡ None
  pub relocations : first_standing (flat_map (relocation_tests big file) (map (λ k. base + 40 * k) (range_with_len i (length ss)))) ≡ None

pub sections_read : (big : Form) (file : List ℕ) (strings : List (List ℕ)) (count base i at : ℕ) (ss : List Section) → AllByRecursion (SectionWritable strings count) ss → record_count big file ≡ count → 0 < at
    → StandsAt file (base + 40 * i) (section_table strings at ss) → StandsAt file at (flat_map section_body ss) → at + length (flat_map section_body ss) < 2 ^ 32
    → ((s : Section) → is_among s.name strings ≡ true → HasStrings big file strings)
    → AreSectionsFrom big file base i ss
sections_read big file strings count base i at [] w records some headers bodies small table = record { are = refl; accepted = refl; relocations = refl }
sections_read big file strings count base i at (s ∷ ss) w records some headers bodies small table =
    let h : ℕ = base + 40 * i in
    let next : ℕ = at + length (section_body s) in
    let both : length (section_body s ++ flat_map section_body ss) ≡ length (section_body s) + length (flat_map section_body ss) = length-append (section_body s) (flat_map section_body ss) in
    let header : StandsAt file h (section_header strings at s) = stands-front file h (section_header strings at s) (section_table strings next ss) headers in
    let body : StandsAt file at (section_body s) = stands-front file at (section_body s) (flat_map section_body ss) bodies in
    let mine = w.0 in
    let here : IsSectionAt big file h s = section_read big file strings count h at s w.0 records some header body (omega arith) (λ long. table s (mine.stored long)) in
    let len = length-header strings at s mine.near in
    let headers_left : StandsAt file (base + 40 * (i + 1)) (section_table strings next ss) = stands-back file h (base + 40 * (i + 1)) (section_header strings at s) (section_table strings next ss) headers (omega arith) in
    let bodies_left : StandsAt file next (flat_map section_body ss) = stands-back file at next (section_body s) (flat_map section_body ss) bodies refl in
    let later = sections_read big file strings count base (i + 1) next ss w.1 records (omega arith) headers_left bodies_left (omega arith) table in
    let starts : List ℕ = map (λ k. base + 40 * k) (range_with_len (i + 1) (length ss)) in
    record {
      are = ap (λ (x : Section). x ∷ map (section_in big file) starts) here.is ∙ ap (λ (xs : List Section). s ∷ xs) later.are;
      accepted = first-past (section_tests big file h) (flat_map (section_tests big file) starts) here.accepted ∙ later.accepted;
      relocations = first-past (relocation_tests big file h) (flat_map (relocation_tests big file) starts) here.relocations ∙ later.relocations;
    }
