-- The tables of an object that has a symbol table, by the fields of its header.
use Rattle.std.proofs.Common.{◌≡◌, ◌≢◌, ◌∙◌, ℕ, ◌+◌, ◌*◌, ◌≤◌, Bool, false, List, length, None, refl, sym, ap, arith, inl, inr}
use Rattle.std.specs.Prelude.{not, nat_lt, nat_le, is_none, ◌==◌, ◌&&◌, ◌||◌}
use Rattle.std.proofs.lemmas.Bool.{cases_Bool, or_parts, ne_eqb, le-ltb, lt-leb, ltb-false}
use Rattle.pe_view.specs.Faults.{first_standing}
use Rattle.pe_view.specs.FirstStanding.{none_stands}
use Rattle.pe_view.specs.Text.{text_between}
use Rattle.coff_read.specs.Field.{field}
use Rattle.coff_read.specs.FormFaults.{symbol_table_tests}
use Rattle.coff_read.specs.FormReading.{symbol_pointer, record_count, strings_start, strings_size, string_at}
use Rattle.coff_read.specs.Forms.{Form, records_at, symbol_len}
use Rattle.coff_read.specs.ObjectFaults.{string_table_tests, is_cut_table}
use Rattle.coff_read.specs.Strings.{size_field}

-- a string table that is missing at the end of the file, or whole
pub table_inside : (file : List ℕ) (start : ℕ) → start ≤ length file → first_standing (string_table_tests file start) ≡ None → start + size_field file start ≤ length file
table_inside file start inside whole =
    let cut : is_cut_table (length file) start (size_field file start) ≡ false = none_stands (string_table_tests file start) 0 _ whole refl in
    elim (cases_Bool (nat_lt start (length file))) [
      | inl before ↦
          (let rest = sym (ap (λ (b : Bool). b && (nat_lt (length file) (start + 4) || ((nat_lt 0 (size_field file start) && nat_lt (size_field file start) 4) || nat_lt (length file) (start + size_field file start)))) before) ∙ cut in
          let long = or_parts (nat_lt (length file) (start + 4)) _ rest in
          let fits = or_parts (nat_lt 0 (size_field file start) && nat_lt (size_field file start) 4) (nat_lt (length file) (start + size_field file start)) long.1 in
          ltb-false (length file) (start + size_field file start) fits.1)
      | inr after ↦
          (let end = ltb-false start (length file) after in
          let missing : nat_le (start + 4) (length file) ≡ false = lt-leb (start + 4) (length file) (omega (arith, end)) in
          let none : size_field file start ≡ 0 = rw missing refl in
          omega (arith, none, inside))
    ]

module _ (big : Form) (file : List ℕ) (symbols records strings size : ℕ) (pointer : symbol_pointer big file ≡ symbols) (some : symbols ≢ 0)
    (count : field file 0 (records_at big) 4 ≡ records) (start : strings ≡ symbols + symbol_len big * records) (sized : size ≡ size_field file strings) where
  there : (symbol_pointer big file == 0) ≡ false
  there = ne_eqb (symbol_pointer big file) 0 (λ e. some (sym pointer ∙ e))

  pub records_are : records ≡ record_count big file
  records_are = sym (rw there count)

  pub strings_are : strings ≡ strings_start big file
  strings_are = start ∙ ap (λ (n : ℕ). n + symbol_len big * records) (sym pointer) ∙ ap (λ (n : ℕ). symbol_pointer big file + symbol_len big * n) records_are

  pub size_is : size ≡ strings_size big file
  size_is = sized ∙ ap (size_field file) strings_are ∙ sym (rw there refl)

  pub no_fault : strings ≤ length file → first_standing (string_table_tests file strings) ≡ None → first_standing (symbol_table_tests big file) ≡ None
  no_fault inside whole =
      let past : nat_lt (length file) (strings_start big file) ≡ false = ap (nat_lt (length file)) (sym strings_are) ∙ le-ltb (length file) strings inside in
      let cut : is_cut_table (length file) strings (size_field file strings) ≡ false = none_stands (string_table_tests file strings) 0 _ whole refl in
      let same : is_cut_table (length file) (strings_start big file) (strings_size big file) ≡ false =
      ap (λ (n : ℕ). is_cut_table (length file) n (strings_size big file)) (sym strings_are) ∙ ap (is_cut_table (length file) strings) (sym size_is ∙ sized) ∙ cut in
      let no_67 : (not (symbol_pointer big file == 0) && nat_lt (length file) (strings_start big file)) ≡ false =
      ap (λ (b : Bool). not b && nat_lt (length file) (strings_start big file)) there ∙ past in
      let no_68 : (not (symbol_pointer big file == 0) && is_cut_table (length file) (strings_start big file) (strings_size big file)) ≡ false =
      ap (λ (b : Bool). not b && is_cut_table (length file) (strings_start big file) (strings_size big file)) there ∙ same in
      rw (no_67, no_68) refl

  pub texts_are : (texts : ℕ) → ((offset : ℕ) → is_none (text_between file (strings + offset) (strings + size)) ≡ nat_le texts offset) → (offset : ℕ) → is_none (string_at big file offset) ≡ (nat_lt offset 4 || nat_le texts offset)
  texts_are texts ends offset = elim (cases_Bool (nat_lt offset 4)) [
    | inl under ↦ rw under refl
    | inr over ↦
        rw over (ap (λ (n : ℕ). is_none (text_between file (n + offset) (n + strings_size big file))) (sym strings_are) ∙ ap (λ (n : ℕ). is_none (text_between file (strings + offset) (strings + n))) (sym size_is) ∙ ends offset)
  ]
