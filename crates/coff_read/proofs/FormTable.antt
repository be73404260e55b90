-- Where the tables of an accepted file of either form lie, and that none of their records has a fault.
use Rattle.std.proofs.Common.{◌≡◌, ◌∙◌, ℕ, ◌+◌, ◌*◌, ◌≤◌, Bool, false, true, List, ◌++◌, length, take, drop, None, refl, sym, ap, arith, inl, inr}
use Rattle.std.specs.Prelude.{not, nat_lt, ◌==◌, ◌&&◌}
use Rattle.std.specs.List.{flat_map}
use Rattle.std.proofs.lemmas.Bool.{cases_Bool, ltb-false, eqb-true}
use Rattle.std.proofs.lemmas.List.{length-drop, length-take-le}
use Rattle.pe_view.specs.Faults.{first_standing}
use Rattle.pe_view.specs.FirstStanding.{none-append, none_stands}
use Rattle.coff_read.specs.FormFaults.{header_tests, symbol_table_tests, section_tests, symbol_tests, relocation_tests, record_tests, object_tests}
use Rattle.coff_read.specs.FormReading.{symbol_pointer, record_count, strings_start, section_starts, record_start, aux_count, symbol_at, symbol_indexes}
use Rattle.coff_read.specs.FormRecords.{aux_records}
use Rattle.coff_read.specs.Forms.{Form, Plain, symbol_len}
use Rattle.coff_read.specs.ObjectFaults as plain
use Rattle.coff_read.proofs.PlainForm.{same_tests}

-- the symbol table lies in the file
table_inside : (big : Form) (file : List ℕ) → (not (symbol_pointer big file == 0) && nat_lt (length file) (strings_start big file)) ≡ false → strings_start big file ≤ length file
table_inside big file none = elim (cases_Bool (symbol_pointer big file == 0)) [
  | inl missing ↦
      (let zero_at = eqb-true (symbol_pointer big file) 0 missing in
      let no_records : record_count big file ≡ 0 = rw missing refl in
      let no_bytes : symbol_len big * record_count big file ≡ 0 = ap (λ (n : ℕ). symbol_len big * n) no_records ∙ omega arith in
      omega (arith, zero_at, no_bytes))
  | inr there ↦
      (let inside : nat_lt (length file) (strings_start big file) ≡ false = sym (ap (λ (b : Bool). not b && nat_lt (length file) (strings_start big file)) there) ∙ none in
      ltb-false (length file) (strings_start big file) inside)
]

-- the symbol table lies in the file, and no section or symbol has a fault
pub record FormStands (big : Form) (file : List ℕ) : Type 0 where
  pub inside : strings_start big file ≤ length file
  pub sections : first_standing (flat_map (section_tests big file) (section_starts big file)) ≡ None
  pub symbols : first_standing (flat_map (symbol_tests big file) (symbol_indexes big file)) ≡ None

pub form_stands : (big : Form) (file : List ℕ) → first_standing (object_tests big file) ≡ None → FormStands big file
unfolding object_tests record_tests
form_stands big file none =
    let parts = none-append (header_tests big file) (symbol_table_tests big file ++ record_tests big file) none in
    let tables = none-append (symbol_table_tests big file) (record_tests big file) parts.1 in
    let sections = none-append (flat_map (section_tests big file) (section_starts big file)) (flat_map (symbol_tests big file) (symbol_indexes big file) ++ flat_map (relocation_tests big file) (section_starts big file)) tables.1 in
    let symbols = none-append (flat_map (symbol_tests big file) (symbol_indexes big file)) (flat_map (relocation_tests big file) (section_starts big file)) sections.1 in
    record { inside = table_inside big file (none_stands (symbol_table_tests big file) 0 _ tables.0 refl); sections = sections.0; symbols = symbols.0 }

pub plain_stands : (file : List ℕ) → first_standing (plain.object_tests file) ≡ None → FormStands Plain file
plain_stands file none = form_stands Plain file (ap first_standing (same_tests file) ∙ none)

-- the auxiliary records of the symbol of a record lie in the file
pub aux_inside : (big : Form) (file : List ℕ) (k : ℕ) → strings_start big file ≤ length file → k + 1 + aux_count big file k ≤ record_count big file
    → aux_records big (symbol_at big file (record_start big file k)) ≡ aux_count big file k
aux_inside false file k inside within =
    let start : ℕ = record_start false file k + 18 in
    let left = length-drop start file in
    let len : length (take (18 * aux_count false file k) (drop start file)) ≡ 18 * aux_count false file k = length-take-le (18 * aux_count false file k) (drop start file) (omega arith) in
    omega arith
aux_inside true file k inside within =
    let start : ℕ = record_start true file k + 20 in
    let left = length-drop start file in
    let len : length (take (20 * aux_count true file k) (drop start file)) ≡ 20 * aux_count true file k = length-take-le (20 * aux_count true file k) (drop start file) (omega arith) in
    omega arith
