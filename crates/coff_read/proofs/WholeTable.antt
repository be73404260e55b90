-- The symbols of an accepted file, with their auxiliary records, are all records of its table.
use Rattle.std.proofs.Common.{◌≡◌, ◌∙◌, ℕ, zero, suc, ◌+◌, ◌*◌, ◌^◌, ◌<◌, ◌≤◌, List, ◌++◌, length, take, drop, None, refl, sym, ap, arith}
use Rattle.std.specs.Prelude.{map, nat_lt}
use Rattle.std.specs.List.{flat_map}
use Rattle.std.proofs.lemmas.Bool.{or_parts, ltb-false}
use Rattle.std.proofs.lemmas.List.{length-drop, length-take-le}
use Rattle.pe_view.specs.Faults.{first_standing}
use Rattle.pe_view.specs.FirstStanding.{none-append, none_stands}
use Rattle.coff_read.specs.ObjectFaults.{header_tests, symbol_table_tests, section_tests, symbol_tests, record_tests, object_tests}
use Rattle.coff_read.specs.Reading.{section_starts, record_start, aux_count, symbol_at, symbols_from, symbol_indexes, object_of}
use Rattle.coff_read.specs.Strings.{record_count, strings_start}
use Rattle.coff_read.specs.Records.{aux_records, records_of}
use Rattle.coff_read.proofs.FormTable.{plain_stands}
use Rattle.coff_read.proofs.PlainForm.{same_symbols}

-- the auxiliary records of the symbol of a record lie in the file
pub aux_inside : (file : List ℕ) (k : ℕ) → strings_start file ≤ length file → k + 1 + aux_count file k ≤ record_count file → aux_records (symbol_at file (record_start file k)) ≡ aux_count file k
aux_inside file k inside within =
    let start : ℕ = record_start file k + 18 in
    let left = length-drop start file in
    let len : length (take (18 * aux_count file k) (drop start file)) ≡ 18 * aux_count file k = length-take-le (18 * aux_count file k) (drop start file) (omega arith) in
    omega arith

-- among the records from one on, of which the first are auxiliary
counted : (file : List ℕ) (k left skip : ℕ) → skip ≤ left → k + left ≡ record_count file → strings_start file ≤ length file
    → first_standing (flat_map (symbol_tests file) (symbols_from file k left skip)) ≡ None
    → records_of (map (λ k. symbol_at file (record_start file k)) (symbols_from file k left skip)) + skip ≡ left
counted file k zero skip le end inside none = omega arith
counted file k (suc left) (suc skip) le end inside none =
    let behind = counted file (k + 1) left skip (omega arith) (omega arith) inside none in
    omega arith
counted file k (suc left) zero le end inside none =
    let z : ℕ = aux_count file k in
    let parts = none-append (symbol_tests file k) (flat_map (symbol_tests file) (symbols_from file (k + 1) left z)) none in
    let within = ltb-false (record_count file) (k + 1 + z) (none_stands (symbol_tests file k) 1 _ parts.0 refl) in
    let behind = counted file (k + 1) left z (omega arith) (omega arith) inside parts.1 in
    let aux = aux_inside file k inside (omega arith) in
    omega arith

-- the symbol table lies in the file, and no section or symbol has a fault
pub record TableStands (file : List ℕ) : Type 0 where
  pub inside : strings_start file ≤ length file
  pub sections : first_standing (flat_map (section_tests file) (section_starts file)) ≡ None
  pub symbols : first_standing (flat_map (symbol_tests file) (symbol_indexes file)) ≡ None

pub table_stands : (file : List ℕ) → first_standing (object_tests file) ≡ None → TableStands file
table_stands file none =
    let table = plain_stands file none in
    record { inside = table.inside; sections = table.sections; symbols = sym (ap (λ (ks : List ℕ). first_standing (flat_map (symbol_tests file) ks)) (same_symbols file)) ∙ table.symbols }

pub record FillsTable (file : List ℕ) : Type 0 where
  pub records : records_of (object_of file).symbols ≡ record_count file
  pub few : records_of (object_of file).symbols < 2 ^ 32

pub fills_table : (file : List ℕ) → first_standing (object_tests file) ≡ None → FillsTable file
unfolding object_tests
fills_table file none =
    let parts = none-append (header_tests file) (symbol_table_tests file ++ record_tests file) none in
    let table = table_stands file none in
    let inside = table.inside in
    let sized = or_parts (nat_lt (length file) 20) (nat_lt (2 ^ 32) (length file)) (none_stands (header_tests file) 0 _ parts.0 refl) in
    let small = ltb-false (2 ^ 32) (length file) sized.1 in
    let all = counted file 0 (record_count file) 0 (omega arith) (omega arith) inside table.symbols in
    record { records = omega arith; few = omega arith }
