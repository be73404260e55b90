-- The definitions of both forms compute to those of the plain one.
use Rattle.std.proofs.Common.{◌≡◌, ◌∙◌, ℕ, zero, suc, ◌+◌, List, [], ◌∷◌, ◌++◌, refl, sym, ap}
use Rattle.std.specs.Prelude.{map}
use Rattle.std.specs.List.{flat_map}
use Rattle.coff_read.specs.FormFaults as form_faults
use Rattle.coff_read.specs.FormReading as form
use Rattle.coff_read.specs.Forms.{Plain}
use Rattle.coff_read.specs.ObjectFaults.{header_tests, symbol_table_tests, section_tests, symbol_tests, relocation_tests, record_tests, object_tests}
use Rattle.coff_read.specs.PlainForm.{IsPlain}
use Rattle.coff_read.specs.Reading.{record_start, aux_count, symbol_at, symbols_from, symbol_indexes, section_starts, object_of}
use Rattle.coff_read.specs.Records.{Object}
use Rattle.coff_read.specs.Strings.{record_count}

pub same_indexes : (file : List ℕ) (k left skip : ℕ) → form.symbols_from Plain file k left skip ≡ symbols_from file k left skip
same_indexes file k zero skip = refl
same_indexes file k (suc left) zero = ap (λ (ks : List ℕ). k ∷ ks) (same_indexes file (k + 1) left (aux_count file k))
same_indexes file k (suc left) (suc skip) = same_indexes file (k + 1) left skip

pub same_symbols : (file : List ℕ) → form.symbol_indexes Plain file ≡ symbol_indexes file
same_symbols file = same_indexes file 0 (record_count file) 0

-- one symbol more, by the words of the plain form
pub same_step : (file : List ℕ) (k left next more : ℕ) → form.symbols_from Plain file k left 0 ≡ k ∷ form.symbols_from Plain file next more 0 → symbols_from file k left 0 ≡ k ∷ symbols_from file next more 0
same_step file k left next more step = sym (same_indexes file k left 0) ∙ step ∙ ap (λ (ks : List ℕ). k ∷ ks) (same_indexes file next more 0)

pub same_object : (file : List ℕ) → form.object_of Plain file ≡ object_of file
same_object file =
    ap (λ (ks : List ℕ). (let o : Object = record (object_of file) { symbols = map (λ k. symbol_at file (record_start file k)) ks } in o)) (same_symbols file)

pub same_tests : (file : List ℕ) → form_faults.object_tests Plain file ≡ object_tests file
unfolding form_faults.object_tests form_faults.record_tests object_tests record_tests
same_tests file =
    ap (λ (ks : List ℕ). header_tests file ++ (symbol_table_tests file ++ (flat_map (section_tests file) (section_starts file) ++ (flat_map (symbol_tests file) ks ++ flat_map (relocation_tests file) (section_starts file))))) (same_symbols file)

pub is_plain : (file : List ℕ) → IsPlain file
is_plain file = record {
  tests = same_tests file;
  object = same_object file;
  indexes = same_symbols file;
  symbol_tests = λ k. refl;
  symbol = λ at. refl;
  section = λ h. refl;
}
