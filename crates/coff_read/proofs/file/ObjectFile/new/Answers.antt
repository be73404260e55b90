-- The header is tested first, then where the tables are, then their contents: sections, symbols, relocations.
use Rattle.std.proofs.Common.{◌≡◌, ◌∙◌, List, ◌++◌, ℕ, Some, length, ap, sym, subst}
use Rattle.std.specs.List.{flat_map}
use Rattle.std.proofs.lemmas.Result.{err_from_is_err_and}
use Rattle.pe_view.specs.Faults.{Test, first_standing}
use Rattle.pe_view.specs.FirstStanding.{first-in, first-past}
use Rattle.pe_view.specs.View.{bytes_of}
use Rattle.coff_read.specs.FormReading as form
use Rattle.coff_read.specs.Forms.{Plain}
use Rattle.coff_read.specs.ObjectFaults.{header_tests, symbol_table_tests, section_tests, symbol_tests, relocation_tests, record_tests, object_tests}
use Rattle.coff_read.specs.Reading.{section_starts, symbol_indexes}
use Rattle.coff_read.proofs.PlainForm.{same_symbols}
use Rattle.coff_read.proofs.file.ObjectFile.new.Goals as goal

abbrev sections_of : List ℕ → List Test
sections_of file = flat_map (section_tests file) (section_starts file)

abbrev symbols_of : List ℕ → List Test
symbols_of file = flat_map (symbol_tests file) (symbol_indexes file)

same_answer : (file : List ℕ) → first_standing (flat_map (symbol_tests file) (form.symbol_indexes Plain file)) ≡ first_standing (symbols_of file)
same_answer file = ap (λ (ks : List ℕ). first_standing (flat_map (symbol_tests file) ks)) (same_symbols file)

abbrev relocations_of : List ℕ → List Test
relocations_of file = flat_map (relocation_tests file) (section_starts file)

pub returns-in_err-check_header : goal.returns-in_err-check_header
unfolding object_tests
returns-in_err-check_header c =
    let shown = bytes_of c.new-view.result in
    let y = c.in_err-check_header.field-0.0 in
    let p = err_from_is_err_and c.from_residual.result c.from_residual.ensures.1 in
    rw (p.1, p.2) (subst (λ (file : List ℕ). first_standing (object_tests file) ≡ Some y) c.new-view.ensures
    (first-in (header_tests shown) (symbol_table_tests shown ++ record_tests shown) y c.in_err-check_header.ensures.exact))

pub returns-in_err-tables : goal.returns-in_err-tables
unfolding object_tests
returns-in_err-tables c =
    let shown = bytes_of c.new-view.result in
    let y = c.in_err-tables.field-0.0 in
    let p = err_from_is_err_and c.from_residual-in_err-tables.result c.from_residual-in_err-tables.ensures.1 in
    rw (p.1, p.2) (subst (λ (file : List ℕ). first_standing (object_tests file) ≡ Some y) c.new-view.ensures
    (first-past (header_tests shown) (symbol_table_tests shown ++ record_tests shown) c.in_ok-check_header.ensures.exact.0
    ∙ first-in (symbol_table_tests shown) (record_tests shown) y c.in_err-tables.ensures))

pub returns-in_err-check_sections : goal.returns-in_err-check_sections
unfolding object_tests record_tests
returns-in_err-check_sections c =
    let shown = bytes_of c.new-view.result in
    let y = c.in_err-check_sections.field-0.0 in
    let p = err_from_is_err_and c.from_residual-in_err-check_sections.result c.from_residual-in_err-check_sections.ensures.1 in
    rw (p.1, p.2) (subst (λ (file : List ℕ). first_standing (object_tests file) ≡ Some y) c.new-view.ensures
    (first-past (header_tests shown) (symbol_table_tests shown ++ record_tests shown) c.in_ok-check_header.ensures.exact.0
    ∙ first-past (symbol_table_tests shown) (record_tests shown) c.in_ok-tables.ensures.0
    ∙ first-in (sections_of shown) (symbols_of shown ++ relocations_of shown) y c.in_err-check_sections.ensures))

pub returns-in_err-symbols : goal.returns-in_err-symbols
unfolding object_tests record_tests
returns-in_err-symbols c =
    let shown = bytes_of c.new-view.result in
    let y = c.in_err-symbols.field-0.0 in
    let p = err_from_is_err_and c.from_residual-in_err-symbols.result c.from_residual-in_err-symbols.ensures.1 in
    rw (p.1, p.2) (subst (λ (file : List ℕ). first_standing (object_tests file) ≡ Some y) c.new-view.ensures
    (first-past (header_tests shown) (symbol_table_tests shown ++ record_tests shown) c.in_ok-check_header.ensures.exact.0
    ∙ first-past (symbol_table_tests shown) (record_tests shown) c.in_ok-tables.ensures.0
    ∙ first-past (sections_of shown) (symbols_of shown ++ relocations_of shown) c.in_ok-check_sections.ensures.0
    ∙ first-in (symbols_of shown) (relocations_of shown) y (sym (same_answer shown) ∙ c.in_err-symbols.ensures)))

pub returns-in_err-check_all_relocations : goal.returns-in_err-check_all_relocations
unfolding object_tests record_tests
returns-in_err-check_all_relocations c =
    let shown = bytes_of c.new-view.result in
    let y = c.in_err-check_all_relocations.field-0.0 in
    let p = err_from_is_err_and c.from_residual-in_err-check_all_relocations.result c.from_residual-in_err-check_all_relocations.ensures.1 in
    rw (p.1, p.2) (subst (λ (file : List ℕ). first_standing (object_tests file) ≡ Some y) c.new-view.ensures
    (first-past (header_tests shown) (symbol_table_tests shown ++ record_tests shown) c.in_ok-check_header.ensures.exact.0
    ∙ first-past (symbol_table_tests shown) (record_tests shown) c.in_ok-tables.ensures.0
    ∙ first-past (sections_of shown) (symbols_of shown ++ relocations_of shown) c.in_ok-check_sections.ensures.0
    ∙ first-past (symbols_of shown) (relocations_of shown) (sym (same_answer shown) ∙ c.in_ok-symbols.ensures.0) ∙ c.in_err-check_all_relocations.ensures))

pub invariant_of-result : goal.invariant_of-result
unfolding object_tests record_tests
invariant_of-result c =
    let shown = bytes_of c.new-view.result in
    record {
      stand = c.in_ok-tables.ensures.1;
      counted = c.in_ok-symbols.ensures.1 ∙ ap (λ (ks : List ℕ). length ks) (same_symbols shown);
      accepted =
          first-past (header_tests shown) (symbol_table_tests shown ++ record_tests shown) c.in_ok-check_header.ensures.exact.0
          ∙ first-past (symbol_table_tests shown) (record_tests shown) c.in_ok-tables.ensures.0
          ∙ first-past (sections_of shown) (symbols_of shown ++ relocations_of shown) c.in_ok-check_sections.ensures.0
          ∙ first-past (symbols_of shown) (relocations_of shown) (sym (same_answer shown) ∙ c.in_ok-symbols.ensures.0) ∙ c.in_ok-check_all_relocations.ensures.0;
    }
