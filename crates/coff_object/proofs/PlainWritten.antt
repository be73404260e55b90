-- What is written, and refused, of an object of both forms computes to that of the plain one.
use Rattle.std.proofs.Common.{◌≡◌, ◌∙◌, ℕ, ◌+◌, ◌^◌, ◌-◌, List, [], ◌∷◌, ◌++◌, length, None, refl, sym, ap, subst}
use Rattle.std.specs.Prelude.{◌||◌, nat_lt}
use Rattle.std.specs.List.{flat_map, list_any}
use Rattle.pe_view.specs.Faults.{first_standing}
use Rattle.pe_numbers.specs.declared.number.Number.TheVariants.{U16, U32}
use Rattle.pe_numbers.specs.Numbers.{numbers_bytes}
use Rattle.coff_read.specs.FormFaults as form_faults
use Rattle.coff_read.specs.FormRecords as form_records
use Rattle.coff_read.specs.Forms.{Plain}
use Rattle.coff_read.specs.ObjectFaults.{is_other_file, IsObjectOf}
use Rattle.coff_read.specs.Records.{Symbol, Object, Fits, aux_records, records_of}
use Rattle.coff_object.specs.FormWriteFaults as form
use Rattle.coff_object.specs.FormWritten as written
use Rattle.coff_object.specs.WriteFaults.{of_item, name_tests, section_tests, is_bad_section, is_bad_symbol, write_tests}
use Rattle.coff_object.specs.Written.{strings_of, section_body, section_table, symbol_bytes, bodies_start, string_table, canon}
use Rattle.coff_object.proofs.ReadBack.{read_back}
use Rattle.coff_read.proofs.PlainForm.{same_object, same_tests}

same_records : (ss : List Symbol) → form_records.records_of Plain ss ≡ records_of ss
same_records [] = refl
same_records (s ∷ ss) = ap (λ (n : ℕ). 1 + aux_records s + n) (same_records ss)

pub same_canon : (o : Object) → written.canon Plain o ≡ canon o
unfolding written.canon canon
same_canon o =
    ap (λ (n : ℕ). numbers_bytes (U16 o.machine ∷ U16 (length o.sections) ∷ U32 o.time_stamp ∷ U32 (written.symbols_pointer Plain o) ∷ U32 n ∷ U16 (length o.optional) ∷ U16 o.characteristics ∷ [])
    ++ (o.optional ++ (section_table (strings_of o) (bodies_start o) o.sections ++ (flat_map section_body o.sections ++ (flat_map (symbol_bytes (strings_of o)) o.symbols ++ string_table o)))))
    (same_records o.symbols)

pub same_write_tests : (o : Object) → form.write_tests Plain o ≡ write_tests o
unfolding form.write_tests write_tests
same_write_tests o =
    ap (λ (bytes : List ℕ). name_tests o ++ (section_tests o ++ (of_item 84 0 (nat_lt (2 ^ 32 - 1) (length bytes))
    ∷ of_item 85 0 (nat_lt 65535 (length o.optional) || (nat_lt 65535 (length o.sections) || (is_other_file bytes || (list_any (is_bad_section (form_records.records_of Plain o.symbols)) o.sections || list_any (is_bad_symbol (length o.sections)) o.symbols)))) ∷ [])))
    (same_canon o)
    ∙ ap (λ (n : ℕ). name_tests o ++ (section_tests o ++ (of_item 84 0 (nat_lt (2 ^ 32 - 1) (length (canon o)))
    ∷ of_item 85 0 (nat_lt 65535 (length o.optional) || (nat_lt 65535 (length o.sections) || (is_other_file (canon o) || (list_any (is_bad_section n) o.sections || list_any (is_bad_symbol (length o.sections)) o.symbols)))) ∷ [])))
    (same_records o.symbols)

-- a file that holds an object of the plain form
pub plain_object : (file : List ℕ) (o : Object) → form_faults.IsObjectOf Plain file o → IsObjectOf file o
plain_object file o h = record { accepted = sym (ap first_standing (same_tests file)) ∙ h.accepted; holds = sym (same_object file) ∙ h.holds }

-- what was written is read back
pub plain_back : (o : Object) → Fits o → first_standing (write_tests o) ≡ None → IsObjectOf (canon o) o
plain_back o fits none =
    plain_object (canon o) o (subst (λ (bytes : List ℕ). form_faults.IsObjectOf Plain bytes o) (same_canon o) (read_back Plain o fits (ap first_standing (same_write_tests o) ∙ none)))
