-- Entries that can be accepted by their type and by where their field is.
use Rattle.std.proofs.Common.{◌≡◌, ◌∙◌, ℕ, ◌+◌, ◌≤◌, Bool, false, List, ◌∷◌, None, Some, Option, refl, ap, arith}
use Rattle.std.specs.Prelude.{map, not}
use Rattle.std.proofs.lemmas.Bool.{le-leb}
use Rattle.pe_view.specs.Faults.{first_standing}
use Rattle.pe_layout.specs.Image.{LaidOut, fault_at}
use Rattle.pe_ranges.specs.Ranges.{meets_any}
use Rattle.pe_tables.specs.Fixups.{Entry, fixup_of, fixup_by, is_known, kind_of, width_of, range_of}
use Rattle.pe_tables.specs.Encoded.{type_of}
use Rattle.pe_tables.specs.FixupFaults.{field_tests, entry_tests}
use Rattle.pe_tables.specs.declared.fixups.Fixup.{Fixup}
use Rattle.pe_tables.specs.declared.fixups.FixupKind.{FixupKind}
use Rattle.pe_tables.specs.declared.fixups.FixupKind.TheVariants.{Bits32, Bits64, High, Low}
use Rattle.pe_tables.proofs.FixupPlaces.{type_kind}
use Rattle.pe_tables.proofs.EncodedFaults.{type_known}

pub width_few : (kind : FixupKind) → width_of kind ≤ 8
width_few High = omega arith
width_few Low = omega arith
width_few Bits32 = omega arith
width_few Bits64 = omega arith

module _ (e : Entry) (kind : FixupKind) (is : e.kind ≡ type_of kind) where
  pub its_fixup : fixup_of e ≡ Some (record { entry = e.rva; field = e.field; kind = kind })
  its_fixup = ap (λ (t : ℕ). fixup_by e (kind_of t)) is ∙ ap (fixup_by e) (type_kind kind)

  -- it has no fault
  pub none_stands : (i : LaidOut) (slots : List (ℕ × ℕ)) (before : List Fixup) → e.field + width_of kind ≤ i.size
      → meets_any e.field (width_of kind) (map range_of before) ≡ false → meets_any e.field (width_of kind) slots ≡ false
      → first_standing (entry_tests i slots before e) ≡ None
  none_stands i slots before inside apart clear =
      ap (λ (known : Bool). first_standing (record { stands = not known; fault = fault_at 35 i e.rva } ∷ field_tests i slots before (fixup_of e))) (ap is_known is ∙ type_known kind)
      ∙ ap (λ (f : Option Fixup). first_standing (field_tests i slots before f)) its_fixup
      ∙ rw (le-leb (e.field + width_of kind) i.size inside, apart, clear) refl
