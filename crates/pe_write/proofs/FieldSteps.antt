-- Fields in raw data, field by field.
use Rattle.std.proofs.Common.{◌≡◌, ℕ, ◌+◌, ◌-◌, ◌<◌, ◌≤◌, true, false, List, [], ◌∷◌, length, get_or, drop, Some, None, ◌∙◌, ap, arith}
use Rattle.std.specs.Prelude.{nat_le, ℤ}
use Rattle.std.proofs.lemmas.Bool.{and_parts, leb-true, false_from_ne_true}
use Rattle.std.proofs.lemmas.List.{at_drop_more, at_drop_all}
use Rattle.pe_view.specs.declared.fault.Fault.{Fault}
use Rattle.pe_view.specs.Faults.{first_standing}
use Rattle.pe_view.specs.FirstStanding.{first-past, first-in}
use Rattle.pe_head.specs.declared.section.SectionHeader.{SectionHeader}
use Rattle.pe_head.specs.declared.headers.Headers.{Headers}
use Rattle.pe_head.specs.Section.{rawlen}
use Rattle.pe_tables.specs.Fixups.{width_of}
use Rattle.pe_tables.specs.Patch.{shifted_at}
use Rattle.pe_tables.specs.declared.fixups.Fixup.{Fixup}
use Rattle.pe_write.specs.Rebase.{keeps, raw_section, place_in, place_of}
use Rattle.pe_write.specs.RebaseFaults.{field_test, fields_tests}
use Rattle.pe_write.specs.Rewriting.{AreLaid, IsHolder}
use Rattle.pe_write.specs.Rebase.{moved_all}
use Rattle.pe_write.proofs.Lists.{FoundAt, found, find_first}
use Rattle.pe_write.proofs.Kept.{rawlen_most, width_some}

keeps_parts : (f : Fixup) (s : SectionHeader) → keeps f.field (width_of f.kind) s ≡ true → (s.virtual_address ≤ f.field) × (f.field + width_of f.kind ≤ s.virtual_address + rawlen s)
keeps_parts f s is =
    let p = and_parts (nat_le s.virtual_address f.field) (nat_le (f.field + width_of f.kind) (s.virtual_address + rawlen s)) is in
    (leb-true _ _ p.0, leb-true _ _ p.1)

-- a field and the section whose raw data contains it
pub record IsSpot (h : Headers) (n : ℕ) (f : Fixup) (s : SectionHeader) : Type 0 where
  pub low : s.virtual_address ≤ f.field
  pub fits : s.pointer_to_raw_data + (f.field - s.virtual_address) + width_of f.kind ≤ n
  pub holder : IsHolder h s
  pub place : place_of h f ≡ s.pointer_to_raw_data + (f.field - s.virtual_address)

module _ (h : Headers) (n : ℕ) (laid : AreLaid h n) where
  before_fails : (f g : Fixup) (s : SectionHeader) → keeps g.field (width_of g.kind) s ≡ true → (at : FoundAt (keeps f.field (width_of f.kind)) h.sections.items s) → (j : ℕ) → j < at.place → keeps g.field (width_of g.kind) (get_or h.sections.items j s) ≡ false
  before_fails f g s is at j below = false_from_ne_true _ (λ yes.
      let same : get_or h.sections.items at.place s ≡ s = at.is s in
      let apart = rw same at (laid.apart j at.place s below at.inside) in
      let here = keeps_parts g s is in
      let there = keeps_parts g (get_or h.sections.items j s) yes in
      let most = rawlen_most (get_or h.sections.items j s) in
      let wide = width_some g.kind in
      let low = here.0 in
      let high = there.1 in
      omega arith)

  only_holder : (f : Fixup) (s : SectionHeader) → raw_section h f ≡ Some s → IsHolder h s
  only_holder f s raw =
      let at = found (keeps f.field (width_of f.kind)) h.sections.items s raw in
      record {
        only = λ g is.
            find_first (keeps g.field (width_of g.kind)) h.sections.items at.place s at.inside (before_fails f g s is at) (rw (at.is s) is)
            ∙ ap Some (at.is s);
      }

  pub spot : (f : Fixup) (s : SectionHeader) → raw_section h f ≡ Some s → IsSpot h n f s
  spot f s raw =
      let at = found (keeps f.field (width_of f.kind)) h.sections.items s raw in
      let parts = keeps_parts f s at.passes in
      let low = parts.0 in
      let high = parts.1 in
      let wide = width_some f.kind in
      let same : get_or h.sections.items at.place s ≡ s = at.is s in
      let some : 0 < rawlen s = omega arith in
      let fits = (rw same at (laid.held at.place s at.inside)) some in
      record { low = low; fits = omega arith; holder = only_holder f s raw; place = ap (place_in f.field) raw }

module _ (h : Headers) (i : ℕ) (fs : List Fixup) (d : Fixup) where
  pub goes_on : i < length fs → first_standing (field_test h (get_or fs i d) ∷ []) ≡ None → first_standing (fields_tests h (drop i fs)) ≡ first_standing (fields_tests h (drop (i + 1) fs))
  unfolding fields_tests
  goes_on lt none =
      at_drop_more (λ xs. first_standing (fields_tests h xs)) fs i d lt
      ∙ first-past (field_test h (get_or fs i d) ∷ []) (fields_tests h (drop (i + 1) fs)) none

  pub stops : (y : Fault) → i < length fs → first_standing (field_test h (get_or fs i d) ∷ []) ≡ Some y → first_standing (fields_tests h (drop i fs)) ≡ Some y
  unfolding fields_tests
  stops y lt some =
      at_drop_more (λ xs. first_standing (fields_tests h xs)) fs i d lt
      ∙ first-in (field_test h (get_or fs i d) ∷ []) (fields_tests h (drop (i + 1) fs)) y some

  pub moves_on : (shift : ℤ) (xs : List ℕ) → i < length fs → moved_all h shift (drop i fs) xs ≡ moved_all h shift (drop (i + 1) fs) (shifted_at shift (get_or fs i d).kind (place_of h (get_or fs i d)) xs)
  moves_on shift xs lt = at_drop_more (λ gs. moved_all h shift gs xs) fs i d lt

pub ends : (h : Headers) (i : ℕ) (fs : List Fixup) → length fs ≤ i → first_standing (fields_tests h (drop i fs)) ≡ None
unfolding fields_tests
ends h i fs le = at_drop_all (λ xs. first_standing (fields_tests h xs)) fs i le

pub moves_end : (h : Headers) (i : ℕ) (fs : List Fixup) (shift : ℤ) (xs : List ℕ) → length fs ≤ i → moved_all h shift (drop i fs) xs ≡ xs
moves_end h i fs shift xs le = at_drop_all (λ gs. moved_all h shift gs xs) fs i le
