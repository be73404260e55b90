-- The faults of sections, section by section.
use Rattle.std.proofs.Common.{◌≡◌, ℕ, ◌+◌, ◌<◌, ◌≤◌, List, length, get_or, drop, Some, None, ◌∙◌}
use Rattle.std.proofs.lemmas.List.{at_drop_more, at_drop_all}
use Rattle.pe_view.specs.declared.fault.Fault.{Fault}
use Rattle.pe_head.specs.declared.section.SectionHeader.{SectionHeader}
use Rattle.pe_head.specs.declared.headers.Headers.{Headers}
use Rattle.pe_view.specs.Faults.{first_standing}
use Rattle.pe_view.specs.FirstStanding.{first-past, first-in}
use Rattle.pe_layout.specs.Piece.{end_of}
use Rattle.pe_layout.specs.SectionFaults.{section_tests, sections_tests}

module _ (h : Headers) (size image before i : ℕ) (items : List SectionHeader) (d : SectionHeader) where
  pub goes_on : i < length items → first_standing (section_tests image h size before i (get_or items i d)) ≡ None
      → first_standing (sections_tests image h size before i (drop i items)) ≡ first_standing (sections_tests image h size (end_of (get_or items i d)) (i + 1) (drop (i + 1) items))
  unfolding sections_tests
  goes_on lt none =
      at_drop_more (λ xs. first_standing (sections_tests image h size before i xs)) items i d lt
      ∙ first-past (section_tests image h size before i (get_or items i d)) (sections_tests image h size (end_of (get_or items i d)) (i + 1) (drop (i + 1) items)) none

  pub stops : (y : Fault) → i < length items → first_standing (section_tests image h size before i (get_or items i d)) ≡ Some y
      → first_standing (sections_tests image h size before i (drop i items)) ≡ Some y
  unfolding sections_tests
  stops y lt some =
      at_drop_more (λ xs. first_standing (sections_tests image h size before i xs)) items i d lt
      ∙ first-in (section_tests image h size before i (get_or items i d)) (sections_tests image h size (end_of (get_or items i d)) (i + 1) (drop (i + 1) items)) y some

pub ends : (h : Headers) (size image before i : ℕ) (items : List SectionHeader) → length items ≤ i → first_standing (sections_tests image h size before i (drop i items)) ≡ None
unfolding sections_tests
ends h size image before i items le = at_drop_all (λ xs. first_standing (sections_tests image h size before i xs)) items i le
