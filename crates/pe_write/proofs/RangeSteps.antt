-- Fault 52, section by section.
use Rattle.std.proofs.Common.{◌≡◌, ℕ, ◌+◌, ◌<◌, ◌≤◌, true, false, List, length, get_or, take, drop, Some, None, ◌∙◌, refl}
use Rattle.std.proofs.lemmas.List.{at_drop_more, at_drop_all, take_more}
use Rattle.pe_head.specs.declared.section.SectionHeader.{SectionHeader}
use Rattle.pe_head.specs.declared.headers.Headers.{Headers}
use Rattle.pe_view.specs.Faults.{first_standing}
use Rattle.pe_write.specs.RebaseFaults.{range_test, ranges_tests}

module _ (h : Headers) (i : ℕ) (items : List SectionHeader) (d : SectionHeader) where
  pub goes_on : i < length items → (range_test h (take i items) i (get_or items i d)).stands ≡ false
      → first_standing (ranges_tests h (take i items) i (drop i items)) ≡ first_standing (ranges_tests h (take (i + 1) items) (i + 1) (drop (i + 1) items))
  unfolding ranges_tests
  goes_on lt none =
      at_drop_more (λ xs. first_standing (ranges_tests h (take i items) i xs)) items i d lt
      ∙ rw (none, take_more items i d lt) refl

  pub stops : i < length items → (range_test h (take i items) i (get_or items i d)).stands ≡ true
      → first_standing (ranges_tests h (take i items) i (drop i items)) ≡ Some (range_test h (take i items) i (get_or items i d)).fault
  unfolding ranges_tests
  stops lt some =
      at_drop_more (λ xs. first_standing (ranges_tests h (take i items) i xs)) items i d lt
      ∙ rw some refl

pub ends : (h : Headers) (i : ℕ) (before items : List SectionHeader) → length items ≤ i → first_standing (ranges_tests h before i (drop i items)) ≡ None
unfolding ranges_tests
ends h i before items le = at_drop_all (λ xs. first_standing (ranges_tests h before i xs)) items i le
