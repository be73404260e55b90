-- Headers of sections, section by section.
use Rattle.std.proofs.Common.{◌≡◌, ℕ, ◌+◌, ◌<◌, ◌≤◌, Bool, List, [], ◌∷◌, ◌++◌, length, get_or, drop, Some, None, sym, ap, ◌∙◌, subst, append_assoc}
use Rattle.std.specs.List.{flat_map, AllByRecursion}
use Rattle.std.proofs.lemmas.List.{at_drop_more, at_drop_all}
use Rattle.pe_view.specs.declared.fault.Fault.{Fault}
use Rattle.pe_view.specs.Faults.{first_standing}
use Rattle.pe_view.specs.FirstStanding.{first-in, first-past}
use Rattle.pe_head.specs.declared.section.SectionHeader.{SectionHeader}
use Rattle.pe_layout.specs.Piece.{end_of}
use Rattle.pe_write.specs.declared.plan.PlanSection.{PlanSection}
use Rattle.pe_write.specs.PlanFaults.{plan_test, is_misplaced, places_tests}
use Rattle.pe_write.specs.PlanFile.{raw_end, header_from, headers_from}
use Rattle.pe_write.specs.PlanFits.{IsRow}
use Rattle.pe_write.specs.PlanHeaders.{section_bytes}

module _ (a i : ℕ) (ss : List PlanSection) (d : PlanSection) (lt : i < length ss) where
  module _ (image headers before end : ℕ) (h : SectionHeader) (same : h ≡ header_from a end (get_or ss i d)) (b : Bool) (asked : b ≡ is_misplaced image headers before h) where
    as_planned : b ≡ is_misplaced image headers before (header_from a end (get_or ss i d))
    as_planned = asked ∙ ap (is_misplaced image headers before) same

    -- a section with an invalid place
    pub stops : (y : Fault) → first_standing (plan_test b ∷ []) ≡ Some y → first_standing (places_tests image headers before (headers_from a end (drop i ss))) ≡ Some y
    unfolding places_tests
    stops y stands =
        let x : SectionHeader = header_from a end (get_or ss i d) in
        let others : List SectionHeader = headers_from a (raw_end a end (get_or ss i d)) (drop (i + 1) ss) in
        at_drop_more (λ xs. first_standing (places_tests image headers before (headers_from a end xs))) ss i d lt
        ∙ first-in (plan_test (is_misplaced image headers before x) ∷ []) (places_tests image headers (end_of x) others) y (ap (λ (c : Bool). first_standing (plan_test c ∷ [])) (sym as_planned) ∙ stands)

    -- a section with a valid place
    pub goes_on : (next n : ℕ) → next ≡ end_of h → n ≡ raw_end a end (get_or ss i d) → first_standing (plan_test b ∷ []) ≡ None
        → first_standing (places_tests image headers next (headers_from a n (drop (i + 1) ss))) ≡ first_standing (places_tests image headers before (headers_from a end (drop i ss)))
    unfolding places_tests
    goes_on next n ends stop none =
        let x : SectionHeader = header_from a end (get_or ss i d) in
        let others : List SectionHeader = headers_from a (raw_end a end (get_or ss i d)) (drop (i + 1) ss) in
        ap (λ (m : ℕ). first_standing (places_tests image headers m (headers_from a n (drop (i + 1) ss)))) (ends ∙ ap end_of same)
        ∙ ap (λ (m : ℕ). first_standing (places_tests image headers (end_of x) (headers_from a m (drop (i + 1) ss)))) stop
        ∙ sym (first-past (plan_test (is_misplaced image headers before x) ∷ []) (places_tests image headers (end_of x) others) (ap (λ (c : Bool). first_standing (plan_test c ∷ [])) (sym as_planned) ∙ none))
        ∙ sym (at_drop_more (λ xs. first_standing (places_tests image headers before (headers_from a end xs))) ss i d lt)

  module _ (end n : ℕ) (stop : n ≡ raw_end a end (get_or ss i d)) (h : SectionHeader) (same : h ≡ header_from a end (get_or ss i d)) where
    pub rows_more : IsRow h → AllByRecursion IsRow (headers_from a n (drop (i + 1) ss)) → AllByRecursion IsRow (headers_from a end (drop i ss))
    rows_more row rest =
        subst (λ (xs : List PlanSection). AllByRecursion IsRow (headers_from a end xs)) (sym (at_drop_more (λ xs. xs) ss i d lt))
        (subst IsRow same row, subst (λ (m : ℕ). AllByRecursion IsRow (headers_from a m (drop (i + 1) ss))) stop rest)

    pub table_more : (before after : List ℕ) → after ≡ before ++ section_bytes h
        → after ++ flat_map section_bytes (headers_from a n (drop (i + 1) ss)) ≡ before ++ flat_map section_bytes (headers_from a end (drop i ss))
    table_more before after is =
        let x : SectionHeader = header_from a end (get_or ss i d) in
        let rest : List ℕ = flat_map section_bytes (headers_from a (raw_end a end (get_or ss i d)) (drop (i + 1) ss)) in
        ap (λ (m : ℕ). after ++ flat_map section_bytes (headers_from a m (drop (i + 1) ss))) stop
        ∙ ap (λ (xs : List ℕ). xs ++ rest) (is ∙ ap (λ (k : SectionHeader). before ++ section_bytes k) same)
        ∙ append_assoc before (section_bytes x) rest
        ∙ sym (at_drop_more (λ xs. before ++ flat_map section_bytes (headers_from a end xs)) ss i d lt)

-- after the last section
pub ends : (image headers before a end i : ℕ) (ss : List PlanSection) → length ss ≤ i → first_standing (places_tests image headers before (headers_from a end (drop i ss))) ≡ None
unfolding places_tests
ends image headers before a end i ss le = at_drop_all (λ xs. first_standing (places_tests image headers before (headers_from a end xs))) ss i le
