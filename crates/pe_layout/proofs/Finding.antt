-- Which section a search among the sections finds.
use Rattle.std.proofs.Common.{◌≡◌, ℕ, ◌<◌, ◌≤◌, Bool, true, false, List, length, get_or, Some, None, refl, ap, ◌∙◌, arith}
use Rattle.std.specs.Prelude.{nat_lt, nat_le, find, position, slice_get}
use Rattle.std.specs.List.{position_or_len}
use Rattle.std.proofs.Common.{inl, inr, ◌⊎◌}
use Rattle.std.proofs.lemmas.Bool.{lt-ltb, le-ltb, le-leb, lt-leb, and_from, and_right, cases_lt}
use Rattle.std.proofs.lemmas.Option.{slice_get-get_or, slice_get_past, slice_get_cases}
use Rattle.std.proofs.lemmas.List.Folds.{find_at}
use Rattle.std.proofs.lemmas.List.Sums.{position_or_len_is}
use Rattle.pe_head.specs.declared.section.SectionHeader.{SectionHeader}
use Rattle.pe_head.specs.declared.headers.Headers.{Headers}
use Rattle.pe_layout.specs.Piece.{end_of, holds, section_of, section_index}
use Rattle.pe_layout.specs.Plain.{IsIn}
use Rattle.pe_layout.specs.Sections.{IsInSectionAt, IsInGap, LieApart, gap_end}
use Rattle.pe_layout.proofs.SectionPlaces.{AllPlaced, starts_ascend}

module _ {X : Type 0} (p : X → Bool) (xs : List X) where
  found : (i : ℕ) (d : X) → i < length xs → position_or_len p xs ≡ i → (find p xs ≡ Some (get_or xs i d)) × (position p xs ≡ Some i)
  found i d lt is =
      let test : nat_lt i (length xs) ≡ true = lt-ltb _ _ lt in
      (find_at p xs ∙ ap (slice_get xs) is ∙ slice_get-get_or xs i d lt, rw (is, test) refl)

  -- the first element that passes
  pub first_passes : (i : ℕ) (d : X) → i < length xs → ((k : ℕ) → k < i → p (get_or xs k d) ≡ false) → p (get_or xs i d) ≡ true → (find p xs ≡ Some (get_or xs i d)) × (position p xs ≡ Some i)
  first_passes i d lt before here = found i d lt (position_or_len_is p xs i d (omega arith) before (λ _. here))

  -- the element and its index are found together or not at all
  pub found_both : ((find p xs ≡ None) × (position p xs ≡ None)) ⊎ ((i : ℕ) × ((x : X) × (find p xs ≡ Some x) × (position p xs ≡ Some i)))
  found_both =
      let i : ℕ = position_or_len p xs in
      elim (slice_get_cases xs i).1 [
        | inl inside ↦ (let test : nat_lt i (length xs) ≡ true = lt-ltb _ _ inside.1 in inr (i, (inside.0, find_at p xs ∙ inside.2, rw test refl)))
        | inr past ↦ (let test : nat_lt i (length xs) ≡ false = le-ltb _ _ past.0 in inl (find_at p xs ∙ past.1, rw test refl))
      ]

  -- no element passes
  pub none_passes : (d : X) → ((k : ℕ) → k < length xs → p (get_or xs k d) ≡ false) → (find p xs ≡ None) × (position p xs ≡ None)
  none_passes d none =
      let is : position_or_len p xs ≡ length xs = position_or_len_is p xs (length xs) d (omega arith) none (λ lt. absurd (omega arith)) in
      let test : nat_lt (length xs) (length xs) ≡ false = le-ltb _ _ (omega arith) in
      (find_at p xs ∙ ap (slice_get xs) is ∙ slice_get_past xs (length xs) (omega arith), rw (is, test) refl)

-- the sections up to one that begins and ends at or before an RVA end there or before
pub ended : (ss : List SectionHeader) → LieApart ss → (r last j : ℕ) (d : SectionHeader) → j ≤ last → last < length ss → (get_or ss last d).virtual_address ≤ r → end_of (get_or ss last d) ≤ r
    → end_of (get_or ss j d) ≤ r
ended ss apart r last j d le lt begins ends = elim (cases_lt j last) [
  | inl below ↦ (let a = apart j last d below lt in omega arith)
  | inr above ↦ (let e : j ≡ last = omega arith in rw e ends)
]

pub holds_in : (r : ℕ) (s : SectionHeader) → s.virtual_address ≤ r → r < end_of s → holds r s ≡ true
holds_in r s low high = and_from _ _ (le-leb _ _ low) (lt-ltb _ _ high)

past : (r : ℕ) (s : SectionHeader) → end_of s ≤ r → holds r s ≡ false
past r s le = let test : nat_lt r (end_of s) ≡ false = le-ltb _ _ le in rw test (and_right (nat_le s.virtual_address r) false refl)

short_of : (r : ℕ) (s : SectionHeader) → r < s.virtual_address → holds r s ≡ false
short_of r s lt = let test : nat_le s.virtual_address r ≡ false = lt-leb _ _ lt in rw test refl

module _ (h : Headers) (size : ℕ) (placed : AllPlaced h size 0 h.sections.items) where
  section_at : (i k : ℕ) (d : SectionHeader) → i < length h.sections.items → IsIn k (get_or h.sections.items i d)
      → (section_of h k ≡ Some (get_or h.sections.items i d)) × (section_index h k ≡ Some i)
  section_at i k d lt inside =
      let low = inside.low in
      first_passes (holds k) h.sections.items i d lt
      (λ j below. past k (get_or h.sections.items j d) (let a = placed.apart j i d below lt in omega arith))
      (holds_in k (get_or h.sections.items i d) inside.low inside.high)

  -- an RVA is in section i
  pub in_section : (i r : ℕ) (d : SectionHeader) → i < length h.sections.items → IsIn r (get_or h.sections.items i d) → IsInSectionAt h size r i (get_or h.sections.items i d)
  in_section i r d lt inside = record {
    index = (section_at i r d lt inside).1;
    found = record {
      inside = inside;
      section = λ k there. (section_at i k d lt there).0;
      raw = (placed.each i d lt).raw;
      ends = (placed.each i d lt).ends;
    };
  }

  no_section : (i k : ℕ) (d : SectionHeader) → ((j : ℕ) → j < i → end_of (get_or h.sections.items j d) ≤ k) → ((j : ℕ) → i ≤ j → j < length h.sections.items → k < (get_or h.sections.items j d).virtual_address)
      → (section_of h k ≡ None) × (section_index h k ≡ None)
  no_section i k d before after = none_passes (holds k) h.sections.items d (λ j lt. elim (cases_lt j i) [
    | inl below ↦ past k (get_or h.sections.items j d) (before j below)
    | inr above ↦ short_of k (get_or h.sections.items j d) (after j above lt)
  ])

  -- an RVA is in the gap before section i
  pub in_gap : (i r : ℕ) (d : SectionHeader) → i < length h.sections.items → ((j : ℕ) → j < i → end_of (get_or h.sections.items j d) ≤ r) → r < (get_or h.sections.items i d).virtual_address
      → IsInGap h r (get_or h.sections.items i d).virtual_address
  in_gap i r d lt before below =
      let none = λ (k : ℕ) (le : r ≤ k) (less : k < (get_or h.sections.items i d).virtual_address). no_section i k d (λ j first. let b = before j first in omega arith) (λ j later inside. let s = starts_ascend h.sections.items placed.apart i j d later inside in omega arith) in
      record {
        index = (none r (omega arith) below).1;
        empty = λ k le less. (none k le less).0;
        some = below;
        inside = let e = (placed.each i d lt).ends in omega arith;
      }

  -- an RVA is in the gap after all sections
  pub in_last_gap : (r : ℕ) (d : SectionHeader) → ((j : ℕ) → j < length h.sections.items → end_of (get_or h.sections.items j d) ≤ r) → r < h.size_of_image → IsInGap h r h.size_of_image
  in_last_gap r d before below =
      let none = λ (k : ℕ) (le : r ≤ k). no_section (length h.sections.items) k d (λ j first. let b = before j first in omega arith) (λ j later inside. absurd (omega arith)) in
      record {
        index = (none r (omega arith)).1;
        empty = λ k le less. (none k le).0;
        some = below;
        inside = omega arith;
      }

  -- an RVA is in the gap before section i, or after the last section
  pub in_gap_before : (i r : ℕ) (d : SectionHeader) → i ≤ length h.sections.items → ((j : ℕ) → j < i → end_of (get_or h.sections.items j d) ≤ r)
      → ((j : ℕ) → i ≤ j → j < length h.sections.items → r < (get_or h.sections.items j d).virtual_address) → r < h.size_of_image → IsInGap h r (gap_end h i)
  in_gap_before i r d le before after inside = elim (cases_lt i (length h.sections.items)) [
    | inl lt ↦ rw (slice_get-get_or h.sections.items i d lt) (in_gap i r d lt before (after i (omega arith) lt))
    | inr past ↦ rw (slice_get_past h.sections.items i past) (in_last_gap r d (λ j lt. before j (omega arith)) inside)
  ]

  -- no section contains an RVA outside the image
  pub in_none : (r : ℕ) (d : SectionHeader) → h.size_of_image ≤ r → section_of h r ≡ None
  in_none r d outside =
      (no_section (length h.sections.items) r d (λ j first. let e = (placed.each j d first).ends in omega arith) (λ j later inside. absurd (omega arith))).0
