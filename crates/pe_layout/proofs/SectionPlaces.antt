-- How the sections of an image without a fault are placed.
use Rattle.std.proofs.Common.{◌≡◌, ℕ, zero, suc, ◌+◌, ◌<◌, ◌≤◌, true, false, List, [], ◌∷◌, length, get_or, None, refl, arith}
use Rattle.std.specs.Prelude.{nat_lt}
use Rattle.std.proofs.Common.{inl, inr}
use Rattle.std.proofs.lemmas.Bool.{ltb-false, lt-ltb, or_parts, cases_lt}
use Rattle.pe_head.specs.declared.section.SectionHeader.{SectionHeader}
use Rattle.pe_head.specs.declared.headers.Headers.{Headers}
use Rattle.pe_head.specs.Section.{rawlen}
use Rattle.pe_view.specs.Faults.{first_standing}
use Rattle.pe_view.specs.FirstStanding.{none_stands, none-append}
use Rattle.pe_layout.specs.Piece.{end_of}
use Rattle.pe_layout.specs.SectionFaults.{section_tests, sections_tests}
use Rattle.pe_layout.specs.Sections.{LieApart}

-- a section with none of faults 13 to 15, after one that ends at `before`
pub record IsPlaced (h : Headers) (size before : ℕ) (s : SectionHeader) : Type 0 where
  pub raw : 0 < rawlen s → s.pointer_to_raw_data + rawlen s ≤ size
  pub ends : end_of s ≤ h.size_of_image
  pub starts : h.size_of_headers ≤ s.virtual_address
  pub behind : before ≤ s.virtual_address

placed : (image : ℕ) (h : Headers) (size before i : ℕ) (s : SectionHeader) → first_standing (section_tests image h size before i s) ≡ None → IsPlaced h size before s
placed image h size before i s none =
    let raw_test = none_stands (section_tests image h size before i s) 0 _ none refl in
    let low_test = or_parts _ _ (none_stands (section_tests image h size before i s) 2 _ none refl) in
    record {
      raw = λ some. let e : nat_lt 0 (rawlen s) ≡ true = lt-ltb _ _ some in let fits : nat_lt size (s.pointer_to_raw_data + rawlen s) ≡ false = rw e at raw_test in ltb-false _ _ fits;
      ends = ltb-false _ _ (none_stands (section_tests image h size before i s) 1 _ none refl);
      starts = ltb-false _ _ low_test.0;
      behind = ltb-false _ _ low_test.1;
    }

-- all sections are placed, and each begins at or after the end of the one before
pub record AllPlaced (h : Headers) (size before : ℕ) (ss : List SectionHeader) : Type 0 where
  pub each : (k : ℕ) (d : SectionHeader) → k < length ss → IsPlaced h size before (get_or ss k d)
  pub apart : (j k : ℕ) (d : SectionHeader) → j < k → k < length ss → end_of (get_or ss j d) ≤ (get_or ss k d).virtual_address

weaker : (h : Headers) (size before later : ℕ) (s : SectionHeader) → before ≤ later → IsPlaced h size later s → IsPlaced h size before s
weaker h size before later s le p = record { raw = p.raw; ends = p.ends; starts = p.starts; behind = let b = p.behind in omega arith }

placed_more : (h : Headers) (size before : ℕ) (s : SectionHeader) (ss : List SectionHeader) → IsPlaced h size before s → AllPlaced h size (end_of s) ss
    → (k : ℕ) (d : SectionHeader) → k < length (s ∷ ss) → IsPlaced h size before (get_or (s ∷ ss) k d)
placed_more h size before s ss p rest zero d lt = p
placed_more h size before s ss p rest (suc k) d lt = weaker h size before (end_of s) (get_or ss k d) (let b = p.behind in omega arith) (rest.each k d (omega arith))

apart_more : (h : Headers) (size before : ℕ) (s : SectionHeader) (ss : List SectionHeader) → AllPlaced h size (end_of s) ss
    → (j k : ℕ) (d : SectionHeader) → j < k → k < length (s ∷ ss) → end_of (get_or (s ∷ ss) j d) ≤ (get_or (s ∷ ss) k d).virtual_address
apart_more h size before s ss rest j zero d below lt = absurd (omega arith)
apart_more h size before s ss rest zero (suc k) d below lt = (rest.each k d (omega arith)).behind
apart_more h size before s ss rest (suc j) (suc k) d below lt = rest.apart j k d (omega arith) (omega arith)

pub all_placed : (image : ℕ) (h : Headers) (size before i : ℕ) (ss : List SectionHeader) → first_standing (sections_tests image h size before i ss) ≡ None → AllPlaced h size before ss
unfolding sections_tests
all_placed image h size before i [] none = record { each = λ k d lt. absurd (omega arith); apart = λ j k d below lt. absurd (omega arith) }
all_placed image h size before i (s ∷ ss) none =
    let parts = none-append (section_tests image h size before i s) (sections_tests image h size (end_of s) (i + 1) ss) none in
    let p = placed image h size before i s parts.0 in
    let rest = all_placed image h size (end_of s) (i + 1) ss parts.1 in
    record { each = placed_more h size before s ss p rest; apart = apart_more h size before s ss rest }

-- disjoint sections begin in ascending order
pub starts_ascend : (ss : List SectionHeader) → LieApart ss → (i j : ℕ) (d : SectionHeader) → i ≤ j → j < length ss → (get_or ss i d).virtual_address ≤ (get_or ss j d).virtual_address
starts_ascend ss apart i j d le lt = elim (cases_lt i j) [
  | inl below ↦ (let a = apart i j d below lt in omega arith)
  | inr above ↦ (let e : i ≡ j = omega arith in rw e (omega arith))
]

-- a header, as the default of a list of them
pub no_header : SectionHeader
no_header = record { name = []; virtual_size = 0; virtual_address = 0; size_of_raw_data = 0; pointer_to_raw_data = 0; pointer_to_relocations = 0; pointer_to_linenumbers = 0; number_of_relocations = 0; number_of_linenumbers = 0; characteristics = 0 }
