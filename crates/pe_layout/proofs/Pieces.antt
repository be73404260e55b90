-- The bytes of an image, piece by piece.
use Rattle.std.proofs.Common.{◌≡◌, ℕ, ◌+◌, ◌-◌, ◌<◌, ◌≤◌, Bool, true, false, cond, inl, inr, length, get_or, List, Option, Some, None, refl, ap, ◌∙◌, arith}
use Rattle.std.specs.Prelude.{nat_lt, nat_le, slice_get}
use Rattle.std.proofs.lemmas.Bool.{lt-ltb, le-ltb, lt-leb, leb-true, ltb-true, and_parts, cases_Bool}
use Rattle.std.proofs.lemmas.Option.{get_or_from_slice_get, slice_get_within, slice_get-get_or}
use Rattle.pe_view.specs.Number.{byte_of}
use Rattle.pe_view.specs.Faults.{first_standing}
use Rattle.pe_head.specs.declared.section.SectionHeader.{SectionHeader}
use Rattle.pe_head.specs.declared.headers.Headers.{Headers}
use Rattle.pe_head.specs.Section.{rawlen}
use Rattle.pe_layout.specs.declared.locate.Located.{Located}
use Rattle.pe_layout.specs.declared.locate.Located.TheVariants.{Header, Raw, Zero}
use Rattle.pe_layout.specs.Piece.{holds, section_of, section_index}
use Rattle.pe_layout.specs.SectionFaults.{placing_tests}
use Rattle.pe_layout.specs.Plain.{plain, section_byte, IsIn, IsLaidOut}
use Rattle.pe_layout.specs.Locating.{located, located_in, located_byte}
use Rattle.pe_layout.proofs.SectionPlaces.{AllPlaced, all_placed, no_header}
use Rattle.pe_layout.proofs.Finding.{in_section, none_passes, found_both}

-- the byte at an RVA after the headers
pub plain-behind : (h : Headers) (file : List ℕ) (r : ℕ) (s : Option SectionHeader) → h.size_of_headers ≤ r → section_of h r ≡ s → plain h file r ≡ section_byte file r s
plain-behind h file r s le is =
    let test : nat_lt r h.size_of_headers ≡ false = le-ltb _ _ le in
    rw (test, is) refl

-- a section of the table that contains an RVA
section_found : (h : Headers) (size : ℕ) → AllPlaced h size 0 h.sections.items → (r k : ℕ) (s : SectionHeader) → slice_get h.sections.items k ≡ Some s → IsIn r s
    → (h.size_of_headers ≤ r) × (section_of h r ≡ Some s)
section_found h size placed r k s at inside =
    let lt : k < length h.sections.items = slice_get_within h.sections.items k s at in
    let same : get_or h.sections.items k s ≡ s = get_or_from_slice_get h.sections.items k s s at in
    let there : IsIn r (get_or h.sections.items k s) = rw same inside in
    let starts = (placed.each k s lt).starts in
    let low = there.low in
    (omega arith, (in_section h size placed k r s lt there).found.section r there ∙ ap Some same)

not_in : (r : ℕ) (s : SectionHeader) → (IsIn r s → ⊥) → holds r s ≡ false
not_in r s none = elim (cases_Bool (holds r s)) [
  | inl held ↦ (let p = and_parts _ _ held in absurd (none (record { low = leb-true _ _ p.0; high = ltb-true _ _ p.1 })))
  | inr free ↦ free
]

pub laid_out : (image : ℕ) (h : Headers) (file : List ℕ) → first_standing (placing_tests image h (length file)) ≡ None → IsLaidOut h file
laid_out image h file none =
    let placed = all_placed image h (length file) 0 0 h.sections.items none in
    record {
      headers = λ r lt. let test : nat_lt r h.size_of_headers ≡ true = lt-ltb _ _ lt in rw test refl;
      raw = λ r k s at inside lt.
          let test : nat_lt (r - s.virtual_address) (rawlen s) ≡ true = lt-ltb _ _ lt in
          let there = section_found h (length file) placed r k s at inside in
          plain-behind h file r (Some s) there.0 there.1 ∙ rw test refl;
      zeros = λ r k s at inside le.
          let test : nat_lt (r - s.virtual_address) (rawlen s) ≡ false = le-ltb _ _ le in
          let there = section_found h (length file) placed r k s at inside in
          plain-behind h file r (Some s) there.0 there.1 ∙ rw test refl;
      gaps = λ r le outside.
          plain-behind h file r None le
          (none_passes (holds r) h.sections.items no_header (λ j lt. not_in r (get_or h.sections.items j no_header) (outside j (get_or h.sections.items j no_header) (slice_get-get_or h.sections.items j no_header lt)))).0;
    }

byte_in : (file : List ℕ) (b : Bool) (k o : ℕ) → located_byte file (cond b (Raw k o) (Zero k)) ≡ Some (cond b (byte_of file o) 0)
byte_in file true k o = refl
byte_in file false k o = refl

byte_behind : (h : Headers) (file : List ℕ) (r : ℕ) → located_byte file (located_in r (section_index h r) (section_of h r)) ≡ Some (section_byte file r (section_of h r))
byte_behind h file r = elim (found_both (holds r) h.sections.items) [
  | inl none ↦ rw (none.0, none.1) refl
  | inr some ↦ rw (some.1.1, some.1.2) (byte_in file (nat_lt (r - some.1.0.virtual_address) (rawlen some.1.0)) some.0 (some.1.0.pointer_to_raw_data + (r - some.1.0.virtual_address)))
]

byte_at : (file : List ℕ) (b : Bool) (r byte : ℕ) (behind : Located) → located_byte file behind ≡ Some byte → located_byte file (cond b (Header r) behind) ≡ Some (cond b (byte_of file r) byte)
byte_at file true r byte behind e = refl
byte_at file false r byte behind e = e

-- what is at an RVA determines the byte there
pub located-plain : (h : Headers) (file : List ℕ) (r : ℕ) → r < h.size_of_image → located_byte file (located h r) ≡ Some (plain h file r)
located-plain h file r lt =
    let inside : nat_le h.size_of_image r ≡ false = lt-leb _ _ lt in
    rw inside (byte_at file (nat_lt r h.size_of_headers) r (section_byte file r (section_of h r)) (located_in r (section_index h r) (section_of h r)) (byte_behind h file r))
