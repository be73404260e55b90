-- Where the bytes are in the file that are laid out, if the raw data of sections lie between the headers and an end.
use Rattle.std.proofs.Common.{◌≡◌, ℕ, ◌+◌, ◌-◌, ◌<◌, ◌≤◌, Bool, true, false, List, [], ◌∷◌, min, inl, inr, arith}
use Rattle.std.specs.Prelude.{◌==◌, nat_lt, nat_le, find, Option, None, Some, IfSome}
use Rattle.std.specs.List.{All}
use Rattle.std.proofs.lemmas.Bool.{cases_Bool, ltb-true}
use Rattle.std.proofs.lemmas.List.Elements.{All-head, All-tail}
use Rattle.pe_head.specs.declared.headers.Headers.{Headers}
use Rattle.pe_head.specs.declared.section.SectionHeader.{SectionHeader}
use Rattle.pe_head.specs.Section.{extent, rawlen}
use Rattle.pe_layout.specs.Locating.{file_offset, located, located_in}
use Rattle.pe_layout.specs.Piece.{holds, section_index, section_of}
use Rattle.pe_trust.specs.Covered.{LieBetween, RawDataLieBetween}

found : (P : SectionHeader → Type 0) (p : SectionHeader → Bool) (ss : List SectionHeader) → All P ss → IfSome (find p ss) P
found P p [] all = tt
found P p (s ∷ ss) all = elim (cases_Bool (p s)) [
  | inl here ↦ rw here (All-head P s ss all)
  | inr later ↦ rw later (found P p ss (All-tail P s ss all))
]

in_raw_data : (start end k : ℕ) (s : SectionHeader) → RawDataLieBetween start end s → k < rawlen s → s.pointer_to_raw_data + k < end
in_raw_data start end k s lie under = elim (cases_Bool (s.pointer_to_raw_data == 0)) [
  | inl none ↦ let no_bytes : k < 0 = rw none at under in absurd (omega (arith, no_bytes))
  | inr some ↦
      let within : k < min (extent s) s.size_of_raw_data = rw some at under in
      let between = lie (λ empty. omega (arith, within, empty)) in
      let high = between.high in
      omega (arith, within, high)
]

in_section : (start end rva : ℕ) (k : Option ℕ) (s : Option SectionHeader) → IfSome s (RawDataLieBetween start end) → IfSome (file_offset (located_in rva k s)) (λ offset. offset < end)
in_section start end rva None s lie = tt
in_section start end rva (Some k) None lie = tt
in_section start end rva (Some k) (Some s) lie = elim (cases_Bool (nat_lt (rva - s.virtual_address) (rawlen s))) [
  | inl raw ↦ rw raw (in_raw_data start end (rva - s.virtual_address) s lie (ltb-true (rva - s.virtual_address) (rawlen s) raw))
  | inr zeros ↦ rw zeros tt
]

pub located_before : (h : Headers) (end rva : ℕ) → h.size_of_headers ≤ end → All (RawDataLieBetween h.size_of_headers end) h.sections.items
    → IfSome (file_offset (located h rva)) (λ offset. offset < end)
located_before h end rva headers all = elim (cases_Bool (nat_le h.size_of_image rva)) [
  | inl past ↦ rw past tt
  | inr in_image ↦ rw in_image (elim (cases_Bool (nat_lt rva h.size_of_headers)) [
    | inl low ↦ let under = ltb-true rva h.size_of_headers low in rw low (omega (arith, under, headers))
    | inr behind ↦
        rw behind (in_section h.size_of_headers end rva (section_index h rva) (section_of h rva) (found (RawDataLieBetween h.size_of_headers end) (holds rva) h.sections.items all))
  ])
]
