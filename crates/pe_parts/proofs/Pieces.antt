-- Where the pieces end that are there.
use Rattle.std.proofs.Common.{◌≡◌, ℕ, ◌+◌, ◌-◌, ◌<◌, ◌≤◌, true, None, Some, refl, sym, ◌∙◌, ap, arith, inl, inr}
use Rattle.std.specs.Prelude.{◌&&◌, nat_le, nat_lt}
use Rattle.std.proofs.lemmas.Bool.{cases_Bool, cases_lt, lt-ltb, le-ltb, le-leb, lt-leb, leb-true, ltb-true, and_parts, and_from}
use Rattle.pe_head.specs.declared.section.SectionHeader.{SectionHeader}
use Rattle.pe_head.specs.declared.headers.Headers.{Headers}
use Rattle.pe_layout.specs.Piece.{end_of, section_of}
use Rattle.pe_parts.specs.AtHand.{held_end, has_text}
use Rattle.pe_parts.specs.Packed.{at_hand, piece_end, IsPieceAtHand}

module _ (p : Headers) where
  -- the headers are there, a section is if its raw data is, and a gap is not
  pub end_in_headers : (r : ℕ) → r < p.size_of_headers → held_end p r ≡ p.size_of_headers
  end_in_headers r low = rw (lt-ltb r p.size_of_headers low) refl

  pub end_in_section : (r : ℕ) (s : SectionHeader) → p.size_of_headers ≤ r → section_of p r ≡ Some s → 0 < s.pointer_to_raw_data → held_end p r ≡ end_of s
  end_in_section r s high is some = rw (le-ltb r p.size_of_headers high, is, lt-ltb 0 s.pointer_to_raw_data some) refl

  pub end_of_absent : (r : ℕ) (s : SectionHeader) → p.size_of_headers ≤ r → section_of p r ≡ Some s → s.pointer_to_raw_data ≤ 0 → held_end p r ≡ 0
  end_of_absent r s high is none = rw (le-ltb r p.size_of_headers high, is, le-ltb 0 s.pointer_to_raw_data none) refl

  pub end_in_gap : (r : ℕ) → p.size_of_headers ≤ r → section_of p r ≡ None → held_end p r ≡ 0
  end_in_gap r high is = rw (le-ltb r p.size_of_headers high, is) refl

  -- the bytes before an end that is not 0 are there, and it is that of their piece
  pub held_is : (r end : ℕ) → held_end p r ≡ end → r < end → (at_hand p r ≡ true) × (piece_end p r ≡ end)
  held_is r end is some = elim (cases_Bool (at_hand p r)) [
    | inl e ↦ (e, rw e at is)
    | inr e ↦ let none : 0 ≡ end = rw e at is in absurd (omega (arith, none, some))
  ]

  -- a string in a piece that is there is there
  pub text_in_piece : (start end r : ℕ) → ((k : ℕ) → start ≤ k → k < end → held_end p k ≡ end) → (nat_le start r && nat_lt r end) ≡ true → IsPieceAtHand p r
  text_in_piece start end r all is =
      let parts = and_parts _ _ is in
      let low = leb-true _ _ parts.0 in
      let high = ltb-true _ _ parts.1 in
      let here = held_is r end (all r low high) high in
      λ k le lt.
      let below : k < end = rw here.1 at lt in
      let from : start ≤ k = omega (arith, low, le) in
      (held_is k end (all k from below) below).0

  -- one byte is before an end
  pub text_is : (r end : ℕ) → held_end p r ≡ end → nat_lt r end ≡ has_text p r
  text_is r end is = rw is (elim (cases_lt r end) [
    | inl e ↦ lt-ltb r end e ∙ sym (le-leb 1 (end - r) (omega (arith, e)))
    | inr e ↦ le-ltb r end e ∙ sym (lt-leb 1 (end - r) (omega (arith, e)))
  ])

  -- a piece that contains an RVA has the string there
  pub text_in : (start end r : ℕ) → ((k : ℕ) → start ≤ k → k < end → held_end p k ≡ end) → (nat_le start r && nat_lt r end) ≡ true → (nat_le start r && nat_lt r end) ≡ has_text p r
  text_in start end r all is =
      let parts = and_parts _ _ is in
      let high = ltb-true _ _ parts.1 in
      is ∙ sym parts.1 ∙ text_is r end (all r (leb-true _ _ parts.0) high)
