-- Where packed bytes are at hand, they are the file's.
use Rattle.std.proofs.Common.{◌≡◌, ℕ, ◌+◌, ◌-◌, ◌<◌, ◌≤◌, true, false, List, [], ◌∷◌, Option, None, Some, refl, sym, ◌∙◌, ap, arith, inl, inr}
use Rattle.std.specs.Prelude.{◌==◌, IfSome, nat_lt, nat_le, map, find, if◌then◌else◌, option_map, unwrap_or}
use Rattle.std.specs.List.{range_with_len}
use Rattle.std.proofs.lemmas.Bool.{cases_Bool, ltb-true, ne_eqb}
use Rattle.pe_view.specs.Number.{byte_of}
use Rattle.pe_view.specs.Text.{zero_ended}
use Rattle.pe_head.specs.declared.section.SectionHeader.{SectionHeader}
use Rattle.pe_head.specs.declared.headers.Headers.{Headers}
use Rattle.pe_head.specs.Section.{rawlen}
use Rattle.pe_layout.specs.Piece.{end_of, holds, section_of}
use Rattle.pe_layout.specs.Plain.{plain, section_byte}
use Rattle.pe_layout.specs.PieceText.{text, section_text}
use Rattle.pe_layout.specs.Locating.{raw_left}
use Rattle.pe_layout.specs.Image.{LaidOut, image_from}
use Rattle.pe_parts.specs.Filled.{filled, HaveTables, SameTables}
use Rattle.pe_parts.specs.Packed.{moved, IsHeld, AreHeld, IsPacked, is_held, at_hand, IsPieceAtHand, AgreeAtHand}
use Rattle.pe_parts.specs.declared.tables.PackedTables.{PackedTables}
use Rattle.pe_parts.specs.PackedTables.{AreContentsOf}
use Rattle.pe_parts.proofs.Numbers.{map_agrees}
use Rattle.pe_parts.proofs.ReadTables.{tables_agree}

not_zero : (n : ℕ) → 0 < n → (n == 0) ≡ false
not_zero n some = ne_eqb n 0 (λ e. omega (arith, e, some))

-- how much raw data a section has where it was moved
moved_len : (s : SectionHeader) (p : ℕ) → 0 < s.pointer_to_raw_data → 0 < p → rawlen (moved s p) ≡ rawlen s
moved_len s p raw some = rw (not_zero s.pointer_to_raw_data raw, not_zero p some) refl

-- the byte of a section that is there
byte_held : (f c : List ℕ) (r : ℕ) (s : SectionHeader) (p : ℕ) → (0 < p → IsHeld f c s p) → nat_lt 0 p ≡ true → section_byte c r (Some (moved s p)) ≡ section_byte f r (Some s)
byte_held f c r s p held some =
    let pos : 0 < p = ltb-true _ _ some in
    let h = held pos in
    let len : rawlen (moved s p) ≡ rawlen s = moved_len s p h.raw pos in
    ap (λ n. if nat_lt (r - s.virtual_address) n then byte_of c (p + (r - s.virtual_address)) else 0) len
    ∙ elim (cases_Bool (nat_lt (r - s.virtual_address) (rawlen s))) [
      | inl e ↦ rw e (h.bytes (r - s.virtual_address) (ltb-true _ _ e))
      | inr e ↦ rw e refl
    ]

-- a section holds the RVAs that it held where it was
holds_moved : (r : ℕ) (s t : SectionHeader) → t ≡ moved s t.pointer_to_raw_data → holds r t ≡ holds r s
holds_moved r s t e = ap (λ x. holds r x) e

one_held : (f c : List ℕ) (r : ℕ) (s t : SectionHeader) → t ≡ moved s t.pointer_to_raw_data → (0 < t.pointer_to_raw_data → IsHeld f c s t.pointer_to_raw_data) → nat_lt 0 t.pointer_to_raw_data ≡ true
    → section_byte c r (Some t) ≡ section_byte f r (Some s)
one_held f c r s t e held some = ap (λ x. section_byte c r (Some x)) e ∙ byte_held f c r s t.pointer_to_raw_data held some

bytes_held : (f c : List ℕ) (r : ℕ) (ss ts : List SectionHeader) → AreHeld f c ss ts → is_held (find (holds r) ts) ≡ true → section_byte c r (find (holds r) ts) ≡ section_byte f r (find (holds r) ss)
bytes_held f c r [] [] all is = refl
bytes_held f c r [] (t ∷ ts) all is = absurd all
bytes_held f c r (s ∷ ss) [] all is = absurd all
bytes_held f c r (s ∷ ss) (t ∷ ts) all is = elim (cases_Bool (holds r s)) [
  | inl e ↦ let et = holds_moved r s t all.0 ∙ e in rw (et, e) (one_held f c r s t all.0 all.1.0 (rw et at is))
  | inr e ↦ let et = holds_moved r s t all.0 ∙ e in rw (et, e) (bytes_held f c r ss ts all.1.1 (rw et at is))
]

-- SizeOfHeaders and SizeOfImage are the file's
size_of_headers_same : (f c : List ℕ) (h p : Headers) → IsPacked f h c p → p.size_of_headers ≡ h.size_of_headers
size_of_headers_same f c h p is = ap (λ x. x.size_of_headers) is.headers

size_of_image_same : (f c : List ℕ) (h p : Headers) → IsPacked f h c p → p.size_of_image ≡ h.size_of_image
size_of_image_same f c h p is = ap (λ x. x.size_of_image) is.headers

-- a byte at hand is the file's
pub plain_held : (f c : List ℕ) (h p : Headers) (r : ℕ) → IsPacked f h c p → at_hand p r ≡ true → plain p c r ≡ plain h f r
plain_held f c h p r is at =
    let same = size_of_headers_same f c h p is in
    elim (cases_Bool (nat_lt r h.size_of_headers)) [
      | inl e ↦ rw (same, e) (is.bytes r (ltb-true _ _ e))
      | inr e ↦ rw (same, e) (bytes_held f c r h.sections.items p.sections.items is.sections (rw (same, e) at at))
    ]

-- sections end where they ended
ends_same : (f c : List ℕ) (r : ℕ) (ss ts : List SectionHeader) → AreHeld f c ss ts → option_map end_of (find (holds r) ts) ≡ option_map end_of (find (holds r) ss)
ends_same f c r [] [] all = refl
ends_same f c r [] (t ∷ ts) all = absurd all
ends_same f c r (s ∷ ss) [] all = absurd all
ends_same f c r (s ∷ ss) (t ∷ ts) all = elim (cases_Bool (holds r s)) [
  | inl e ↦ let et = holds_moved r s t all.0 ∙ e in rw (et, e) (ap (λ x. Some (end_of x)) all.0)
  | inr e ↦ let et = holds_moved r s t all.0 ∙ e in rw (et, e) (ends_same f c r ss ts all.1.1)
]

-- the string of a section by where it ends
by_end : (ℕ → ℕ) → ℕ → Option ℕ → Option (List ℕ)
by_end b r None = Some []
by_end b r (Some end) = zero_ended (map b (range_with_len r (end - r)))

by_end_is : (h : Headers) (f : List ℕ) (r : ℕ) (s : Option SectionHeader) → section_text h f r s ≡ by_end (plain h f) r (option_map end_of s)
unfolding by_end
by_end_is h f r None = refl
by_end_is h f r (Some s) = refl

by_end_agrees : (b c : ℕ → ℕ) (r : ℕ) (end : Option ℕ) → ((k : ℕ) → r ≤ k → k < unwrap_or end 0 → b k ≡ c k) → by_end b r end ≡ by_end c r end
unfolding by_end
by_end_agrees b c r None same = refl
by_end_agrees b c r (Some end) same = ap zero_ended (map_agrees b c r (end - r) (λ k le lt. same k le (omega arith)))

-- the string at an RVA, by sizes, bytes and where its section ends
pieces : (image headers : ℕ) (b : ℕ → ℕ) (r : ℕ) (end : Option ℕ) → Option (List ℕ)
pieces image headers b r end =
    if nat_le image r then None else (if nat_lt r headers then zero_ended (map b (range_with_len r (headers - r))) else by_end b r end)

pieces_are : (h : Headers) (f : List ℕ) (r : ℕ) → text h f r ≡ pieces h.size_of_image h.size_of_headers (plain h f) r (option_map end_of (section_of h r))
unfolding pieces
pieces_are h f r =
    ap (λ o. if nat_le h.size_of_image r then None else (if nat_lt r h.size_of_headers then zero_ended (map (plain h f) (range_with_len r (h.size_of_headers - r))) else o)) (by_end_is h f r (section_of h r))

pieces_agree : (image headers : ℕ) (b c : ℕ → ℕ) (r : ℕ) (end : Option ℕ) → ((k : ℕ) → r ≤ k → k < (if nat_lt r headers then headers else unwrap_or end 0) → b k ≡ c k) → pieces image headers b r end ≡ pieces image headers c r end
unfolding pieces
pieces_agree image headers b c r end same = elim (cases_Bool (nat_lt r headers)) [
  | inl e ↦ rw e (ap (λ o. if nat_le image r then None else zero_ended o) (map_agrees b c r (headers - r) (λ k le lt. rw e at same k le (omega arith))))
  | inr e ↦ rw e (ap (λ o. if nat_le image r then None else o) (by_end_agrees b c r end (rw e at same)))
]

-- a string whose piece is at hand is the file's
pub text_held : (f c : List ℕ) (h p : Headers) (r : ℕ) → IsPacked f h c p → IsPieceAtHand p r → text p c r ≡ text h f r
text_held f c h p r is at =
    let headers = size_of_headers_same f c h p is in
    let image = size_of_image_same f c h p is in
    let ends = ends_same f c r h.sections.items p.sections.items is.sections in
    pieces_are p c r
    ∙ pieces_agree p.size_of_image p.size_of_headers (plain p c) (plain h f) r (option_map end_of (section_of p r)) (λ k le lt. plain_held f c h p k is (at k le lt))
    ∙ (λ j. pieces (image j) (headers j) (plain h f) r (ends j))
    ∙ sym (pieces_are h f r)

-- the image of packed bytes, filled with what the file has, is the file's
packed_is_filled : (n : ℕ) (f c : List ℕ) (h p : Headers) → IsPacked f h c p → filled (image_from n p c) (plain h f) (text h f) (raw_left h) ≡ image_from n h f
packed_is_filled n f c h p is = ap (λ x. filled (image_from n x c) (plain h f) (text h f) (raw_left h)) is.headers

-- its tables are the file's, if what they read is at hand
pub packed_tables : (n : ℕ) (f c : List ℕ) (h p : Headers) → IsPacked f h c p → HaveTables (image_from n p c) (plain h f) (text h f) → SameTables (image_from n p c) (image_from n h f)
packed_tables n f c h p is have =
    let same : SameTables (image_from n p c) (filled (image_from n p c) (plain h f) (text h f) (raw_left h)) = tables_agree (image_from n p c) (plain h f) (text h f) (raw_left h) have in
    rw (packed_is_filled n f c h p is) at same

-- what the file has agrees with the packed bytes wherever these are there
pub file_agrees : (n : ℕ) (f c : List ℕ) (h p : Headers) → IsPacked f h c p → AgreeAtHand p (image_from n p c) (plain h f) (text h f)
file_agrees n f c h p is = record { bytes = λ r at. sym (plain_held f c h p r is at); texts = λ r at. sym (text_held f c h p r is at) }

-- the contents of the tables are those of an image with the same tables
carry : {A : Type 0} (i j : LaidOut) (t : PackedTables A) → SameTables i j → AreContentsOf i t → AreContentsOf j t
carry i j t same are = record {
  sound = same.faults ∙ are.sound;
  exports = are.exports ∙ sym (same.exports are.sound);
  imports = are.imports ∙ sym same.imports;
  fixups = are.fixups ∙ sym (same.fixups are.sound);
}

-- so what was read of packed bytes with all that the tables read is what each file has
pub contents_packed : {A : Type 0} (n : ℕ) (c : List ℕ) (p : Headers) (result : Option (PackedTables A)) → IfSome result (AreContentsOf (image_from n p c))
    → ((b : ℕ → ℕ) (t : ℕ → Option (List ℕ)) → AgreeAtHand p (image_from n p c) b t → HaveTables (image_from n p c) b t)
    → IfSome result (λ tables. (f : List ℕ) (h : Headers) → IsPacked f h c p → AreContentsOf (image_from n h f) tables)
contents_packed n c p None are have = tt
contents_packed n c p (Some t) are have = λ f h is.
    carry (image_from n p c) (image_from n h f) t (packed_tables n f c h p is (have (plain h f) (text h f) (file_agrees n f c h p is))) are

-- the same of a layout, whose headers and image are these
pub contents_laid_out : {A : Type 0} (n : ℕ) (c : List ℕ) (p p' : Headers) (i : LaidOut) (result : Option (PackedTables A)) → p' ≡ p → i ≡ image_from n p c → IfSome result (AreContentsOf i)
    → ((b : ℕ → ℕ) (t : ℕ → Option (List ℕ)) → AgreeAtHand p' i b t → HaveTables i b t)
    → IfSome result (λ tables. (f : List ℕ) (h : Headers) → IsPacked f h c p → AreContentsOf (image_from n h f) tables)
contents_laid_out n c p p' i result headers shows are have = contents_packed n c p result (rw shows at are) (rw (headers, shows) at have)
