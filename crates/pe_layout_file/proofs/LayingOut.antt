-- What was read first of a file, and what was written of the images of all files that have it.
use Rattle.std.proofs.Common.{◌≡◌, ◌∙◌, ℕ, ◌+◌, ◌≤◌, ◌<◌, Bool, true, false, cond, List, ◌++◌, length, take, Ok, Err, None, inr, sym, ap, subst, arith}
use Rattle.std.specs.Prelude.{All, AllPairs}
use Rattle.std.proofs.lemmas.List.{take-append-le, take_all}
use Rattle.pe_view.specs.Faults.{first_standing}
use Rattle.pe_view.specs.FirstStanding.{none-append}
use Rattle.pe_head.specs.Accepted.{headers_inside, image_small}
use Rattle.pe_head.specs.declared.headers.Headers.{Headers}
use Rattle.pe_head.specs.declared.section.SectionHeader.{SectionHeader}
use Rattle.pe_head.specs.Head.{head_of}
use Rattle.pe_head.specs.HeaderFaults.{head_tests}
use Rattle.pe_head.specs.Section.{rawlen}
use Rattle.pe_layout.specs.Piece.{end_of}
use Rattle.pe_layout.specs.Plain.{plain_bytes, IsLaidOut}
use Rattle.pe_layout.specs.SectionFaults.{layout_tests, placing_tests}
use Rattle.pe_text.specs.declared.outcome.ToolError.{ToolError}
use Rattle.pe_text.specs.declared.outcome.ToolError.TheVariants.{Read, Write, Memory}
use Rattle.pe_text.specs.TextWriter.{IsBeginning}
use Rattle.pe_reach.specs.Parts.{Part, HasPart, HasParts}
use Rattle.pe_reach.specs.PartsRead.{BeginAll}
use Rattle.pe_layout_file.specs.ByParts.{CountsBy, OfEach, WritesByParts, WritesOf}
use Rattle.pe_layout_file.specs.ImageFile.{BeginsImage, HasImage, IsImageFile, image_bytes}
use Rattle.pe_layout_file.specs.Pieces.{BeginsWith, LieInOrder}
use Rattle.pe_layout_file.specs.declared.engine.ImageFile.TheVariants.{Written}
use Rattle.pe_layout_file.proofs.Moving.{all_first, all_rest}

-- the laws of layouts
pub record Laws : Type 0 where
  pub pieces : (image : ℕ) (file : List ℕ) → first_standing (layout_tests image file) ≡ None → IsLaidOut (head_of file) file
  pub behind : (image : ℕ) (file : List ℕ) → first_standing (layout_tests image file) ≡ None
      → All (λ (s : SectionHeader). (head_of file).size_of_headers ≤ s.virtual_address) (head_of file).sections.items
  pub inside : (image : ℕ) (file : List ℕ) → first_standing (layout_tests image file) ≡ None → All (λ (s : SectionHeader). end_of s ≤ (head_of file).size_of_image) (head_of file).sections.items
  pub apart : (image : ℕ) (file : List ℕ) → first_standing (layout_tests image file) ≡ None → AllPairs (λ (s later : SectionHeader). end_of s ≤ later.virtual_address) (head_of file).sections.items
  pub held : (image : ℕ) (file : List ℕ) → first_standing (layout_tests image file) ≡ None
      → All (λ (s : SectionHeader). 0 < rawlen s → s.pointer_to_raw_data + rawlen s ≤ length file) (head_of file).sections.items

-- the image of a file without a fault lies in order
pub lies_of : Laws → (file : List ℕ) → first_standing (layout_tests 0 file) ≡ None → LieInOrder (head_of file) file
lies_of laws file none =
    let head = (none-append (head_tests 0 file) (placing_tests 0 (head_of file) _) none).0 in
    record {
      laid_out = laws.pieces 0 file none;
      small = image_small 0 file head;
      headers_held = (headers_inside 0 file head).0;
      headers_inside = (headers_inside 0 file head).1;
      behind = laws.behind 0 file none;
      inside = laws.inside 0 file none;
      apart = laws.apart 0 file none;
      held = laws.held 0 file none;
    }

-- bytes stay at the front of the room that is made behind them
pub front_of : (ok : Bool) (bytes more room : List ℕ) → length bytes ≡ 4096 → room ≡ cond ok (take 65536 bytes ++ more) bytes → take 4096 room ≡ bytes
front_of true bytes more room size is =
    let few : length bytes ≤ 65536 = omega (arith, size) in
    let whole : take 65536 bytes ≡ bytes = take_all 65536 bytes few in
    ap (take 4096) (is ∙ ap (λ (xs : List ℕ). xs ++ more) whole) ∙ take-append-le 4096 bytes more (omega (arith, size)) ∙ take_all 4096 bytes (omega (arith, size))
front_of false bytes more room size is = ap (take 4096) is ∙ take_all 4096 bytes (omega (arith, size))

module _ (most len : ℕ) (h : Headers) (begin : List ℕ) (begins : BeginAll len h begin) (few : h.size_of_image ≤ most) (r : List Part)
    (starts : (file : List ℕ) → HasParts file r → HasPart file (record { offset = 0; bytes = begin })) where
  has_image : (file : List ℕ) → length file ≡ len → HasParts file r → HasImage most file
  has_image file size has =
      let known = begins.each file size (starts file has) in
      (known.1, subst (λ (x : Headers). x.size_of_image ≤ most) (sym known.0) few)

  whole_is : (file : List ℕ) → length file ≡ len → HasParts file r → plain_bytes h file 0 h.size_of_image ≡ image_bytes file
  whole_is file size has = ap (λ (x : Headers). plain_bytes x file 0 x.size_of_image) (sym (begins.each file size (starts file has)).0)

  module _ (m : List Part) (w : List ℕ) where
    pub all_written : WritesOf (BeginsWith len begin) (λ file. plain_bytes h file 0 h.size_of_image) (Ok true) m w → OfEach len (r ++ m) (λ file. IsImageFile most file Written w)
    all_written writes = λ file size has.
        let first = all_first file r m has in
        (has_image file size first, writes file (size, starts file first) (all_rest file r m has) ∙ whole_is file size first)

    begun : (file : List ℕ) → length file ≡ len → HasParts file (r ++ m) → IsBeginning w (plain_bytes h file 0 h.size_of_image) → BeginsImage most file w
    begun file size has begins = let first = all_first file r m has in (has_image file size first, subst (IsBeginning w) (whole_is file size first) begins)

    pub some_written : WritesOf (BeginsWith len begin) (λ file. plain_bytes h file 0 h.size_of_image) (Ok false) m w → OfEach len (r ++ m) (λ file. BeginsImage most file w)
    some_written writes = λ file size has. begun file size has (writes file (size, starts file (all_first file r m has)) (all_rest file r m has))

    pub by_error : (error : ToolError) (reads reads' counts counts' : ℕ) → CountsBy {X = Bool} reads reads' counts counts' (Err error)
        → WritesOf (BeginsWith len begin) (λ file. plain_bytes h file 0 h.size_of_image) (Err error) m w → WritesByParts most len (Err error) (r ++ m) w
    by_error Read reads reads' counts counts' told writes = inr (λ file size has. begun file size has (writes file (size, starts file (all_first file r m has)) (all_rest file r m has)))
    by_error Write reads reads' counts counts' told writes = λ file size has. begun file size has (writes file (size, starts file (all_first file r m has)) (all_rest file r m has))
    by_error Memory reads reads' counts counts' told writes = absurd told
