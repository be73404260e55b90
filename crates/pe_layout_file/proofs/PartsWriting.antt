-- The image of each file that begins with the same bytes, written piece by piece.
use Rattle.std.proofs.Common.{◌≡◌, ◌∙◌, ℕ, ◌+◌, ◌-◌, ◌<◌, ◌≤◌, List, [], ◌∷◌, ◌++◌, Bool, true, false, length, take, get_or, Result, Ok, Err, Some, sym, ap, subst, append-nil, append_assoc, arith}
use Rattle.std.specs.Prelude.{replicate, slice_get}
use Rattle.std.proofs.lemmas.Option.{get_or_from_slice_get, slice_get_within}
use Rattle.std.proofs.lemmas.List.{get_or_append_left, length-append, length-replicate, take-take}
use Rattle.pe_view.specs.Number.{part}
use Rattle.pe_head.specs.declared.section.SectionHeader.{SectionHeader}
use Rattle.pe_head.specs.declared.headers.Headers.{Headers}
use Rattle.pe_head.specs.Section.{rawlen}
use Rattle.pe_layout.specs.Plain.{plain_bytes}
use Rattle.pe_text.specs.declared.outcome.ToolError.{ToolError}
use Rattle.pe_text.specs.TextWriter.{IsBeginning}
use Rattle.pe_reach.specs.Parts.{Part}
use Rattle.pe_reach.specs.PartsRead.{BeginAll, EndsEarly}
use Rattle.pe_layout_file.specs.ByParts.{Moves, WritesOf}
use Rattle.pe_layout_file.specs.Pieces.{BeginsWith, IsHeld, LieInOrder, LiesInEach}
use Rattle.pe_layout_file.proofs.Moving.{is_part, begins_take, retold, stops, then_moves, ends}
use Rattle.pe_layout_file.proofs.Sections.{IsBetween, at_next, headers_are, last_bytes, more_bytes, section_after, section_bytes}

-- a file that ended before a place ended before a later one, too
pub early_within : (end end' : ℕ) (p p' : List Part) → end ≤ end' → EndsEarly end p p' → EndsEarly end' p p'
early_within end end' p p' le early = (early.0, early.1, omega (arith, le, early.2), early.3)

abbrev get_at : List ℕ → ℕ → ℕ
get_at xs k = get_or xs k 0

pub early_on : (end : ℕ) (p p' p'' r : List Part) → p' ≡ p ++ r → EndsEarly end p' p'' → EndsEarly end p p''
early_on end p p' p'' r is early =
    let last : List Part = record { offset = early.1; bytes = [] } ∷ [] in
    (r ++ early.0, early.1, early.2, early.3 ∙ ap (λ (ps : List Part). ps ++ (early.0 ++ last)) is ∙ append_assoc p r (early.0 ++ last) ∙ ap (λ (ps : List Part). p ++ ps) (sym (append_assoc r early.0 last)))

module _ (len : ℕ) (h : Headers) (begin : List ℕ) (begins : BeginAll len h begin) (lies : LiesInEach len h begin) where
  -- one of these files
  abbrev pub some_file : List ℕ
  some_file = begin ++ replicate (len - 4096) 0

  pub some_fits : BeginsWith len begin some_file
  some_fits =
      let size = begins.size in
      let within = begins.within in
      let rest : length (replicate {A = ℕ} (len - 4096) 0) ≡ len - 4096 = length-replicate (len - 4096) 0 in
      let all = length-append begin (replicate (len - 4096) 0) in
      (omega (arith, all, size, rest, within), λ k lt. ap (get_at some_file) (omega arith) ∙ get_or_append_left begin (replicate (len - 4096) 0) 0 k lt)

  pub some_lies : LieInOrder h some_file
  some_lies = lies some_file some_fits

  -- the bytes of the headers
  pub header_bytes : (file : List ℕ) → BeginsWith len begin file → take h.size_of_headers begin ≡ plain_bytes h file 0 h.size_of_headers
  header_bytes file fits =
      let size = begins.size in
      let within = begins.within in
      let is = fits.0 in
      let covers = begins.covers in
      ap (take h.size_of_headers) (is_part file 0 begin (λ some. omega (arith, size, within, is)) fits.1)
      ∙ ap (λ (n : ℕ). take h.size_of_headers (take n file)) size
      ∙ take-take h.size_of_headers 4096 file covers
      ∙ sym (headers_are h file (lies file fits))

  -- a section's raw data is in each of these files
  held_at : (i : ℕ) (s : SectionHeader) → slice_get h.sections.items i ≡ Some s → (file : List ℕ) → BeginsWith len begin file → IsHeld (length file) s
  held_at i s at file fits = subst (IsHeld (length file)) (get_or_from_slice_get h.sections.items i s s at) ((lies file fits).held i s (slice_get_within h.sections.items i s at))

  pub held_within : (i : ℕ) (s : SectionHeader) → slice_get h.sections.items i ≡ Some s → 0 < rawlen s → s.pointer_to_raw_data + rawlen s ≤ len
  held_within i s at some = let fits = held_at i s at some_file some_fits some in let size = some_fits.0 in omega (arith, fits, size)

  -- up to an equal place
  pub reaches : (p p' : List Part) (t t' : List ℕ) (result : Result Bool ToolError) (m m' : ℕ) → m ≡ m' → Moves p p' t t' (WritesOf (BeginsWith len begin) (λ file. plain_bytes h file 0 m) result)
      → Moves p p' t t' (WritesOf (BeginsWith len begin) (λ file. plain_bytes h file 0 m') result)
  reaches p p' t t' result m m' is moves = subst (λ (k : ℕ). Moves p p' t t' (WritesOf (BeginsWith len begin) (λ file. plain_bytes h file 0 k) result)) is moves

  -- only a beginning of the bytes up to a place is one of the image
  module _ (p p' : List Part) (t t' : List ℕ) (m : ℕ) (inside : m ≤ h.size_of_image) where
    whole_of : (file : List ℕ) → plain_bytes h file 0 m ++ plain_bytes h file m (h.size_of_image - m) ≡ plain_bytes h file 0 h.size_of_image
    whole_of file = sym (more_bytes h file m (h.size_of_image - m)) ∙ ap (plain_bytes h file 0) (omega (arith, inside))

    pub cut : (error : ToolError) → Moves p p' t t' (WritesOf (BeginsWith len begin) (λ file. plain_bytes h file 0 m) (Err error))
        → Moves p p' t t' (WritesOf (BeginsWith len begin) (λ file. plain_bytes h file 0 h.size_of_image) (Err error))
    cut error moves =
        retold (BeginsWith len begin) (BeginsWith len begin) (λ file. plain_bytes h file 0 m ++ plain_bytes h file m (h.size_of_image - m)) (λ file. plain_bytes h file 0 h.size_of_image)
        (λ file fits. fits) (λ file fits. whole_of file) p p' t t' (Err error)
        (stops (BeginsWith len begin) (λ file. plain_bytes h file 0 m) (λ file. plain_bytes h file m (h.size_of_image - m)) p p' t t' error moves)

    pub cut_early : Moves p p' t t' (WritesOf (BeginsWith len begin) (λ file. plain_bytes h file 0 m) (Ok false))
        → Moves p p' t t' (WritesOf (BeginsWith len begin) (λ file. plain_bytes h file 0 h.size_of_image) (Ok false))
    cut_early moves =
        retold (BeginsWith len begin) (BeginsWith len begin) (λ file. plain_bytes h file 0 m ++ plain_bytes h file m (h.size_of_image - m)) (λ file. plain_bytes h file 0 h.size_of_image)
        (λ file fits. fits) (λ file fits. whole_of file) p p' t t' (Ok false)
        (ends (BeginsWith len begin) (λ file. plain_bytes h file 0 m) (λ file. plain_bytes h file m (h.size_of_image - m)) p p' t t' moves)

  module _ (p p' : List Part) (t t' : List ℕ) (r : ℕ) (so_far : Moves p p' t t' (WritesOf (BeginsWith len begin) (λ file. plain_bytes h file 0 r) (Ok true))) where
    -- bytes of the image behind those, by the result
    then_bytes : (n : ℕ) (p'' : List Part) (t'' : List ℕ) (result : Result Bool ToolError)
        → Moves p' p'' t' t'' (WritesOf (BeginsWith len begin) (λ file. plain_bytes h file r n) result)
        → Moves p p'' t t'' (WritesOf (BeginsWith len begin) (λ file. plain_bytes h file 0 (r + n)) result)
    then_bytes n p'' t'' result moves =
        retold (BeginsWith len begin) (BeginsWith len begin) (λ file. plain_bytes h file 0 r ++ plain_bytes h file r n) (λ file. plain_bytes h file 0 (r + n))
        (λ file fits. fits) (λ file fits. sym (more_bytes h file r n)) p p'' t t'' result
        (then_moves (BeginsWith len begin) (λ file. plain_bytes h file 0 r) (λ file. plain_bytes h file r n) p p' t t' p'' t'' result so_far moves)

    module _ (i : ℕ) (between : (file : List ℕ) → BeginsWith len begin file → IsBetween h file i r) where
      -- a section more
      pub section_moves : (s : SectionHeader) → slice_get h.sections.items i ≡ Some s → (p'' : List Part) (t'' : List ℕ) (result : Result Bool ToolError)
          → Moves p' p'' t' t'' (WritesOf (λ file. IsHeld (length file) s) (λ file. replicate (s.virtual_address - r) 0 ++ part file s.pointer_to_raw_data (rawlen s)) result)
          → Moves p p'' t t'' (WritesOf (BeginsWith len begin) (λ file. plain_bytes h file 0 (r + (s.virtual_address - r + rawlen s))) result)
      section_moves s at p'' t'' result moves =
          then_bytes (s.virtual_address - r + rawlen s) p'' t'' result
          (retold (λ file. IsHeld (length file) s) (BeginsWith len begin)
          (λ file. replicate (s.virtual_address - r) 0 ++ part file s.pointer_to_raw_data (rawlen s)) (λ file. plain_bytes h file r (s.virtual_address - r + rawlen s))
          (held_at i s at) (λ file fits. sym (section_bytes h file (lies file fits) i r s at (between file fits))) p' p'' t' t'' result moves)

      pub begins_at : (s : SectionHeader) → slice_get h.sections.items i ≡ Some s → r ≤ s.virtual_address
      begins_at s at = section_after h some_file some_lies i r s at (between some_file some_fits)

      pub next_at : (s : SectionHeader) → slice_get h.sections.items i ≡ Some s → (file : List ℕ) → BeginsWith len begin file → IsBetween h file (i + 1) (s.virtual_address + rawlen s)
      next_at s at file fits = at_next h file (lies file fits) i r s at (between file fits)

    -- the zero bytes behind all sections
    module _ (between : (file : List ℕ) → BeginsWith len begin file → IsBetween h file (length h.sections.items) r) where
      pub inside : r ≤ h.size_of_image
      inside = (between some_file some_fits).inside

      to_end : r + (h.size_of_image - r) ≡ h.size_of_image
      to_end = let le = inside in omega (arith, le)

      pub finished : (t'' : List ℕ) → t'' ≡ t' ++ replicate (h.size_of_image - r) 0 → Moves p p' t t'' (WritesOf (BeginsWith len begin) (λ file. plain_bytes h file 0 h.size_of_image) (Ok true))
      finished t'' is =
          reaches p p' t t'' (Ok true) _ _ to_end
          (then_bytes (h.size_of_image - r) p' t'' (Ok true)
          ([], replicate (h.size_of_image - r) 0, sym (append-nil p'), is, λ file fits has. sym (last_bytes h file r (between file fits))))

      pub failed : (t'' : List ℕ) (error : ToolError) (k : ℕ) → t'' ≡ t' ++ take k (replicate (h.size_of_image - r) 0)
          → Moves p p' t t'' (WritesOf (BeginsWith len begin) (λ file. plain_bytes h file 0 h.size_of_image) (Err error))
      failed t'' error k is =
          let zeros : List ℕ = replicate (h.size_of_image - r) 0 in
          reaches p p' t t'' (Err error) _ _ to_end
          (then_bytes (h.size_of_image - r) p' t'' (Err error)
          ([], take k zeros, sym (append-nil p'), is, λ file fits has. subst (IsBeginning (take k zeros)) (sym (last_bytes h file r (between file fits))) (begins_take k zeros)))
