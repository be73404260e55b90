-- Bytes that were copied from a file, in the order in which they were read.
use Rattle.std.proofs.Common.{◌≡◌, ◌∙◌, ℕ, ◌+◌, ◌-◌, ◌<◌, ◌≤◌, List, [], ◌∷◌, ◌++◌, Bool, true, false, length, take, drop, Result, Ok, Err, inl, inr, refl, sym, ap, subst, append-nil, append_assoc, arith}
use Rattle.std.proofs.Math.Seq.{take-add}
use Rattle.std.proofs.lemmas.Bool.{cases_lt}
use Rattle.std.proofs.lemmas.List.{ext_get_or, drop-drop, get_or-drop, get_or-take, get_or-append-add, get_or_append_left, length-append, length-drop, length-take-le, take-append-drop}
use Rattle.std.proofs.Math.Seq.{get_or-append_seam}
use Rattle.pe_view.specs.Number.{part}
use Rattle.pe_text.specs.declared.outcome.ToolError.{ToolError}
use Rattle.pe_text.specs.declared.outcome.ToolError.TheVariants.{Read, Write, Memory}
use Rattle.pe_text.specs.TextWriter.{IsBeginning}
use Rattle.pe_reach.specs.Parts.{Part, HasPart, HasParts}
use Rattle.pe_layout_file.specs.ByParts.{Moves, WritesOf}
use Rattle.pe_layout_file.specs.Copied.{CopiesPiece}

-- ---- lists of parts
pub all_first : (file : List ℕ) (ps qs : List Part) → HasParts file (ps ++ qs) → HasParts file ps
all_first file ps qs all = λ k d lt. subst (HasPart file) (get_or_append_left ps qs d k lt) (all k d (omega (arith, length-append ps qs, lt)))

pub all_rest : (file : List ℕ) (ps qs : List Part) → HasParts file (ps ++ qs) → HasParts file qs
all_rest file ps qs all = λ k d lt. subst (HasPart file) (get_or-append-add ps qs k d) (all (length ps + k) d (omega (arith, length-append ps qs, lt)))

pub last_of : (file : List ℕ) (ps : List Part) (p : Part) → HasParts file (ps ++ p ∷ []) → HasPart file p
last_of file ps p all = subst (HasPart file) (get_or-append_seam ps p [] p) (all (length ps) p (omega (arith, length-append ps (p ∷ []))))

-- ---- parts of a file
-- bytes that the file has at an offset, inside it
pub is_part : (file : List ℕ) (offset : ℕ) (bytes : List ℕ) → (0 < length bytes → offset + length bytes ≤ length file) → HasPart file (record { offset = offset; bytes = bytes }) → bytes ≡ part file offset (length bytes)
is_part file offset bytes inside has =
    let rest = length-drop offset file in
    let fits : length bytes ≤ length (drop offset file) = elim (cases_lt 0 (length bytes)) [
      | inl some ↦ (let within = inside some in omega (arith, rest, within))
      | inr none ↦ omega (arith, none)
    ] in
    let size : length (part file offset (length bytes)) ≡ length bytes = length-take-le (length bytes) (drop offset file) fits in
    ext_get_or 0 bytes (part file offset (length bytes)) (sym size)
    (λ k lt. sym (has k lt) ∙ sym (get_or-drop offset file k 0) ∙ sym (get_or-take (length bytes) (drop offset file) k 0 lt))

pub part_more : (file : List ℕ) (offset n m : ℕ) → part file offset n ++ part file (offset + n) m ≡ part file offset (n + m)
part_more file offset n m = ap (λ (xs : List ℕ). take n (drop offset file) ++ take m xs) (sym (drop-drop n offset file)) ∙ sym (take-add n m (drop offset file))

-- a part begins a longer one
pub part_begins : (file : List ℕ) (offset n m : ℕ) → n ≤ m → IsBeginning (part file offset n) (part file offset m)
part_begins file offset n m le =
    let rest = m - n in
    let size : n + rest ≡ m = omega (arith, le) in
    (part file (offset + n) rest, ap (part file offset) (sym size) ∙ sym (part_more file offset n rest))

-- ---- beginnings
pub begins_itself : (xs : List ℕ) → IsBeginning xs xs
begins_itself xs = ([], sym (append-nil xs))

pub begins_none : (xs : List ℕ) → IsBeginning [] xs
begins_none xs = (xs, refl)

pub begins_take : (k : ℕ) (xs : List ℕ) → IsBeginning (take k xs) xs
begins_take k xs = (drop k xs, sym (take-append-drop k xs))

pub begins_on : (xs ys zs : List ℕ) → IsBeginning xs ys → IsBeginning xs (ys ++ zs)
begins_on xs ys zs begins = (begins.0 ++ zs, ap (λ (all : List ℕ). all ++ zs) begins.1 ∙ append_assoc xs begins.0 zs)

pub begins_behind : (xs ys zs : List ℕ) → IsBeginning ys zs → IsBeginning (xs ++ ys) (xs ++ zs)
begins_behind xs ys zs begins = (begins.0, ap (λ (all : List ℕ). xs ++ all) begins.1 ∙ sym (append_assoc xs ys begins.0))

pub begins_before : (xs ys zs : List ℕ) → IsBeginning xs ys → IsBeginning ys zs → IsBeginning xs zs
begins_before xs ys zs first then =
    (first.0 ++ then.0, then.1 ∙ ap (λ (all : List ℕ). all ++ then.0) first.1 ∙ append_assoc xs first.0 then.0)

-- ---- what calls have moved, one after the other
module _ (Fits : List ℕ → Type 0) (bytes more : List ℕ → List ℕ) where
  -- of what was read and written first, all of the first bytes, and of what came then, the next ones by the result
  joined : (r r' : List Part) (w w' : List ℕ) (result : Result Bool ToolError) → WritesOf Fits bytes (Ok true) r w → WritesOf Fits more result r' w'
      → WritesOf Fits (λ file. bytes file ++ more file) result (r ++ r') (w ++ w')
  joined r r' w w' (Ok true) first next = λ file fits has.
      ap (λ (xs : List ℕ). xs ++ w') (first file fits (all_first file r r' has)) ∙ ap (λ (xs : List ℕ). bytes file ++ xs) (next file fits (all_rest file r r' has))
  joined r r' w w' (Ok false) first next = λ file fits has.
      subst (λ (xs : List ℕ). IsBeginning (xs ++ w') (bytes file ++ more file)) (sym (first file fits (all_first file r r' has)))
      (begins_behind (bytes file) w' (more file) (next file fits (all_rest file r r' has)))
  joined r r' w w' (Err error) first next = λ file fits has.
      subst (λ (xs : List ℕ). IsBeginning (xs ++ w') (bytes file ++ more file)) (sym (first file fits (all_first file r r' has)))
      (begins_behind (bytes file) w' (more file) (next file fits (all_rest file r r' has)))

  -- only a beginning of the first bytes is one of both
  stopped : (r : List Part) (w : List ℕ) (error : ToolError) → WritesOf Fits bytes (Err error) r w → WritesOf Fits (λ file. bytes file ++ more file) (Err error) r w
  stopped r w error first = λ file fits has. begins_on w (bytes file) (more file) (first file fits has)

  module _ (p p' : List Part) (t t' : List ℕ) where
    pub then_moves : (p'' : List Part) (t'' : List ℕ) (result : Result Bool ToolError) → Moves p p' t t' (WritesOf Fits bytes (Ok true)) → Moves p' p'' t' t'' (WritesOf Fits more result)
        → Moves p p'' t t'' (WritesOf Fits (λ file. bytes file ++ more file) result)
    then_moves p'' t'' result first next = (
      first.0 ++ next.0,
      first.1 ++ next.1,
      next.2 ∙ ap (λ (ps : List Part). ps ++ next.0) first.2 ∙ append_assoc p first.0 next.0,
      next.3 ∙ ap (λ (ts : List ℕ). ts ++ next.1) first.3 ∙ append_assoc t first.1 next.1,
      joined first.0 next.0 first.1 next.1 result first.4 next.4,
    )

    pub stops : (error : ToolError) → Moves p p' t t' (WritesOf Fits bytes (Err error)) → Moves p p' t t' (WritesOf Fits (λ file. bytes file ++ more file) (Err error))
    stops error first = (first.0, first.1, first.2, first.3, stopped first.0 first.1 error first.4)

    pub ends : Moves p p' t t' (WritesOf Fits bytes (Ok false)) → Moves p p' t t' (WritesOf Fits (λ file. bytes file ++ more file) (Ok false))
    ends first = (first.0, first.1, first.2, first.3, λ file fits has. begins_on first.1 (bytes file) (more file) (first.4 file fits has))

-- the same, told by other bytes of each file of another kind
module _ (Fits Fits' : List ℕ → Type 0) (bytes bytes' : List ℕ → List ℕ) (narrow : (file : List ℕ) → Fits' file → Fits file) (same : (file : List ℕ) → Fits' file → bytes file ≡ bytes' file) where
  told : (result : Result Bool ToolError) (r : List Part) (w : List ℕ) → WritesOf Fits bytes result r w → WritesOf Fits' bytes' result r w
  told (Ok true) r w writes = λ file fits has. writes file (narrow file fits) has ∙ same file fits
  told (Ok false) r w writes = λ file fits has. subst (IsBeginning w) (same file fits) (writes file (narrow file fits) has)
  told (Err error) r w writes = λ file fits has. subst (IsBeginning w) (same file fits) (writes file (narrow file fits) has)

  pub retold : (p p' : List Part) (t t' : List ℕ) (result : Result Bool ToolError) → Moves p p' t t' (WritesOf Fits bytes result) → Moves p p' t t' (WritesOf Fits' bytes' result)
  retold p p' t t' result moves = (moves.0, moves.1, moves.2, moves.3, told result moves.0 moves.1 moves.4)

-- nothing was moved
pub moves_none : (Fits : List ℕ → Type 0) (p : List Part) (t : List ℕ) → Moves p p t t (WritesOf Fits (λ file. []) (Ok true))
moves_none Fits p t = ([], [], sym (append-nil p), sym (append-nil t), λ file fits has. refl)

-- ---- a piece that was read and written behind those
abbrev pub Whole : ℕ → ℕ → List ℕ → Type 0
Whole offset count file = 0 < count → offset + count ≤ length file

module _ (offset count done : ℕ) (p p' p'' : List Part) (t t' t'' : List ℕ) (bytes : List ℕ) (so_far : Moves p p' t t' (WritesOf (Whole offset count) (λ file. part file offset done) (Ok true)))
    (reads : p'' ≡ p' ++ record { offset = offset + done; bytes = bytes } ∷ []) (fits : done + length bytes ≤ count) where
  there : (file : List ℕ) → Whole offset count file → HasParts file (record { offset = offset + done; bytes = bytes } ∷ []) → bytes ≡ part file (offset + done) (length bytes)
  there file whole has = is_part file (offset + done) bytes (λ some. let all = whole (omega (arith, some, fits)) in omega (arith, all, fits)) (last_of file [] (record { offset = offset + done; bytes = bytes }) has)

  pub piece_more : t'' ≡ t' ++ bytes → Moves p p'' t t'' (WritesOf (Whole offset count) (λ file. part file offset (done + length bytes)) (Ok true))
  piece_more writes =
      retold (Whole offset count) (Whole offset count) (λ file. part file offset done ++ part file (offset + done) (length bytes)) (λ file. part file offset (done + length bytes))
      (λ file whole. whole) (λ file whole. part_more file offset done (length bytes)) p p'' t t'' (Ok true)
      (then_moves (Whole offset count) (λ file. part file offset done) (λ file. part file (offset + done) (length bytes)) p p' t t' p'' t'' (Ok true) so_far
      (record { offset = offset + done; bytes = bytes } ∷ [], bytes, reads, writes, λ file whole has. there file whole has))

  pub piece_failed : (error : ToolError) (k : ℕ) → t'' ≡ t' ++ take k bytes → Moves p p'' t t'' (WritesOf (Whole offset count) (λ file. part file offset count) (Err error))
  piece_failed error k writes =
      let left : ℕ = count - done in
      retold (Whole offset count) (Whole offset count) (λ file. part file offset done ++ part file (offset + done) left) (λ file. part file offset count)
      (λ file whole. whole) (λ file whole. part_more file offset done left ∙ ap (part file offset) (omega (arith, fits))) p p'' t t'' (Err error)
      (then_moves (Whole offset count) (λ file. part file offset done) (λ file. part file (offset + done) left) p p' t t' p'' t'' (Err error) so_far (
        record { offset = offset + done; bytes = bytes } ∷ [],
        take k bytes,
        reads,
        writes,
        λ file whole has.
            begins_before (take k bytes) bytes (part file (offset + done) left) (begins_take k bytes)
            (subst (λ (xs : List ℕ). IsBeginning xs (part file (offset + done) left)) (sym (there file whole has)) (part_begins file (offset + done) (length bytes) left (omega (arith, fits)))),
      ))

-- no piece was read, or an empty one
module _ (offset count done : ℕ) (p p' : List Part) (t t' : List ℕ) (within : done ≤ count) (so_far : Moves p p' t t' (WritesOf (Whole offset count) (λ file. part file offset done) (Ok true))) where
  begun : (file : List ℕ) → (w : List ℕ) → w ≡ part file offset done → IsBeginning w (part file offset count)
  begun file w is = subst (λ (xs : List ℕ). IsBeginning xs (part file offset count)) (sym is) (part_begins file offset done count within)

  pub not_read : (error : ToolError) → Moves p p' t t' (WritesOf (Whole offset count) (λ file. part file offset count) (Err error))
  not_read error = (so_far.0, so_far.1, so_far.2, so_far.3, λ file whole has. begun file so_far.1 (so_far.4 file whole has))

  pub is_early : Moves p p' t t' (WritesOf (Whole offset count) (λ file. part file offset count) (Ok false))
  is_early = (so_far.0, so_far.1, so_far.2, so_far.3, λ file whole has. begun file so_far.1 (so_far.4 file whole has))

-- a piece that could not be read, or not be written whole
module _ (offset count done room : ℕ) (p p' p'' : List Part) (t t' t'' : List ℕ) (fits : done + room ≤ count) (so_far : Moves p p' t t' (WritesOf (Whole offset count) (λ file. part file offset done) (Ok true))) where
  abbrev Stops : List Part → List ℕ → ToolError → Type 0
  Stops ps ts error = Moves p ps t ts (WritesOf (Whole offset count) (λ file. part file offset count) (Err error))

  pub piece_ended : (error : ToolError) → CopiesPiece (offset + done) room p' p'' t' t'' (Err error) → Stops p'' t'' error
  piece_ended Read same =
      subst (λ (ps : List Part). Stops ps t'' Read) (sym same.0) (subst (λ (ts : List ℕ). Stops p' ts Read) (sym same.1) (not_read offset count done p p' t t' (omega (arith, fits)) so_far Read))
  piece_ended Write piece =
      let few = piece.1.0 in
      piece_failed offset count done p p' p'' t t' t'' piece.0 so_far piece.1.1 (omega (arith, few, fits)) Write piece.2 piece.3
  piece_ended Memory none = absurd none

-- ---- the same, told by equal numbers
pub counted : (offset count done n more : ℕ) (p p' : List Part) (t t' : List ℕ) → n ≡ more → Moves p p' t t' (WritesOf (Whole offset count) (λ file. part file offset (done + n)) (Ok true))
    → Moves p p' t t' (WritesOf (Whole offset count) (λ file. part file offset (done + more)) (Ok true))
counted offset count done n more p p' t t' is moves = subst (λ (k : ℕ). Moves p p' t t' (WritesOf (Whole offset count) (λ file. part file offset (done + k)) (Ok true))) is moves

pub range_counted : (offset n m : ℕ) (p p' : List Part) (t t' : List ℕ) (result : Result Bool ToolError) → n ≡ m → Moves p p' t t' (WritesOf (Whole offset n) (λ file. part file offset n) result)
    → Moves p p' t t' (WritesOf (Whole offset m) (λ file. part file offset m) result)
range_counted offset n m p p' t t' result is moves = subst (λ (k : ℕ). Moves p p' t t' (WritesOf (Whole offset k) (λ file. part file offset k) result)) is moves

pub decided : (Fits : List ℕ → Type 0) (bytes : List ℕ → List ℕ) (p p' : List Part) (t t' : List ℕ) (b b' : Bool) → b ≡ b' → Moves p p' t t' (WritesOf Fits bytes (Ok b)) → Moves p p' t t' (WritesOf Fits bytes (Ok b'))
decided Fits bytes p p' t t' b b' is moves = subst (λ (b : Bool). Moves p p' t t' (WritesOf Fits bytes (Ok b))) is moves
