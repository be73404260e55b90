-- Files that look alike.
use Rattle.std.proofs.Common.{◌≡◌, ℕ, ◌+◌, ◌-◌, ◌<◌, ◌≤◌, ◌^◌, Bool, true, false, List, [], ◌∷◌, ◌++◌, length, take, drop, Some, Result, Ok, Err, refl, sym, ◌∙◌, ap, subst, arith, inl, inr, length-append, append_assoc, append-nil}
use Rattle.std.specs.Prelude.{◌⊎◌, ◌&&◌, ◌==◌, codes, max, min, replicate, Option, None, MatchResult}
use Rattle.std.proofs.lemmas.List.{take-append-drop, length-replicate}
use Rattle.std.proofs.Math.Seq.{take-append_seam}
use Rattle.std.proofs.lemmas.Bool.{false≢true, cases_lt}
use Rattle.pe_view.specs.declared.fault.Fault.{Fault}
use Rattle.pe_view.specs.Faults.{Test, Answers}
use Rattle.pe_head.specs.Head.{head_of}
use Rattle.pe_text.specs.declared.file_beginning.FileKind.TheVariants.{Image}
use Rattle.pe_head.specs.declared.headers.Headers.{Headers}
use Rattle.pe_text.specs.FileKind.{begins_with, kind_of}
use Rattle.pe_reach.specs.Reach.{Begins, Decide}
use Rattle.pe_text.specs.declared.outcome.ToolError.{ToolError}
use Rattle.pe_text.specs.Engine.{FailsAfter}
use Rattle.pe_reach.specs.declared.view_reading.ViewBytes.{ViewBytes}
use Rattle.pe_reach.specs.ViewBytes.{bytes_read, size_told, refused_by}
use Rattle.pe_reach.specs.Views.{names_under, Show, IsSeen, IsViewed}
use Rattle.pe_reach.specs.Settled.{Settle, IsSettled, IsRead, Name, IsNamed}

-- ---- the first two bytes
kind_of_mark : (file : List ℕ) → begins_with file (codes "MZ") ≡ true → kind_of file ≡ Some Image
kind_of_mark file mark = rw mark refl

and_false : (b : Bool) → (b && false) ≡ false
and_false true = refl
and_false false = refl

pub mark_append : (bytes more : List ℕ) → begins_with bytes (codes "MZ") ≡ true → begins_with (bytes ++ more) (codes "MZ") ≡ true
mark_append [] more mark = absurd (false≢true mark)
mark_append (a ∷ []) more mark = absurd (false≢true (sym (and_false (77 == a)) ∙ mark))
mark_append (a ∷ b ∷ bytes) more mark = mark

mark_of : (len : ℕ) (bytes file : List ℕ) → Begins bytes len file → begins_with bytes (codes "MZ") ≡ true → begins_with file (codes "MZ") ≡ true
mark_of len bytes file b mark =
    let split : bytes ++ drop (length bytes) file ≡ file = ap (λ (l : List ℕ). l ++ drop (length bytes) file) (sym b.begins) ∙ take-append-drop (length bytes) file in
    subst (λ (l : List ℕ). begins_with l (codes "MZ") ≡ true) split (mark_append bytes (drop (length bytes) file) mark)

-- ---- what was read
-- bytes that decide the answers and the names
shown : (len : ℕ) (bytes : List ℕ) → begins_with bytes (codes "MZ") ≡ true → Decide len bytes → Name len bytes (head_of bytes) → Show len bytes
shown len bytes mark decide name = λ file b.
    let same = decide file b in
    record {
      kind_f = kind_of_mark file (mark_of len bytes file b mark);
      kind_g = kind_of_mark bytes mark;
      answers = same;
      names = ap (λ h. names_under file h) same.headers ∙ name.names file b;
    }

-- the first bytes of an image and those that follow them up to the end that decides the answers, or as many as there are
pub settled : (len : ℕ) (begin more : List ℕ) (end : ℕ) → begins_with begin (codes "MZ") ≡ true → length begin ≤ len → end ≤ len
    → ((rest : List ℕ) → end ≤ length (begin ++ rest) → length (begin ++ rest) ≤ len → Decide len (begin ++ rest))
    → length (begin ++ more) ≡ max (length begin) end → IsSettled len (begin ++ more)
settled len begin more end mark fits least decides size = inr (record {
  mark = mark_append begin more mark;
  fits = omega (arith, size, fits, least);
  decides = λ rest within.
      let same : (begin ++ more) ++ rest ≡ begin ++ (more ++ rest) = append_assoc begin more rest in
      let enough : end ≤ length ((begin ++ more) ++ rest) = omega (arith, size, length-append (begin ++ more) rest) in
      subst (λ (l : List ℕ). Decide len l) (sym same)
      (decides (more ++ rest) (subst (λ (l : List ℕ). end ≤ length l) same enough) (subst (λ (l : List ℕ). length l ≤ len) same within));
})

-- more bytes leave the headers as they are
head_grows : (len : ℕ) (first more : List ℕ) → Settle len first → length (first ++ more) ≤ len → head_of (first ++ more) ≡ head_of first
head_grows len first more settle fits =
    let rest : List ℕ = replicate (len - length (first ++ more)) 0 in
    let file : List ℕ = (first ++ more) ++ rest in
    let size : length file ≡ len = omega (arith, length-append (first ++ more) rest, length-replicate {A = ℕ} (len - length (first ++ more)) 0, fits) in
    let all : Decide len (first ++ more) = settle.decides more fits in
    let some : Decide len first = subst (λ (l : List ℕ). Decide len l) (append-nil first) (settle.decides [] (omega (arith, settle.fits, ap (λ (l : List ℕ). length l) (append-nil first)))) in
    let with_all = all file (record { size = size; begins = take-append_seam (first ++ more) rest }) in
    let with_some = some file (record { size = size; begins = ap (λ (l : List ℕ). take (length first) l) (append_assoc first more rest) ∙ take-append_seam first (more ++ rest) }) in
    sym with_all.headers ∙ with_some.headers

-- the headers of bytes, if they have no fault
abbrev pub HeadOf : List ℕ → Result Headers Fault → Type 0
HeadOf bytes (Ok h) = h ≡ head_of bytes
HeadOf bytes (Err fault) = Unit {0}

pub head_read : (tests : List Test) (bytes : List ℕ) (headers : Result Headers Fault) → Answers tests (λ (h : Headers). h ≡ head_of bytes) headers → HeadOf bytes headers
head_read tests bytes (Ok h) read = read.1
head_read tests bytes (Err fault) read = tt

-- what is known of what was read, by whether its end was seen
pub read_whole : (b ended : Bool) (len : ℕ) (bytes : List ℕ) → IsRead b ended len bytes → b ≡ true → ended ≡ true
read_whole true ended len bytes read is = read
read_whole false ended len bytes read is = absurd (false≢true is)

pub read_part : (b ended : Bool) (len : ℕ) (bytes : List ℕ) → IsRead b ended len bytes → b ≡ false → IsSettled len bytes
read_part true ended len bytes read is = absurd (false≢true (sym is))
read_part false ended len bytes read is = read

-- bytes that were read after those that decide the answers, as far as the names need it
seen_part : (len : ℕ) (first more : List ℕ) (headers : Result Headers Fault) → HeadOf first headers → IsSettled len first → length (first ++ more) < 2 ^ 32 + 1 → IsNamed len (first ++ more) headers → Show len (first ++ more)
seen_part len first more (Err fault) head settled few name = absurd (omega arith)
seen_part len first more (Ok h) head settled few (inl large) = absurd (omega arith)
seen_part len first more (Ok h) head (inl large) few (inr name) = absurd (omega (arith, large, length-append first more))
seen_part len first more (Ok h) head (inr settle) few (inr name) =
    let same : h ≡ head_of (first ++ more) = head ∙ sym (head_grows len first more settle name.fits) in
    shown len (first ++ more) (mark_append first more settle.mark) (settle.decides more name.fits) (subst (λ (k : Headers). Name len (first ++ more) k) same name)

-- the names that some bytes decide under these headers
pub named : (len : ℕ) (bytes : List ℕ) (h : Headers) (end : ℕ) → length bytes ≤ len → min end (2 ^ 32 + 1) ≤ length bytes
    → (end ≤ length bytes → (file : List ℕ) → Begins bytes len file → names_under file h ≡ names_under bytes h) → (2 ^ 32 + 1 ≤ length bytes) ⊎ Name len bytes h
named len bytes h end fits reach enough =
    elim (cases_lt (length bytes) end) [
      | inl lt ↦ inl (omega (arith, reach, lt))
      | inr le ↦ inr (record { fits = fits; names = enough le })
    ]

-- what was read when no more is wanted, and the size that is told
pub seen : (ended : Bool) (len : ℕ) (first more bytes : List ℕ) (headers : Result Headers Fault) (told : ℕ) → bytes ≡ first ++ more → HeadOf first headers → IsSettled len first → length bytes ≤ 2 ^ 32 + 1 → IsNamed len bytes headers
    → ((length bytes ≡ 2 ^ 32 + 1) × (told ≡ length bytes)) ⊎ ((length bytes ≡ 2 ^ 32 + 1 → ⊥) × (told ≡ len)) → IsSeen ended len (first ++ more) told
seen ended len first more bytes headers told is head settled few name (inl whole) =
    let size : length bytes ≡ length (first ++ more) = ap (λ (l : List ℕ). length l) is in
    inl (inr (omega (arith, size, whole.0)), omega (arith, size, whole.1))
seen ended len first more bytes headers told is head settled few name (inr part) =
    let size : length bytes ≡ length (first ++ more) = ap (λ (l : List ℕ). length l) is in
    let less : length (first ++ more) < 2 ^ 32 + 1 = omega (arith, size, few, part.0) in
    inr (seen_part len first more headers head settled less (subst (λ (l : List ℕ). IsNamed len l headers) is name), part.1)

-- two reads, one after the other
pub reads_on : (given given' given'' input more bytes : List ℕ) → given' ≡ given ++ input → given'' ≡ given' ++ more → bytes ≡ input ++ more → given'' ≡ given ++ bytes
reads_on given given' given'' input more bytes first second is =
    second ∙ ap (λ (l : List ℕ). l ++ more) first ∙ append_assoc given input more ∙ ap (λ (l : List ℕ). given ++ l) (sym is)

-- what was read of a file that no early fault refuses
pub viewed : {A : Type 0} (ended : Bool) (len : ℕ) (input : List ℕ) (count count' : ℕ) (result : Result (ViewBytes A) ToolError)
    → MatchResult result (λ seen. (bytes_read seen ≡ input) × IsSeen ended len input (size_told seen) × (count' ≡ count) × (refused_by seen ≡ None)) (FailsAfter input count count')
    → MatchResult result (λ seen. (bytes_read seen ≡ input) × IsViewed ended len input (size_told seen) (refused_by seen) × (count' ≡ count)) (FailsAfter input count count')
viewed ended len input count count' (Ok seen) read = (read.0, subst (λ (refused : Option Fault). IsViewed ended len input (size_told seen) refused) (sym read.3) read.1, read.2)
viewed ended len input count count' (Err error) read = read
