-- What is told of a set is told of the space that it is opened as.
use Rattle.std.proofs.Common.{◌≡◌, ◌∙◌, ℕ, ◌<◌, ◌≤◌, ◌^◌, List, length, map, refl, sym, ap, subst, arith, None, Some, Result, Ok, Err}
use Rattle.std.specs.Prelude.{All, Option, IfOk}
use Rattle.std.proofs.lemmas.List.{length-map}
use Rattle.pe_set.specs.DelayedErrors.{delayed_error}
use Rattle.pe_set.specs.DelayedImports.{with_delayed}
use Rattle.pe_set.specs.Set as sets
use Rattle.pe_set.specs.Set.{Entry, Module, modules_of}
use Rattle.pe_set.specs.SetErrors.{SetAnswers, set_error}
use Rattle.pe_set.specs.SetView.{entry_view, entries_of}
use Rattle.pe_set.specs.Sound.{IsSound}
use Rattle.pe_set.specs.declared.binding.Binding.{Binding}
use Rattle.pe_set.specs.declared.entry.Policy.{Policy}
use Rattle.pe_set.specs.declared.entry.SetEntry.{SetEntry}
use Rattle.pe_set.specs.declared.error.MapError.{MapError}
use Rattle.pe_set.specs.declared.error.MapError.TheVariants as errors
use Rattle.pe_space.specs.Content.{Content, byte_at, placement_of}
use Rattle.pe_space.specs.SetContent.{content_of, defined_byte}
use Rattle.pe_space.specs.SpaceOf.{IsDelayedSpaceOf, IsSpaceOf}
use Rattle.pe_space.proofs.Images.{modules_count}
use Rattle.pe_space_file.proofs.Placed.{placements_kept, bindings_kept, placed_kept}
use Rattle.pe_text.specs.Text.{numbered}
use Rattle.pe_text.specs.declared.outcome.Outcome.{Outcome}
use Rattle.pe_text.specs.declared.outcome.Outcome.TheVariants.{Done, Refused}
use Rattle.pe_map_lines.specs.MapReport.{export_address, image_line, map_text, told_line, window_fault, IsMapText, IsReportText}
use Rattle.pe_map_lines.specs.SpaceReport.{space_fault, space_text, IsAnswerText, IsSpaceReport, IsTellable}
use Rattle.pe_map_lines.proofs.Mapped.{exports_low, images_told, same_lines}

-- the lines of entries, by where these images are, are those of the images
abbrev pub AreToldAs : List SetEntry → List Module → Type 0
AreToldAs set s =
    numbered (λ (number : ℕ) (e : SetEntry). told_line (map sets.placement_of s) number (entry_view e)) 0 set
    ≡ numbered (λ (number : ℕ) (m : Module). image_line number m.name m.base m.image.size) 0 s

module _ (set : List SetEntry) (s : List Module) where
  -- the space of sound images can be told
  pub tellable : length s ≡ length set → IsSound s → IsTellable set (content_of s)
  tellable count sound =
      let few = sound.few in
      record {
        few = omega (arith, few, count);
        apart = placed_kept s sound;
        room = rw (placements_kept s, bindings_kept s) (exports_low s sound);
      }

  -- its report is that of the images
  pub same_text : AreToldAs set s → ((a : ℕ) → byte_at (content_of s) a ≡ defined_byte s a) → (window : Option (ℕ × ℕ)) → space_text set (content_of s) window ≡ map_text s window
  unfolding space_text map_text
  same_text told bytes window = rw (same_lines (byte_at (content_of s)) (defined_byte s) window bytes, placements_kept s, bindings_kept s, told) refl

  same_fault : (window : Option (ℕ × ℕ)) → space_fault (content_of s) window ≡ window_fault s window
  same_fault None = refl
  same_fault (Some w) = refl

  -- what is told of the space, or of the error that refused the set, is told of the set
  pub answered : (error : Option MapError) (window : Option (ℕ × ℕ)) (answer : Result Content MapError) (outcome : Outcome) (text : List ℕ)
      → (error ≡ None → space_text set (content_of s) window ≡ map_text s window) → SetAnswers error (λ (c : Content). c ≡ content_of s) answer
      → IsAnswerText set window answer outcome text → IsReportText error s window outcome text
  answered error window (Ok c) Done text same answers told =
      let here = subst (λ (k : Content). IsSpaceReport set k window Done text) answers.1 told in
      (answers.0, sym (same_fault window) ∙ here.0, here.1 ∙ same answers.0)
  answered error window (Ok c) (Refused fault) text same answers told =
      let here = subst (λ (k : Content). IsSpaceReport set k window (Refused fault) text) answers.1 told in
      rw answers.0 (sym (same_fault window) ∙ here.0, here.1)
  answered error window (Err errors.Memory) outcome text same answers told = absurd told
  answered error window (Err (errors.Fault own)) outcome text same answers told = rw (told.0, answers) (refl, told.1)
  answered error window (Err (errors.Cycle own size)) outcome text same answers told = rw (told.0, answers) (refl, told.1)

-- ---- of any set
pub set_answers : {X : Type 0} (error : Option MapError) (P Q : X → Type 0) (result : Result X MapError) → (error ≡ None → (x : X) → P x → Q x) → SetAnswers error P result → SetAnswers error Q result
set_answers error P Q (Ok x) each answers = (answers.0, each answers.0 x answers.1)
set_answers error P Q (Err e) each answers = answers

pub if_answered : {X : Type 0} (error : Option MapError) (P : X → Type 0) (result : Result X MapError) → SetAnswers error (λ x. (error ≡ None) → P x) result → IfOk result P
if_answered error P (Ok x) answers = answers.1 answers.0
if_answered error P (Err e) answers = tt

pub if_each : {V E : Type 0} (result : Result V E) (P Q : V → Type 0) → ((v : V) → P v → Q v) → IfOk result P → IfOk result Q
if_each (Ok v) P Q each is = each v is
if_each (Err e) P Q each is = tt

pub count_of : (set : List SetEntry) → length (modules_of (entries_of set)) ≡ length set
count_of set = modules_count (entries_of set) ∙ length-map set entry_view

pub has_content : (policy : Policy) (es : List Entry) (answer : Result Content MapError) → SetAnswers (set_error policy es) (IsSpaceOf policy es) answer
    → SetAnswers (set_error policy es) (λ (c : Content). c ≡ content_of (modules_of es)) answer
has_content policy es answer exact = set_answers (set_error policy es) (IsSpaceOf policy es) (λ (c : Content). c ≡ content_of (modules_of es)) answer (λ none c is. is.content) exact

pub has_delayed_content : (policy : Policy) (es : List Entry) (answer : Result Content MapError) → SetAnswers (delayed_error policy es) (IsDelayedSpaceOf policy es) answer
    → SetAnswers (delayed_error policy es) (λ (c : Content). c ≡ content_of (with_delayed (modules_of es))) answer
has_delayed_content policy es answer exact =
    set_answers (delayed_error policy es) (IsDelayedSpaceOf policy es) (λ (c : Content). c ≡ content_of (with_delayed (modules_of es))) answer (λ none c is. is.content) exact

-- of a set that is opened as the space of these images, unless it has an error
module _ (set : List SetEntry) (error : Option MapError) (s : List Module) (answer : Result Content MapError) (exact : SetAnswers error (λ (c : Content). c ≡ content_of s) answer) where
  pub opened_tellable : length s ≡ length set → (error ≡ None → IsSound s) → IfOk answer (IsTellable set)
  opened_tellable count sound =
      if_answered error (IsTellable set) answer
      (set_answers error (λ (c : Content). c ≡ content_of s) (λ (c : Content). error ≡ None → IsTellable set c) answer
      (λ none c is. λ again. subst (λ (k : Content). IsTellable set k) (sym is) (tellable set s count (sound none))) exact)

  pub opened_reported : {E : Type 0} (window : Option (ℕ × ℕ)) (result : Result Outcome E) (Added : List ℕ → Type 0)
      → AreToldAs set s → (error ≡ None → (a : ℕ) → byte_at (content_of s) a ≡ defined_byte s a)
      → IfOk result (λ (outcome : Outcome). (added : List ℕ) × IsAnswerText set window answer outcome added × Added added)
      → IfOk result (λ (outcome : Outcome). (added : List ℕ) × IsReportText error s window outcome added × Added added)
  opened_reported window result Added lines bytes =
      if_each result
      (λ (outcome : Outcome). (added : List ℕ) × IsAnswerText set window answer outcome added × Added added)
      (λ (outcome : Outcome). (added : List ℕ) × IsReportText error s window outcome added × Added added)
      (λ outcome told. (told.0, answered set s error window answer outcome told.0 (λ none. same_text set s lines (bytes none) window) exact told.1, told.2))
