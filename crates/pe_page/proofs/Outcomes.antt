-- The outcomes of files that look alike, and of those that their first bytes refuse.
use Rattle.std.proofs.Common.{◌≡◌, ℕ, List, Some, ◌∙◌}
use Rattle.std.specs.Prelude.{Option, None, IfSome}
use Rattle.pe_view.specs.declared.fault.Fault.{Fault}
use Rattle.pe_view.specs.Faults.{Test, first_standing}
use Rattle.pe_image.specs.ImageTests.{image_tests}
use Rattle.pe_text.specs.declared.outcome.Outcome.{Outcome}
use Rattle.pe_text.specs.declared.outcome.Outcome.TheVariants.{Done, Refused}
use Rattle.pe_text.specs.Outcome.{IsOutcomeOf}
use Rattle.pe_reach.specs.Reach.{Begins, Refuse, SameAnswers}
use Rattle.pe_reach.specs.Sized.{RefusesBy}
use Rattle.pe_reach.specs.Views.{FollowsLooks, RefuseView}
use Rattle.pe_page.specs.Judged.{file_tests, IsJudged, IsImageJudged}

-- the outcome of tests with the same first fault
outcome_follows : (ts us : List Test) → first_standing ts ≡ first_standing us → (outcome : Outcome) → IsOutcomeOf us outcome → IsOutcomeOf ts outcome
outcome_follows ts us same Done is = same ∙ is
outcome_follows ts us same (Refused fault) is = same ∙ is

-- early faults
pub place_refused : (len : ℕ) (begin : List ℕ) (fault : Option Fault) → IfSome fault (λ fault. Refuse len begin fault) → IfSome fault (λ fault. (file : List ℕ) → Begins begin len file → RefusesBy (IsImageJudged file) fault)
place_refused len begin None refuse = tt
place_refused len begin (Some fault) refuse = λ file b text. refuse file b

pub page_refused : (len : ℕ) (begin : List ℕ) (fault : Option Fault) → IfSome fault (λ fault. RefuseView len begin fault) → IfSome fault (λ fault. (file : List ℕ) → Begins begin len file → RefusesBy (IsJudged file) fault)
page_refused len begin None refuse = tt
page_refused len begin (Some fault) refuse = λ file b text. refuse file b

module _ (first : (number : ℕ) (f g : List ℕ) → SameAnswers f g → first_standing (image_tests number f) ≡ first_standing (image_tests number g)) where
  pub place_follows : FollowsLooks IsImageJudged
  place_follows f g look outcome text is = outcome_follows (image_tests 0 f) (image_tests 0 g) (first 0 f g look.answers) outcome is

  -- a file that begins with `MZ` is tested as an image
  pub page_follows : FollowsLooks IsJudged
  page_follows f g look outcome text is =
      let tests : first_standing (file_tests f) ≡ first_standing (file_tests g) = rw (look.kind_f, look.kind_g) (first 0 f g look.answers) in
      outcome_follows (file_tests f) (file_tests g) tests outcome is
