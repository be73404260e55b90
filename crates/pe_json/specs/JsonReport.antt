-- What `json` returns for a file, and what it reads and writes.
use Rattle.std.specs.Prelude.{ℕ, ◌≡◌, ◌<◌, ◌≤◌, ◌+◌, ◌^◌, Bool, List, [], ◌++◌, length, Option, None, Some, Result, IfOk, IsErrOf}
use Rattle.pe_text.specs.declared.outcome.Outcome.{Outcome}
use Rattle.pe_text.specs.declared.outcome.Outcome.TheVariants.{Done, Refused}
use Rattle.pe_text.specs.declared.outcome.ToolError.{ToolError}
use Rattle.pe_text.specs.declared.outcome.ToolError.TheVariants.{Memory}
use Rattle.pe_text.specs.Engine.{OnJudged, Written}
use Rattle.pe_view.specs.declared.fault.Fault.{Fault}
use Rattle.pe_view.specs.Faults.{Test, first_standing}
use Rattle.pe_image.specs.ImageTests.{image_tests}
use Rattle.coff_read.specs.EitherObject.{form_in}
use Rattle.coff_read.specs.FormFaults.{object_tests}
use Rattle.pe_text.specs.FileKind.{tests_by_kind}
use Rattle.pe_text.specs.Outcome.{IsOutcomeOf}
use Rattle.pe_reach.specs.Sized.{IsKnown}
use Rattle.pe_reach.specs.Views.{IsViewed}
use Rattle.pe_json.specs.declared.beyond.Beyond.{Beyond}
use Rattle.pe_json.specs.FileLine.{accepted_line, file_line}
use Rattle.pe_json.specs.Refused.{refused_line}

-- the tests of a file: those of an object if its first bytes are those of one, otherwise those of an image with the number 0
abbrev pub file_tests : List ℕ → List Test
file_tests file = tests_by_kind file (object_tests (form_in file) file) (image_tests 0 file)

-- the outcome and the line of a file of a size with this name, of which these bytes were read
abbrev pub IsLine : Option Beyond → List ℕ → ℕ → List ℕ → Outcome → List ℕ → Type 0
IsLine beyond name size file outcome text = IsOutcomeOf (file_tests file) outcome × (text ≡ file_line beyond name size file outcome)

-- those of a file that was read whole
abbrev pub IsLineOf : Option Beyond → List ℕ → List ℕ → Outcome → List ℕ → Type 0
IsLineOf beyond name file = IsLine beyond name (length file) file

-- those of a file that the bytes which were read refuse by a fault: the line says nothing else of it
abbrev pub IsUnreadLine : List ℕ → ℕ → List ℕ → Fault → Outcome → List ℕ → Type 0
IsUnreadLine name size file fault outcome text = (outcome ≡ Refused fault) × (text ≡ refused_line name file size fault [])

-- those of a file, by the fault for which no more of it was read
abbrev pub IsViewLine : Option Beyond → List ℕ → ℕ → List ℕ → Option Fault → Outcome → List ℕ → Type 0
IsViewLine beyond name size file None outcome text = IsLine beyond name size file outcome text
IsViewLine beyond name size file (Some fault) outcome text = IsUnreadLine name size file fault outcome text

-- an outcome is that of a file, and so is the text if the file has no fault
abbrev pub IsTold : Option Beyond → List ℕ → Outcome → List ℕ → List ℕ → Type 0
IsTold beyond name Done text file = (first_standing (file_tests file) ≡ None) × (text ≡ accepted_line beyond name file)
IsTold beyond name (Refused fault) text file = first_standing (file_tests file) ≡ Some fault

-- What the engine read and wrote over a file of a known size. The line is that of what it read of the file, whose size it tells as
-- `told`; and if it has no fault, that of each file of the size that begins so. `refused` is the fault by which the first bytes
-- refuse the file, if no more were read because of it.
pub record RanSized (beyond : Option Beyond) (name : List ℕ) (len : ℕ) (given given' taken taken' : List ℕ) (ended : Bool) (result : Result Outcome ToolError) : Type 0 where
  pub input : List ℕ
  pub told : ℕ
  pub refused : Option Fault
  pub written : List ℕ
  pub reads : given' ≡ given ++ input
  pub writes : taken' ≡ taken ++ written
  pub text : Written (IsViewLine beyond name told input refused) result written
  pub known : IfOk result (λ outcome. IsKnown ended len input (IsTold beyond name outcome written))
  pub seen : OnJudged result (IsViewed ended len input told refused)
  pub limit : length input ≤ 2 ^ 32 + 1
  pub memory : IsErrOf result Memory → 0 < length input
