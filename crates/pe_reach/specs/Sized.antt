-- What an engine over a file of a known size reads and writes.
use Rattle.std.specs.Prelude.{ℕ, ◌≡◌, ◌<◌, ◌≤◌, ◌+◌, ◌^◌, ◌⊎◌, Bool, List, [], ◌++◌, length, Some, Result, Ok, Err, IsErrOf}
use Rattle.pe_view.specs.declared.fault.Fault.{Fault}
use Rattle.pe_view.specs.Faults.{first_standing}
use Rattle.pe_image.specs.ImageTests.{image_tests}
use Rattle.pe_text.specs.declared.outcome.Outcome.{Outcome}
use Rattle.pe_text.specs.declared.outcome.Outcome.TheVariants.{Refused}
use Rattle.pe_text.specs.declared.outcome.ToolError.{ToolError}
use Rattle.pe_text.specs.declared.outcome.ToolError.TheVariants.{Read, Write, Memory}
use Rattle.pe_text.specs.FaultLine.{fault_line}
use Rattle.pe_text.specs.Engine.{IsWhole, BeginsText}
use Rattle.pe_reach.specs.Reach.{Begins, SameAnswers}

-- the texts of files with the same answers are the same
abbrev pub Follows : (List ℕ → Outcome → List ℕ → Type 0) → Type 0
Follows IsText = (f g : List ℕ) → SameAnswers f g → (outcome : Outcome) (text : List ℕ) → IsText g outcome text → IsText f outcome text

-- the text of a file with a fault is the line of its first
abbrev pub RefusesByFaults : (List ℕ → Outcome → List ℕ → Type 0) → Type 0
RefusesByFaults IsText = (file : List ℕ) (fault : Fault) → first_standing (image_tests 0 file) ≡ Some fault → IsText file (Refused fault) (fault_line fault)

-- a file is refused by a fault, whatever its text is
abbrev pub RefusesBy : (Outcome → List ℕ → Type 0) → Fault → Type 0
RefusesBy IsText fault = (text : List ℕ) → IsText (Refused fault) text

-- what is known of a file of a length, of which some bytes were read: these are the whole file, or it holds of each file of this
-- length that begins with them
abbrev pub IsKnown : Bool → ℕ → List ℕ → (List ℕ → Type 0) → Type 0
IsKnown ended len input Holds = (IsWhole ended input × Holds input) ⊎ ((file : List ℕ) → Begins input len file → Holds file)

-- what was written of the text, by the engine's result
abbrev pub WrittenSized : (List ℕ → Outcome → List ℕ → Type 0) → Bool → ℕ → List ℕ → Result Outcome ToolError → List ℕ → Type 0
WrittenSized IsText ended len input (Ok outcome) written = IsKnown ended len input (λ file. IsText file outcome written)
WrittenSized IsText ended len input (Err Read) written = written ≡ []
WrittenSized IsText ended len input (Err Write) written = IsKnown ended len input (λ file. BeginsText (IsText file) written)
WrittenSized IsText ended len input (Err Memory) written = written ≡ []

-- What an engine over a file of a known size read and wrote, where IsText defines the text and the outcome of a file.
pub record RanSized (IsText : List ℕ → Outcome → List ℕ → Type 0) (len : ℕ) (given given' taken taken' : List ℕ) (ended : Bool) (result : Result Outcome ToolError) : Type 0 where
  pub input : List ℕ
  pub written : List ℕ
  pub reads : given' ≡ given ++ input
  pub writes : taken' ≡ taken ++ written
  pub text : WrittenSized IsText ended len input result written
  pub limit : length input ≤ 2 ^ 32 + 1
  pub memory : IsErrOf result Memory → 0 < length input
