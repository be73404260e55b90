-- What an engine reads and writes.
use Rattle.std.specs.Prelude.{ℕ, ◌≡◌, ◌<◌, ◌≤◌, ◌+◌, ◌^◌, ◌⊎◌, Bool, true, List, [], ◌++◌, length, None, Some, Result, Ok, Err, MatchResult, IsErrOf}
use Rattle.pe_view.specs.declared.fault.Fault.{Fault}
use Rattle.pe_view.specs.Faults.{Test, first_standing}
use Rattle.pe_text.specs.declared.outcome.Outcome.{Outcome}
use Rattle.pe_text.specs.declared.outcome.Outcome.TheVariants.{Done, Refused}
use Rattle.pe_text.specs.declared.outcome.ToolError.{ToolError}
use Rattle.pe_text.specs.declared.outcome.ToolError.TheVariants.{Read, Write, Memory}
use Rattle.pe_text.specs.FaultLine.{fault_line}
use Rattle.pe_text.specs.TextWriter.{IsBeginning}

-- the text of a file, and whether it is refused: its lines if it has no fault, else the line of the first
abbrev pub IsFileText : (List ℕ → List Test) → (List ℕ → List ℕ) → List ℕ → Outcome → List ℕ → Type 0
IsFileText tests lines file Done text = (first_standing (tests file) ≡ None) × (text ≡ lines file)
IsFileText tests lines file (Refused fault) text = (first_standing (tests file) ≡ Some fault) × (text ≡ fault_line fault)

-- the outcome and the text of a file that is refused by a fault
abbrev pub IsRefusal : Fault → Outcome → List ℕ → Type 0
IsRefusal fault outcome text = (outcome ≡ Refused fault) × (text ≡ fault_line fault)

-- the source's end was seen, or one byte more was read than any file may have
abbrev pub IsWhole : Bool → List ℕ → Type 0
IsWhole ended input = (ended ≡ true) ⊎ (length input ≡ 2 ^ 32 + 1)

-- why reading failed, after the bytes that were read
abbrev pub FailsAfter : List ℕ → ℕ → ℕ → ToolError → Type 0
FailsAfter input count count' Read = count' ≡ count + 1
FailsAfter input count count' Write = ⊥
FailsAfter input count count' Memory = (0 < length input) × (count' ≡ count)

-- what was read, by the result: all of it is returned, or reading failed
abbrev pub Collects : {V : Type 0} → (V → List ℕ) → Bool → ℕ → ℕ → Result V ToolError → List ℕ → Type 0
Collects items ended count count' result input = MatchResult result
    (λ bytes. (items bytes ≡ input) × IsWhole ended input × (count' ≡ count))
    (FailsAfter input count count')

-- the beginning of the text of some outcome
abbrev pub BeginsText : (Outcome → List ℕ → Type 0) → List ℕ → Type 0
BeginsText IsText written = (outcome : Outcome) × ((text : List ℕ) × IsText outcome text × IsBeginning written text)

-- why a text was not written, where `count` failures became `count'`: a write failed, or memory ran out before the first
abbrev pub FailsToPut : (Outcome → List ℕ → Type 0) → List ℕ → ℕ → ℕ → ToolError → Type 0
FailsToPut IsText written count count' Read = ⊥
FailsToPut IsText written count count' Write = (count' ≡ count + 1) × BeginsText IsText written
FailsToPut IsText written count count' Memory = (count' ≡ count) × (written ≡ [])

-- what was written after the sink's earlier bytes, by the result
abbrev pub Puts : (Outcome → List ℕ → Type 0) → List ℕ → List ℕ → ℕ → ℕ → Result Outcome ToolError → Type 0
Puts IsText before now count count' result = (written : List ℕ) × (now ≡ before ++ written) × MatchResult result
    (λ outcome. IsText outcome written × (count' ≡ count))
    (FailsToPut IsText written count count')

-- what was written of the text, by the engine's result
abbrev pub Written : (Outcome → List ℕ → Type 0) → Result Outcome ToolError → List ℕ → Type 0
Written IsText (Ok outcome) written = IsText outcome written
Written IsText (Err Read) written = written ≡ []
Written IsText (Err Write) written = BeginsText IsText written
Written IsText (Err Memory) written = written ≡ []

-- the fact, if the engine checked the file: it returned an outcome, or failed to write
abbrev pub OnJudged : Result Outcome ToolError → Type 0 → Type 0
OnJudged (Ok outcome) P = P
OnJudged (Err Read) P = Unit {0}
OnJudged (Err Write) P = P
OnJudged (Err Memory) P = Unit {0}

-- What an engine read and wrote, where IsText defines the text and the outcome of a file.
pub record Ran (IsText : List ℕ → Outcome → List ℕ → Type 0) (given given' taken taken' : List ℕ) (ended : Bool) (result : Result Outcome ToolError) : Type 0 where
  pub input : List ℕ
  pub written : List ℕ
  pub reads : given' ≡ given ++ input
  pub writes : taken' ≡ taken ++ written
  pub text : Written (IsText input) result written
  pub limit : length input ≤ 2 ^ 32 + 1
  pub whole : OnJudged result (IsWhole ended input)
  pub memory : IsErrOf result Memory → 0 < length input
