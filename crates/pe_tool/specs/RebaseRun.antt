-- What `rebase` reads and writes: the file for another base goes to one output, and then a line to another.
use Rattle.std.specs.Prelude.{◌≡◌, ◌+◌, ◌<◌, ◌≤◌, ◌^◌, ◌⊎◌, ℕ, Bool, List, [], ◌∷◌, ◌++◌, codes, length, None, Some, Result, Ok, Err, IsErrOf}
use Rattle.pe_view.specs.declared.fault.Fault.{Fault}
use Rattle.pe_view.specs.Faults.{first_standing}
use Rattle.pe_write.specs.Summed.{rebased_as}
use Rattle.pe_write.specs.RebaseFaults.{rebase_tests}
use Rattle.pe_text.specs.declared.outcome.Outcome.{Outcome}
use Rattle.pe_text.specs.declared.outcome.Outcome.TheVariants.{Done, Refused}
use Rattle.pe_text.specs.declared.outcome.ToolError.{ToolError}
use Rattle.pe_text.specs.declared.outcome.ToolError.TheVariants.{Read, Write, Memory}
use Rattle.pe_text.specs.Engine.{IsWhole, OnJudged}
use Rattle.pe_text.specs.FaultLine.{fault_line}
use Rattle.pe_text.specs.Part.{joined}
use Rattle.pe_text.specs.Text.{hex}
use Rattle.pe_text.specs.TextWriter.{IsBeginning}

-- the line of a rebased file
unfoldable pub rebased_line : ℕ → List ℕ
rebased_line base = joined (codes "rebased 0x" ∷ hex 16 base ∷ codes "\n" ∷ [])

-- the outcome of a file: refused by its first fault, if it has one
abbrev pub IsOutcome : List ℕ → ℕ → Outcome → Type 0
IsOutcome file base Done = first_standing (rebase_tests file base) ≡ None
IsOutcome file base (Refused fault) = first_standing (rebase_tests file base) ≡ Some fault

-- the bytes for the one output, with the CheckSum of the new file if it is asked for, and for the other
abbrev pub outcome_bytes : Bool → List ℕ → ℕ → Outcome → List ℕ
outcome_bytes check_sum file base Done = rebased_as check_sum file base
outcome_bytes check_sum file base (Refused fault) = []

abbrev pub outcome_line : ℕ → Outcome → List ℕ
outcome_line base Done = rebased_line base
outcome_line base (Refused fault) = fault_line fault

-- an output: the bytes that it had taken and the failures that it had counted, before and now
pub record Output : Type 0 where
  pub taken : List ℕ
  pub taken' : List ℕ
  pub count : ℕ
  pub count' : ℕ

-- the output got these bytes, and no call failed
abbrev pub Gets : Output → List ℕ → Type 0
Gets o piece = (o.taken' ≡ o.taken ++ piece) × (o.count' ≡ o.count)

-- the output got a beginning of these bytes, and one call failed
abbrev pub GetsPart : Output → List ℕ → Type 0
GetsPart o piece = (part : List ℕ) × (o.taken' ≡ o.taken ++ part) × IsBeginning part piece × (o.count' ≡ o.count + 1)

-- a write of the new file failed, and the line was not begun; or a write of the line failed, after `out` got its bytes
abbrev pub StopsShort : Bool → List ℕ → ℕ → Output → Output → Type 0
StopsShort check_sum file base out writer =
    ((first_standing (rebase_tests file base) ≡ None) × GetsPart out (rebased_as check_sum file base) × Gets writer [])
    ⊎ ((outcome : Outcome) × IsOutcome file base outcome × Gets out (outcome_bytes check_sum file base outcome) × GetsPart writer (outcome_line base outcome))

-- what both outputs got, by the result of the engine
abbrev pub WritesBoth : Bool → List ℕ → ℕ → Output → Output → Result Outcome ToolError → Type 0
WritesBoth check_sum file base out writer (Ok outcome) = IsOutcome file base outcome × Gets out (outcome_bytes check_sum file base outcome) × Gets writer (outcome_line base outcome)
WritesBoth check_sum file base out writer (Err Read) = Gets out [] × Gets writer []
WritesBoth check_sum file base out writer (Err Write) = StopsShort check_sum file base out writer
WritesBoth check_sum file base out writer (Err Memory) = Gets out [] × Gets writer []

-- what `rebase` reads and writes
pub record RebaseRan (check_sum : Bool) (base : ℕ) (given given' : List ℕ) (out writer : Output) (ended : Bool) (result : Result Outcome ToolError) : Type 0 where
  pub input : List ℕ
  pub reads : given' ≡ given ++ input
  pub writes : WritesBoth check_sum input base out writer result
  pub limit : length input ≤ 2 ^ 32 + 1
  pub whole : OnJudged result (IsWhole ended input)
  pub memory : IsErrOf result Memory → 0 < length input

-- the line of an outcome was written, by the result
abbrev pub PutsLine : ℕ → Outcome → Output → Result Outcome ToolError → Type 0
PutsLine base outcome writer (Ok told) = (told ≡ outcome) × Gets writer (outcome_line base outcome)
PutsLine base outcome writer (Err Read) = ⊥
PutsLine base outcome writer (Err Write) = GetsPart writer (outcome_line base outcome)
PutsLine base outcome writer (Err Memory) = ⊥

-- a file of a length is refused by its first fault, without a byte of it; its line is written, and nothing to `out`
pub record RefusesSize (base len : ℕ) (given given' : List ℕ) (out writer : Output) (result : Result Outcome ToolError) : Type 0 where
  pub fault : Fault
  pub refused : (file : List ℕ) → length file ≡ len → first_standing (rebase_tests file base) ≡ Some fault
  pub reads : given' ≡ given
  pub unwritten : Gets out []
  pub line : PutsLine base (Refused fault) writer result
