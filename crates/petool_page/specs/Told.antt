-- What a call tells: a status, and the text at the beginning of a caller's room.
use Rattle.std.specs.Prelude.{ℕ, ◌≡◌, List, [], take, Result}
use Rattle.pe_text.specs.declared.outcome.Outcome.{Outcome}
use Rattle.pe_text.specs.declared.outcome.ToolError.{ToolError}
use Rattle.pe_text.specs.Engine.{Puts}
use Rattle.pe_text.specs.Outcome.{status_of}

-- the first `len` bytes of the room are what an engine put into an empty sink, and the status is its answer: the text of the
-- outcome for 0 and 1, the beginning of one for 3, and nothing for 4
abbrev pub IsTold : (Outcome → List ℕ → Type 0) → List ℕ → ℕ → ℕ → Type 0
IsTold IsText room len status =
    (answer : Result Outcome ToolError) × ((failures : ℕ) × ((status ≡ status_of answer) × Puts IsText [] (take len room) 0 failures answer))
