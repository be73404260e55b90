-- How a file is read, piece by piece.
use Rattle.std.specs.Prelude.{ℕ, ◌≡◌, ◌+◌, ◌≤◌, Bool, true, false, List, ◌++◌, length, take, Result, MatchResult}
use Rattle.pe_text.specs.declared.outcome.ToolError.{ToolError}
use Rattle.pe_text.specs.Engine.{FailsAfter}

-- Where reading stopped: at the source's end, which was seen, or at the limit.
abbrev pub EndsAt : ℕ → Bool → Bool → ℕ → Type 0
EndsAt limit true ended len = ended ≡ true
EndsAt limit false ended len = len ≡ limit

-- What one read did, by its result: a piece is after the bytes so far, and if it is empty the source's end was seen; or the read
-- failed.
abbrev pub ReadsPiece : ℕ → List ℕ → List ℕ → Bool → ℕ → ℕ → List ℕ → List ℕ → Result ℕ ToolError → Type 0
ReadsPiece limit given given' ended count count' so_far bytes result = (piece : List ℕ) × (given' ≡ given ++ piece)
    × (length (so_far ++ piece) ≤ limit) × MatchResult result
    (λ n. (length piece ≡ n) × (take (length so_far + n) bytes ≡ so_far ++ piece) × (n ≡ 0 → ended ≡ true) × (count' ≡ count))
    (FailsAfter (so_far ++ piece) count count')
