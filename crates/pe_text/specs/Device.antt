-- What one call of a source or a sink does.
use Rattle.std.specs.Prelude.{ℕ, ◌≡◌, ◌+◌, Bool, false, ◌&&◌, nat_lt, ◌==◌, Result, Ok, Err, MatchResult, List, ◌++◌, take}
use Rattle.pe_text.specs.declared.device.Failed.{Failed}

-- a call fails exactly if the count rises, by one
abbrev pub Counts : {T : Type 0} → ℕ → ℕ → Result T Failed → Type 0
Counts before now result = MatchResult result (λ _. now ≡ before) (λ _. now ≡ before + 1)

-- the list grows by as many of these bytes as the call returns, and stays as it is if the call fails
abbrev pub GrowsBy : List ℕ → List ℕ → Result ℕ Failed → List ℕ → Type 0
GrowsBy before now result bytes = MatchResult result (λ count. now ≡ before ++ take count bytes) (λ _. now ≡ before)

-- the call returned 0 for a non-empty buffer
abbrev pub sees_end : Result ℕ Failed → ℕ → Bool
sees_end (Ok count) room = count == 0 && nat_lt 0 room
sees_end (Err _) room = false
