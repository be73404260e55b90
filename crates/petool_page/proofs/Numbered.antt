-- What an engine adds to numbered bytes it adds to the bytes, and it keeps the number.
use Rattle.std.proofs.Common.{◌≡◌, ℕ, List, [], ◌∷◌, Result, ap}
use Rattle.pe_text.specs.declared.outcome.Outcome.{Outcome}
use Rattle.pe_text.specs.declared.outcome.ToolError.{ToolError}
use Rattle.pe_text.specs.Engine.{Puts}

abbrev first_of : List ℕ → ℕ
first_of [] = 0
first_of (x ∷ xs) = x

abbrev rest_of : List ℕ → List ℕ
rest_of [] = []
rest_of (x ∷ xs) = xs

module _ (IsText : Outcome → List ℕ → Type 0) (m n : ℕ) (before now : List ℕ) (count count' : ℕ) (result : Result Outcome ToolError)
    (puts : Puts IsText (m ∷ before) (n ∷ now) count count' result) where
  pub keeps_number : n ≡ m
  keeps_number = ap first_of puts.1

  pub puts_bytes : Puts IsText before now count count' result
  puts_bytes = (puts.0, ap rest_of puts.1, puts.2)
