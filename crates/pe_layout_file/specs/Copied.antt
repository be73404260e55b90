-- What one call that reads a piece and writes it has read and written. No contract of a public function uses this module.
use Rattle.std.specs.Prelude.{ℕ, ◌≡◌, ◌≤◌, List, [], ◌∷◌, ◌++◌, length, take, Result, Ok, Err}
use Rattle.pe_text.specs.declared.outcome.ToolError.{ToolError}
use Rattle.pe_text.specs.declared.outcome.ToolError.TheVariants.{Read, Write, Memory}
use Rattle.pe_reach.specs.Parts.{Part}

-- a part of so many bytes at most was read
abbrev pub ReadsPart : ℕ → ℕ → List Part → List Part → List ℕ → Type 0
ReadsPart offset room parts parts' bytes = (length bytes ≤ room) × (parts' ≡ parts ++ record { offset = offset; bytes = bytes } ∷ [])

abbrev pub CopiesPiece : ℕ → ℕ → List Part → List Part → List ℕ → List ℕ → Result ℕ ToolError → Type 0
CopiesPiece offset room parts parts' taken taken' (Ok count) = (bytes : List ℕ) × ReadsPart offset room parts parts' bytes × (length bytes ≡ count) × (taken' ≡ taken ++ bytes)
CopiesPiece offset room parts parts' taken taken' (Err Read) = (parts' ≡ parts) × (taken' ≡ taken)
CopiesPiece offset room parts parts' taken taken' (Err Write) = (bytes : List ℕ) × ReadsPart offset room parts parts' bytes × (k : ℕ) × (taken' ≡ taken ++ take k bytes)
CopiesPiece offset room parts parts' taken taken' (Err Memory) = ⊥
