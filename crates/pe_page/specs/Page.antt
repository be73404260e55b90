-- Contracts of functions that add text to a page, without saying which.
use Rattle.std.specs.Prelude.{ℕ, List}
use Rattle.pe_text.specs.declared.text_writer.TextWriter.{TextWriter}
use Rattle.pe_text.specs.TextWriter.{Adds}

-- some bytes are added to the text
abbrev pub AddsSome : {W : Type 0} → (W → List ℕ) → (W → ℕ) → TextWriter W → TextWriter W → Type 0
AddsSome taken failures old new = (added : List ℕ) × Adds taken failures old new added
