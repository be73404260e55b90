-- What an engine that reads parts of a file reads and writes.
use Rattle.std.specs.Prelude.{ℕ, ◌≡◌, List, [], ◌++◌, length, Option, None, Some, Result, Ok, Err}
use Rattle.pe_view.specs.Faults.{first_standing}
use Rattle.pe_head.specs.declared.headers.Headers.{Headers}
use Rattle.pe_head.specs.Head.{head_of}
use Rattle.pe_layout.specs.Image.{image_of_file}
use Rattle.pe_layout.specs.SectionFaults.{layout_tests}
use Rattle.pe_parts.specs.declared.tables.PackedTables.{PackedTables}
use Rattle.pe_parts.specs.PackedTables.{AreContentsOf}
use Rattle.pe_text.specs.declared.outcome.Outcome.{Outcome}
use Rattle.pe_text.specs.declared.outcome.ToolError.{ToolError}
use Rattle.pe_text.specs.declared.outcome.ToolError.TheVariants.{Read, Write, Memory}
use Rattle.pe_text.specs.Engine.{BeginsText}
use Rattle.pe_reach.specs.Parts.{Part, HasParts}

-- an outcome and a text are those of each file with these headers, none of faults 1 to 15, and these tables
abbrev pub IsTextOfTables : {A : Type 0} → (List ℕ → Outcome → List ℕ → Type 0) → Headers → PackedTables A → Outcome → List ℕ → Type 0
IsTextOfTables IsText h tables outcome text = (file : List ℕ) → head_of file ≡ h → first_standing (layout_tests 0 file) ≡ None
    → AreContentsOf (image_of_file 0 file) tables → IsText file outcome text

-- it holds of each file of a length with these parts
abbrev pub IsKnownByParts : ℕ → List Part → (List ℕ → Type 0) → Type 0
IsKnownByParts len read Holds = (file : List ℕ) → length file ≡ len → HasParts file read → Holds file

-- what was written of the text, by the engine's result
abbrev pub WrittenByParts : (List ℕ → Outcome → List ℕ → Type 0) → ℕ → List Part → Result (Option Outcome) ToolError → List ℕ → Type 0
WrittenByParts IsText len read (Ok (Some outcome)) written = IsKnownByParts len read (λ file. IsText file outcome written)
WrittenByParts IsText len read (Ok None) written = written ≡ []
WrittenByParts IsText len read (Err Read) written = written ≡ []
WrittenByParts IsText len read (Err Write) written = IsKnownByParts len read (λ file. BeginsText (IsText file) written)
WrittenByParts IsText len read (Err Memory) written = written ≡ []

-- What an engine over parts of a file read and wrote, where IsText defines the text and the outcome of a file.
pub record RanByParts (IsText : List ℕ → Outcome → List ℕ → Type 0) (len : ℕ) (parts parts' : List Part) (taken taken' : List ℕ) (result : Result (Option Outcome) ToolError) : Type 0 where
  pub read : List Part
  pub written : List ℕ
  pub reads : parts' ≡ parts ++ read
  pub writes : taken' ≡ taken ++ written
  pub text : WrittenByParts IsText len read result written
