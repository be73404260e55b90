-- What is written of the laid-out image of a file of which parts are read.
use Rattle.std.specs.Prelude.{ℕ, ◌≡◌, ◌+◌, ◌⊎◌, Bool, true, false, List, [], ◌++◌, length, Option, None, Some, Result, Ok, Err}
use Rattle.pe_text.specs.declared.outcome.ToolError.{ToolError}
use Rattle.pe_text.specs.declared.outcome.ToolError.TheVariants.{Read, Write, Memory}
use Rattle.pe_text.specs.TextWriter.{IsBeginning}
use Rattle.pe_reach.specs.Parts.{Part, HasParts}
use Rattle.pe_reach.specs.PartsRead.{EndsEarly}
use Rattle.pe_layout_file.specs.ImageFile.{BeginsImage, IsImageFile}
use Rattle.pe_layout_file.specs.declared.engine.ImageFile.{ImageFile}

-- parts were read and bytes written, of which this holds
abbrev pub Moves : List Part → List Part → List ℕ → List ℕ → (List Part → List ℕ → Type 0) → Type 0
Moves parts parts' taken taken' Holds = (read : List Part) × (written : List ℕ) × (parts' ≡ parts ++ read) × (taken' ≡ taken ++ written) × Holds read written

-- of each file of a kind that has what was read, these bytes were written, or only a beginning of them
abbrev pub WritesOf : (List ℕ → Type 0) → (List ℕ → List ℕ) → Result Bool ToolError → List Part → List ℕ → Type 0
WritesOf Fits bytes (Ok true) read written = (file : List ℕ) → Fits file → HasParts file read → written ≡ bytes file
WritesOf Fits bytes (Ok false) read written = (file : List ℕ) → Fits file → HasParts file read → IsBeginning written (bytes file)
WritesOf Fits bytes (Err error) read written = (file : List ℕ) → Fits file → HasParts file read → IsBeginning written (bytes file)

-- how often the source and the sink have failed, before and after
abbrev pub CountsBy : {X : Type 0} → ℕ → ℕ → ℕ → ℕ → Result X ToolError → Type 0
CountsBy reads reads' writes writes' (Ok x) = (reads' ≡ reads) × (writes' ≡ writes)
CountsBy reads reads' writes writes' (Err Read) = (reads' ≡ reads + 1) × (writes' ≡ writes)
CountsBy reads reads' writes writes' (Err Write) = (reads' ≡ reads) × (writes' ≡ writes + 1)
CountsBy reads reads' writes writes' (Err Memory) = ⊥

-- it holds of each file of a length with these parts
abbrev pub OfEach : ℕ → List Part → (List ℕ → Type 0) → Type 0
OfEach len read Holds = (file : List ℕ) → length file ≡ len → HasParts file read → Holds file

-- nothing was written, or a beginning of the image of each file of a length with these parts
abbrev pub BeginsByParts : ℕ → ℕ → List Part → List ℕ → Type 0
BeginsByParts most len read written = (written ≡ []) ⊎ OfEach len read (λ file. BeginsImage most file written)

-- what was written of the image, by the engine's result
abbrev pub WritesByParts : ℕ → ℕ → Result (Option ImageFile) ToolError → List Part → List ℕ → Type 0
WritesByParts most len (Ok (Some image)) read written = OfEach len read (λ file. IsImageFile most file image written)
WritesByParts most len (Ok None) read written = written ≡ []
WritesByParts most len (Err Read) read written = BeginsByParts most len read written
WritesByParts most len (Err Write) read written = OfEach len read (λ file. BeginsImage most file written)
WritesByParts most len (Err Memory) read written = written ≡ []

-- how often both have failed; a file that ends before its length is a failure to read it that no call of the source tells
abbrev pub FailsByParts : {X : Type 0} → ℕ → List Part → List Part → ℕ → ℕ → ℕ → ℕ → Result X ToolError → Type 0
FailsByParts len parts parts' reads reads' writes writes' (Ok x) = (reads' ≡ reads) × (writes' ≡ writes)
FailsByParts len parts parts' reads reads' writes writes' (Err Read) = ((reads' ≡ reads + 1) ⊎ ((reads' ≡ reads) × EndsEarly len parts parts')) × (writes' ≡ writes)
FailsByParts len parts parts' reads reads' writes writes' (Err Write) = (reads' ≡ reads) × (writes' ≡ writes + 1)
FailsByParts len parts parts' reads reads' writes writes' (Err Memory) = (reads' ≡ reads) × (writes' ≡ writes)
