-- What is written of the laid-out image of a file.
use Rattle.std.specs.Prelude.{ℕ, ◌≡◌, ◌+◌, ◌<◌, ◌≤◌, ◌^◌, Bool, List, [], ◌++◌, length, None, Some, Result, Ok, Err, IsErrOf, MatchResult}
use Rattle.pe_view.specs.Faults.{first_standing}
use Rattle.pe_layout.specs.Image.{image_of_file, bytes_at}
use Rattle.pe_layout.specs.SectionFaults.{layout_tests}
use Rattle.pe_text.specs.declared.device.Failed.{Failed}
use Rattle.pe_text.specs.declared.outcome.ToolError.{ToolError}
use Rattle.pe_text.specs.declared.outcome.ToolError.TheVariants.{Read, Write, Memory}
use Rattle.pe_text.specs.Engine.{IsWhole}
use Rattle.pe_text.specs.TextWriter.{IsBeginning}
use Rattle.pe_layout_file.specs.declared.engine.ImageFile.{ImageFile}
use Rattle.pe_layout_file.specs.declared.engine.ImageFile.TheVariants.{Written, TooLarge, Refused}

-- the size of the image of a file: SizeOfImage
abbrev pub image_size : List ℕ → ℕ
image_size file = (image_of_file 0 file).size

-- the bytes of the image of a file, from its first RVA to its last
abbrev pub image_bytes : List ℕ → List ℕ
image_bytes file = bytes_at (image_of_file 0 file) 0 (image_size file)

-- the file has an image of at most `most` bytes
abbrev pub HasImage : ℕ → List ℕ → Type 0
HasImage most file = (first_standing (layout_tests 0 file) ≡ None) × (image_size file ≤ most)

-- what becomes of the image of a file, and the bytes that are written
abbrev pub IsImageFile : ℕ → List ℕ → ImageFile → List ℕ → Type 0
IsImageFile most file Written bytes = HasImage most file × (bytes ≡ image_bytes file)
IsImageFile most file (TooLarge size) bytes = (first_standing (layout_tests 0 file) ≡ None) × (size ≡ image_size file) × (most < size) × (bytes ≡ [])
IsImageFile most file (Refused fault) bytes = (first_standing (layout_tests 0 file) ≡ Some fault) × (bytes ≡ [])

-- a beginning of the image of a file was written
abbrev pub BeginsImage : ℕ → List ℕ → List ℕ → Type 0
BeginsImage most file written = HasImage most file × IsBeginning written (image_bytes file)

-- what was written after the sink's earlier bytes, by the result: the image or nothing; or a beginning of it, and one call failed
abbrev pub PutsImage : ℕ → List ℕ → List ℕ → List ℕ → ℕ → ℕ → Result ImageFile Failed → Type 0
PutsImage most file before now count count' result = (written : List ℕ) × (now ≡ before ++ written) × MatchResult result
    (λ image. IsImageFile most file image written × (count' ≡ count))
    (λ _. BeginsImage most file written × (count' ≡ count + 1))

-- what was written of the image of a file, by the engine's result
abbrev pub WritesImage : ℕ → List ℕ → List ℕ → Result ImageFile ToolError → Type 0
WritesImage most file written (Ok image) = IsImageFile most file image written
WritesImage most file written (Err Read) = written ≡ []
WritesImage most file written (Err Write) = BeginsImage most file written
WritesImage most file written (Err Memory) = written ≡ []

-- the whole file was read, if it was judged: the engine returned what became of its image, or failed to write this
abbrev pub ReadsWhole : Bool → List ℕ → Result ImageFile ToolError → Type 0
ReadsWhole ended file (Ok image) = IsWhole ended file
ReadsWhole ended file (Err Read) = Unit {0}
ReadsWhole ended file (Err Write) = IsWhole ended file
ReadsWhole ended file (Err Memory) = Unit {0}

-- what `lay_out_file` reads and writes
pub record RanLayout (most : ℕ) (given given' taken taken' : List ℕ) (ended : Bool) (result : Result ImageFile ToolError) : Type 0 where
  pub input : List ℕ
  pub written : List ℕ
  pub reads : given' ≡ given ++ input
  pub writes : taken' ≡ taken ++ written
  pub image : WritesImage most input written result
  pub limit : length input ≤ 2 ^ 32 + 1
  pub whole : ReadsWhole ended input result
  pub memory : IsErrOf result Memory → 0 < length input
