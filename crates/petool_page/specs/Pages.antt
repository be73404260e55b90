-- What is written of a file by its kind, and the options of the calls.
use Rattle.std.specs.Prelude.{ℕ, ◌==◌, ◌^◌, ◌-◌, min, if◌then◌else◌, Bool, true, false, List, Option, None, Some}
use Rattle.pe_view.specs.declared.fault.Place.{Place}
use Rattle.pe_view.specs.declared.fault.Place.TheVariants.{Rva, Address, File}
use Rattle.pe_text.specs.declared.file_beginning.FileKind.{FileKind}
use Rattle.pe_text.specs.declared.file_beginning.FileKind.TheVariants.{Image, Elf, Archive, ThinArchive, Text, Object, ImportObject, BigObject}
use Rattle.pe_text.specs.declared.outcome.Outcome.{Outcome}
use Rattle.pe_text.specs.FileKind.{kind_of}
use Rattle.pe_page.specs.Judged.{IsJudged}
use Rattle.coff_archive_page.specs.ArchiveJudged.{IsArchiveJudged}
use Rattle.coff_archive_json.specs.ArchiveJson.{IsArchiveJson}
use Rattle.pe_json.specs.declared.beyond.Beyond.{Beyond}
use Rattle.pe_json.specs.JsonReport.{IsLineOf}

abbrev pub is_archive_kind : Option FileKind → Bool
is_archive_kind None = false
is_archive_kind (Some Image) = false
is_archive_kind (Some Elf) = false
is_archive_kind (Some Archive) = true
is_archive_kind (Some ThinArchive) = true
is_archive_kind (Some Text) = false
is_archive_kind (Some Object) = false
is_archive_kind (Some ImportObject) = false
is_archive_kind (Some BigObject) = false

-- whether a file begins as an archive
abbrev pub is_archive : List ℕ → Bool
is_archive file = is_archive_kind (kind_of file)

-- the first of the two facts for an archive, and the second for any other file
abbrev pub ByKind : Bool → Type 0 → Type 0 → Type 0
ByKind true P Q = P
ByKind false P Q = Q

-- the outcome of a page is that of the file's faults
abbrev pub IsPage : List ℕ → Outcome → List ℕ → Type 0
IsPage file outcome text = ByKind (is_archive file) (IsArchiveJudged file outcome text) (IsJudged file outcome text)

-- the lines of JSON of a file with this name
abbrev pub IsJson : Option Beyond → List ℕ → List ℕ → Outcome → List ℕ → Type 0
IsJson beyond name file outcome text = ByKind (is_archive file) (IsArchiveJson name file outcome text) (IsLineOf beyond name file outcome text)

abbrev pub beyond_of : Bool → Bool → Bool → Bool → Option Beyond
beyond_of all functions symbols digests = if all then Some (record { functions = functions; symbols = symbols; digests = digests }) else None

-- the place of a kind; an RVA past 32 bits is the last
abbrev pub place_of : ℕ → ℕ → Place
place_of kind place = if kind == 0 then Rva (min place (2 ^ 32 - 1)) else if kind == 1 then Address place else File place
