-- What a view sees of an image's file, of which only a beginning is read.
use Rattle.std.specs.Prelude.{ℕ, ◌≡◌, ◌^◌, ◌⊎◌, Bool, nat_lt, if◌then◌else◌, List, [], ◌∷◌, length, map, Option, None, Some}
use Rattle.pe_view.specs.declared.fault.Fault.{Fault}
use Rattle.pe_view.specs.declared.fault.Place.TheVariants.{File}
use Rattle.pe_view.specs.Faults.{Test, test, first_standing}
use Rattle.pe_head.specs.declared.headers.Headers.{Headers}
use Rattle.pe_head.specs.Head.{head_of}
use Rattle.coff_read.specs.ImageNames.{image_strings, section_name}
use Rattle.coff_read.specs.EitherObject.{form_in}
use Rattle.coff_read.specs.FormFaults.{object_tests}
use Rattle.pe_image.specs.ImageTests.{image_tests}
use Rattle.pe_text.specs.declared.file_beginning.FileKind.TheVariants.{Image}
use Rattle.pe_text.specs.FileKind.{kind_of, tests_by_kind}
use Rattle.pe_text.specs.declared.outcome.Outcome.{Outcome}
use Rattle.pe_text.specs.Engine.{IsWhole}
use Rattle.pe_reach.specs.Reach.{Begins, SameAnswers, early_tests}
use Rattle.pe_reach.specs.declared.view_file.ViewFile.{ViewFile}

-- the names of the sections in a file with these headers
abbrev pub names_under : List ℕ → Headers → List (List ℕ)
names_under file h = map (λ section. section_name (image_strings file h) section.name) h.sections.items

-- two files begin with `MZ`, and have the same headers, the same first of faults 1 to 15, the same image, and the same names of
-- sections
pub record LookAlike (f g : List ℕ) : Type 0 where
  pub kind_f : kind_of f ≡ Some Image
  pub kind_g : kind_of g ≡ Some Image
  pub answers : SameAnswers f g
  pub names : names_under f (head_of f) ≡ names_under g (head_of g)

-- bytes look like each file of a length that begins with them
abbrev pub Show : ℕ → List ℕ → Type 0
Show len bytes = (file : List ℕ) → Begins bytes len file → LookAlike file bytes

-- bytes that were read of a file of a length are the whole file, or show it; and the size that is told is that of the file
abbrev pub IsSeen : Bool → ℕ → List ℕ → ℕ → Type 0
IsSeen ended len bytes told = (IsWhole ended bytes × (told ≡ length bytes)) ⊎ (Show len bytes × (told ≡ len))

-- the tests of a file as views check it: those of an object if its first bytes are those of one, otherwise those of an image
abbrev pub view_tests : List ℕ → List Test
view_tests file = tests_by_kind file (object_tests (form_in file) file) (image_tests 0 file)

-- the tests of a file as views check it that its size and its first bytes decide: none if these are fewer than the 28 that say whether
-- it is an object
abbrev pub early_view_tests : List ℕ → ℕ → List Test
early_view_tests begin len =
    if nat_lt (length begin) 28 then [] else tests_by_kind begin (test 61 0 (File len) (nat_lt (2 ^ 32) len) ∷ []) (early_tests begin len)

-- bytes refuse each file of a length that begins with them, by a fault
abbrev pub RefuseView : ℕ → List ℕ → Fault → Type 0
RefuseView len bytes fault = (file : List ℕ) → Begins bytes len file → first_standing (view_tests file) ≡ Some fault

-- the same; and if they refuse none, they are the whole file, or show it
abbrev pub IsViewed : Bool → ℕ → List ℕ → ℕ → Option Fault → Type 0
IsViewed ended len bytes told None = IsSeen ended len bytes told
IsViewed ended len bytes told (Some fault) = RefuseView len bytes fault × (told ≡ len)

-- the texts of files that look alike are the same
abbrev pub FollowsLooks : (List ℕ → Outcome → List ℕ → Type 0) → Type 0
FollowsLooks IsText = (f g : List ℕ) → LookAlike f g → (outcome : Outcome) (text : List ℕ) → IsText g outcome text → IsText f outcome text

-- the bytes of a file that a view can ask for
abbrev pub seen_of : ViewFile → List ℕ
seen_of file = file.bytes.now

-- the size of the file
abbrev pub told_of : ViewFile → ℕ
told_of file = file.len
