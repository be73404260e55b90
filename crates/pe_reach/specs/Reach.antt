-- Which first bytes of a file decide its headers, its image and its faults.
use Rattle.std.specs.Prelude.{◌≡◌, ℕ, ◌+◌, ◌<◌, max, min, ◌≤◌, ◌^◌, ◌==◌, ◌&&◌, ◌⊎◌, not, nat_lt, nat_le, if◌then◌else◌, Bool, List, take, [], ◌∷◌, length, Option, None, Some, is_none}
use Rattle.pe_view.specs.Number.{num, byte_of}
use Rattle.pe_view.specs.Faults.{Test, test, first_standing}
use Rattle.pe_head.specs.declared.section.SectionHeader.{SectionHeader}
use Rattle.pe_head.specs.Section.{rawlen}
use Rattle.pe_head.specs.Head.{head_of, optional_start, section_start, coff_field}
use Rattle.pe_layout.specs.Image.{image_of_file}
use Rattle.pe_layout.specs.SectionFaults.{layout_tests}
use Rattle.pe_head.specs.HeaderFaults.{head_tests}
use Rattle.pe_view.specs.declared.fault.Fault.{Fault}
use Rattle.pe_view.specs.declared.fault.Place.TheVariants.{File}
use Rattle.pe_image.specs.ImageTests.{image_tests}
use Rattle.pe_text.specs.Engine.{IsWhole}

-- where the headers end: the MS-DOS header, the optional header with 16 directories of PE32+, and the section table
abbrev pub headers_end : List ℕ → ℕ
headers_end file = max (max 64 (optional_start file + 240)) (section_start file (coff_field file 2 2))

-- where the raw data of sections ends; a section without raw data may have any pointer
abbrev pub raw_end : List SectionHeader → ℕ
raw_end [] = 0
raw_end (s ∷ ss) = max (if nat_lt 0 (rawlen s) then s.pointer_to_raw_data + rawlen s else 0) (raw_end ss)

-- the end of all bytes that the headers name
abbrev pub image_end : List ℕ → ℕ
image_end file = max (headers_end file) (max (head_of file).size_of_headers (raw_end (head_of file).sections.items))

-- two files have the same bytes before an offset, or both end before it at one place
pub record AgreeBefore (end : ℕ) (f g : List ℕ) : Type 0 where
  pub tails : min (length f) end ≡ min (length g) end
  pub bytes : (k : ℕ) → k < end → byte_of f k ≡ byte_of g k

-- two files, neither of them too large, reach an offset and have the same bytes before it
pub record HaveBoth (end : ℕ) (f g : List ℕ) : Type 0 where
  pub reach_f : end ≤ length f
  pub reach_g : end ≤ length g
  pub small_f : length f ≤ 2 ^ 32
  pub small_g : length g ≤ 2 ^ 32
  pub bytes : (k : ℕ) → k < end → byte_of f k ≡ byte_of g k

-- two files have the same headers, the same first of faults 1 to 15, and lay out the same image
pub record SameAnswers (f g : List ℕ) : Type 0 where
  pub headers : head_of f ≡ head_of g
  pub first : (number : ℕ) → first_standing (layout_tests number f) ≡ first_standing (layout_tests number g)
  pub image : (number : ℕ) → image_of_file number f ≡ image_of_file number g

-- a file of a length begins with some bytes
pub record Begins (bytes : List ℕ) (len : ℕ) (file : List ℕ) : Type 0 where
  pub size : length file ≡ len
  pub begins : take (length bytes) file ≡ bytes

-- bytes decide the answers for each file of a length that begins with them
abbrev pub Decide : ℕ → List ℕ → Type 0
Decide len bytes = (file : List ℕ) → Begins bytes len file → SameAnswers file bytes

-- bytes that were read of a file of a length are enough: they are the whole file, or decide the answers for it
abbrev pub IsEnough : Bool → ℕ → List ℕ → Type 0
IsEnough ended len bytes = IsWhole ended bytes ⊎ Decide len bytes

-- bytes refuse each file of a length that begins with them, by a fault
abbrev pub Refuse : ℕ → List ℕ → Fault → Type 0
Refuse len bytes fault = (file : List ℕ) → Begins bytes len file → first_standing (image_tests 0 file) ≡ Some fault

-- how many first bytes of a file of a length decide its answers, as its first bytes say it: those that the headers name, if all headers
-- are among its first bytes and have none of faults 1 to 12, and the file is as long as they say, and not too large
abbrev pub needed_of : List ℕ → ℕ → Option ℕ
needed_of begin len =
    if is_none (first_standing (head_tests 0 begin)) && (nat_le (headers_end begin) (length begin) && (nat_le (image_end begin) len && nat_le len (2 ^ 32)))
    then Some (image_end begin) else None

-- the tests of an image's file that its size and its first bytes decide: it is too large; it does not begin with `MZ`, and is long
-- enough for an MS-DOS header, so that it has not fault 2 before
abbrev pub early_tests : List ℕ → ℕ → List Test
early_tests begin len =
    test 1 0 (File (2 ^ 32)) (nat_lt (2 ^ 32) len)
    ∷ test 3 0 (File 0) (nat_le 2 (length begin) && (nat_le 64 len && not (num (byte_of begin) 0 2 == 0x5a4d)))
    ∷ []
