-- A laid-out image as its tables see it, without sections and file offsets.
use Rattle.std.specs.Prelude.{ℕ, ◌+◌, ◌%◌, ◌==◌, ◌&&◌, ◌||◌, Bool, nat_le, List, map, Option, None, Some, slice_get, option_and_then, if◌then◌else◌}
use Rattle.std.specs.List.{range_with_len}
use Rattle.pe_view.specs.declared.fault.Fault.{Fault}
use Rattle.pe_view.specs.declared.fault.Place.TheVariants.{Rva}
use Rattle.pe_view.specs.Number.{num}
use Rattle.pe_head.specs.declared.optional.Magic.{Magic}
use Rattle.pe_head.specs.Optional.{image_base_width}
use Rattle.pe_head.specs.declared.directory.Directory.{Directory}
use Rattle.pe_head.specs.declared.headers.Headers.{Headers}
use Rattle.pe_head.specs.Head.{head_of}
use Rattle.pe_layout.specs.Locating.{raw_left}
use Rattle.pe_layout.specs.Plain.{plain}
use Rattle.pe_layout.specs.PieceText.{text}

pub record LaidOut : Type 0 where
  pub number : ℕ  -- the number by which its faults name it
  pub size : ℕ  -- SizeOfImage
  pub byte : ℕ → ℕ  -- the laid-out byte at each RVA below the size
  pub raw_left : ℕ → ℕ  -- how many bytes from an RVA on come from the file in one run
  pub text : ℕ → Option (List ℕ)  -- the zero-terminated string at an RVA, if there is one
  pub directory : ℕ → Option Directory  -- the directory of an index, if its table is present
  pub slot_width : ℕ  -- the size of an import address table entry
  pub image_base : ℕ
  pub is_stripped : Bool  -- RELOCS_STRIPPED: it must be loaded at its ImageBase

-- The directory of an index, if present: one that the headers hold, whose RVA is not 0. The base relocation directory, index 5, is
-- also absent if its Size is 0.
abbrev pub directory_of : Headers → ℕ → Option Directory
directory_of h i = option_and_then (λ d. if d.rva == 0 || (i == 5 && d.size == 0) then None else Some d) (slice_get h.directories.items i)

-- an import address table entry has the width of an address, as ImageBase has
abbrev pub slot_width_of : Magic → ℕ
slot_width_of = image_base_width

-- the image, with a number, that headers and a file lay out
abbrev pub image_from : ℕ → Headers → List ℕ → LaidOut
image_from number h file = record {
  number = number;
  size = h.size_of_image;
  byte = plain h file;
  raw_left = raw_left h;
  text = text h file;
  directory = directory_of h;
  slot_width = slot_width_of h.magic;
  image_base = h.image_base;
  is_stripped = h.characteristics % 2 == 1;
}

-- the image of a file
abbrev pub image_of_file : ℕ → List ℕ → LaidOut
image_of_file number file = image_from number (head_of file) file

-- the `len` bytes from an RVA on
abbrev pub bytes_at : LaidOut → ℕ → ℕ → List ℕ
bytes_at i rva len = map i.byte (range_with_len rva len)

-- the number in the `width` bytes at an RVA
abbrev pub number_at : ℕ → LaidOut → ℕ → ℕ
number_at width i rva = num i.byte rva width

-- `len` bytes at an RVA are inside the image
abbrev pub is_inside : LaidOut → ℕ → ℕ → Bool
is_inside i rva len = nat_le (rva + len) i.size

-- a fault of the image at an RVA
abbrev pub fault_at : ℕ → LaidOut → ℕ → Fault
fault_at number i rva = record { number = number; image = i.number; place = Rva rva }
