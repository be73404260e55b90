-- Where the sections of a plan are in its file: after the headers, in order, each from a multiple of FileAlignment on, and padded
-- with zeros to one.
use Rattle.std.specs.Prelude.{ℕ, ◌+◌, ◌-◌, ◌*◌, ◌/◌, ◌==◌, Bool, List, [], ◌∷◌, ◌++◌, length, replicate, if◌then◌else◌}
use Rattle.pe_view.specs.Number.{byte_of}
use Rattle.pe_head.specs.declared.section.SectionHeader.{SectionHeader}
use Rattle.pe_layout.specs.Piece.{holds}
use Rattle.pe_write.specs.declared.plan.PlanSection.{PlanSection}

-- the next multiple of an alignment
abbrev pub align_up : ℕ → ℕ → ℕ
align_up alignment v = (v + alignment - 1) / alignment * alignment

abbrev pub is_empty : PlanSection → Bool
is_empty s = length s.raw.now == 0

-- SizeOfRawData
abbrev pub raw_size : ℕ → PlanSection → ℕ
raw_size alignment s = align_up alignment (length s.raw.now)

-- PointerToRawData of a section appended to a file of `end` bytes
abbrev pub raw_start : ℕ → ℕ → PlanSection → ℕ
raw_start alignment end s = if is_empty s then 0 else align_up alignment end

-- the length of the file with it
abbrev pub raw_end : ℕ → ℕ → PlanSection → ℕ
raw_end alignment end s = if is_empty s then end else align_up alignment end + raw_size alignment s

-- its header
abbrev pub header_from : ℕ → ℕ → PlanSection → SectionHeader
header_from alignment end s = record {
  name = s.name;
  virtual_size = s.virtual_size;
  virtual_address = s.virtual_address;
  size_of_raw_data = raw_size alignment s;
  pointer_to_raw_data = raw_start alignment end s;
  pointer_to_relocations = 0;
  pointer_to_linenumbers = 0;
  number_of_relocations = 0;
  number_of_linenumbers = 0;
  characteristics = s.flags;
}

-- the headers of sections appended to a file of `end` bytes
abbrev pub headers_from : ℕ → ℕ → List PlanSection → List SectionHeader
headers_from alignment end [] = []
headers_from alignment end (s ∷ ss) = header_from alignment end s ∷ headers_from alignment (raw_end alignment end s) ss

-- the bytes that a section appends to such a file
abbrev pub raw_bytes : ℕ → ℕ → PlanSection → List ℕ
raw_bytes alignment end s = if is_empty s then [] else replicate (align_up alignment end - end) 0 ++ (s.raw.now ++ replicate (raw_size alignment s - length s.raw.now) 0)

-- the bytes that sections append to it
abbrev pub data_from : ℕ → ℕ → List PlanSection → List ℕ
data_from alignment end [] = []
data_from alignment end (s ∷ ss) = raw_bytes alignment end s ++ data_from alignment (raw_end alignment end s) ss

-- the length of the file with them
abbrev pub file_end : ℕ → ℕ → List PlanSection → ℕ
file_end alignment end [] = end
file_end alignment end (s ∷ ss) = file_end alignment (raw_end alignment end s) ss

-- the laid-out byte at an RVA after the headers
abbrev pub planned_from : ℕ → ℕ → List PlanSection → ℕ → ℕ
planned_from alignment end [] r = 0
planned_from alignment end (s ∷ ss) r =
    if holds r (header_from alignment end s) then byte_of s.raw.now (r - s.virtual_address)
    else planned_from alignment (raw_end alignment end s) ss r
