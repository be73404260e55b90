-- What is at an RVA of a laid-out image.
use Rattle.std.specs.Prelude.{ℕ, ◌+◌, ◌-◌, nat_lt, nat_le, List, Option, None, Some, if◌then◌else◌}
use Rattle.pe_view.specs.Number.{byte_of}
use Rattle.pe_head.specs.declared.section.SectionHeader.{SectionHeader}
use Rattle.pe_head.specs.declared.headers.Headers.{Headers}
use Rattle.pe_head.specs.Section.{rawlen}
use Rattle.pe_layout.specs.Piece.{section_of, section_index}
use Rattle.pe_layout.specs.declared.locate.Located.{Located}
use Rattle.pe_layout.specs.declared.locate.Located.TheVariants.{Header, Raw, Zero, Gap, Outside}

-- in the section with this index, or in none
abbrev pub located_in : ℕ → Option ℕ → Option SectionHeader → Located
located_in r (Some k) (Some s) = if nat_lt (r - s.virtual_address) (rawlen s) then Raw k (s.pointer_to_raw_data + (r - s.virtual_address)) else Zero k
located_in r None s = Gap
located_in r (Some k) None = Gap

abbrev pub located : Headers → ℕ → Located
located h r =
    if nat_le h.size_of_image r then Outside
    else (if nat_lt r h.size_of_headers then Header r else located_in r (section_index h r) (section_of h r))

-- the file offset of the byte there, if it comes from the file
abbrev pub file_offset : Located → Option ℕ
file_offset (Header offset) = Some offset
file_offset (Raw k offset) = Some offset
file_offset (Zero k) = None
file_offset Gap = None
file_offset Outside = None

-- the byte there, if the RVA is inside the image
abbrev pub located_byte : List ℕ → Located → Option ℕ
located_byte file (Header offset) = Some (byte_of file offset)
located_byte file (Raw k offset) = Some (byte_of file offset)
located_byte file (Zero k) = Some 0
located_byte file Gap = Some 0
located_byte file Outside = None

-- how many bytes of a section's raw data come from an RVA on
abbrev pub raw_left_in : ℕ → Option SectionHeader → ℕ
raw_left_in r None = 0
raw_left_in r (Some s) = rawlen s - (r - s.virtual_address)

-- how many bytes from an RVA on come from the file in one run: of the headers, or of a section's raw data
abbrev pub raw_left : Headers → ℕ → ℕ
raw_left h r =
    if nat_le h.size_of_image r then 0
    else (if nat_lt r h.size_of_headers then h.size_of_headers - r else raw_left_in r (section_of h r))
