-- The numbers that the rule of a fault compares, in the words of the rules: a function of the file's bytes, of its size and of the
-- fault. For a fault of the headers its first bytes do, and for one of a table those that the headers name.
use Rattle.std.specs.Prelude.{ℕ, ◌==◌, ◌&&◌, nat_le, List, Option, None, Some, is_none, if◌then◌else◌, option_map}
use Rattle.pe_view.specs.declared.fault.Fault.{Fault}
use Rattle.pe_view.specs.declared.fault.Place.{Place}
use Rattle.pe_view.specs.declared.fault.Place.TheVariants.{File, Rva, Address, Item}
use Rattle.pe_view.specs.Faults.{first_standing}
use Rattle.pe_head.specs.FaultDetail as head
use Rattle.pe_layout.specs.Image.{LaidOut, image_of_file}
use Rattle.pe_layout.specs.SectionFaults.{layout_tests}
use Rattle.pe_detail.specs.declared.detail.Detail.{Detail}
use Rattle.pe_detail.specs.declared.detail.Detail.TheVariants.{Head, ImageSize, ImageBase}
use Rattle.pe_detail.specs.ExportDetail.{export_detail}
use Rattle.pe_detail.specs.ImportDetail.{import_detail}
use Rattle.pe_detail.specs.FixupDetail.{fixup_detail}
use Rattle.pe_detail.specs.ObjectDetail.{object_detail}

-- faults of the tables of a laid-out image, at an RVA
abbrev pub table_detail : LaidOut → ℕ → ℕ → Option Detail
table_detail i number at =
    if nat_le 16 number && nat_le number 22 then export_detail i number at
    else (if nat_le 24 number && nat_le number 32 then import_detail i number at
    else (if nat_le 33 number && nat_le number 38 then fixup_detail i number at
    else None))

-- faults 45 and 46 of an image's base
abbrev pub base_detail : LaidOut → ℕ → Option Detail
base_detail i number =
    if number == 45 then Some (ImageSize i.size)
    else (if number == 46 then Some (ImageBase i.image_base)
    else None)

-- faults at an RVA or an address, of a laid-out image
abbrev pub image_detail : LaidOut → ℕ → Place → Option Detail
image_detail i number (Rva rva) = table_detail i number rva
image_detail i number (Address address) = base_detail i number
image_detail i number (File offset) = None
image_detail i number (Item item) = None

-- the same, of a file: there are none if it cannot be laid out
abbrev pub laid_out_detail : List ℕ → ℕ → Place → Option Detail
laid_out_detail file number place =
    if is_none (first_standing (layout_tests 0 file)) then image_detail (image_of_file 0 file) number place else None

-- faults at a file offset
abbrev pub offset_detail : List ℕ → ℕ → Fault → ℕ → Option Detail
offset_detail file size fault offset =
    if nat_le 63 fault.number && nat_le fault.number 72 then object_detail file size fault.number offset
    else option_map Head (head.fault_detail file size fault)

abbrev pub detail_at : List ℕ → ℕ → Fault → Place → Option Detail
detail_at file size fault (File offset) = offset_detail file size fault offset
detail_at file size fault (Rva rva) = laid_out_detail file fault.number (Rva rva)
detail_at file size fault (Address address) = laid_out_detail file fault.number (Address address)
detail_at file size fault (Item item) = None

-- the numbers that the rule of a fault compares, in a file of `size` bytes
abbrev pub fault_detail : List ℕ → ℕ → Fault → Option Detail
fault_detail file size fault = detail_at file size fault fault.place
