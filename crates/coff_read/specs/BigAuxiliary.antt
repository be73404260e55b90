-- Auxiliary records of a big object, of 20 bytes: the symbol that they follow decides their shape.
use Rattle.std.specs.Prelude.{ℕ, ◌+◌, ◌*◌, ◌==◌, List, Option, Some, None, nat_lt, if◌then◌else◌}
use Rattle.pe_view.specs.Number.{part}
use Rattle.coff_read.specs.Auxiliary.{AuxRecord, Section, aux_of}
use Rattle.coff_read.specs.AuxiliaryView.{aux_view}
use Rattle.coff_read.specs.Field.{field}
use Rattle.coff_read.specs.FormRecords.{aux_records}
use Rattle.coff_read.specs.Forms.{Big}
use Rattle.coff_read.specs.Records.{Symbol}
use Rattle.coff_read.specs.declared.big_auxiliary.BigAux.{BigAux}
use Rattle.coff_read.specs.declared.big_auxiliary.BigAux.TheVariants as code

abbrev pub big_aux_view : BigAux → AuxRecord
big_aux_view (code.Section len relocations line_numbers checksum number selection) = Section len relocations line_numbers checksum number selection
big_aux_view (code.Other aux) = aux_view aux

-- the high half of the section's number is after the selection and a byte that is not used
abbrev pub big_section_of : List ℕ → AuxRecord
big_section_of r = Section (field r 0 0 4) (field r 0 4 2) (field r 0 6 2) (field r 0 8 4) (field r 0 12 2 + 0x1_0000 * field r 0 16 2) (field r 0 14 1)

-- the record in these bytes, after a symbol: by its class 3 STATIC, and the others as in a plain object
abbrev pub big_aux_of : Symbol → List ℕ → AuxRecord
big_aux_of s r = if s.class == 3 then big_section_of r else aux_of s r

-- auxiliary record k of a symbol
abbrev pub big_aux_record : Symbol → ℕ → Option AuxRecord
big_aux_record s k = if nat_lt k (aux_records Big s) then Some (big_aux_of s (part s.aux (20 * k) 20)) else None
