-- An object's file of either form that the reader that does not allocate has checked.
use Rattle.std.specs.Prelude.{ℕ, ◌&&◌, nat_le, List, length, map}
use Rattle.pe_head.specs.declared.section.SectionHeader.{SectionHeader}
use Rattle.pe_head.specs.Section.{section_header}
use Rattle.coff_read.specs.BigObjectFile.{big_file_of}
use Rattle.coff_read.specs.FormFaults.{is_anonymous}
use Rattle.coff_read.specs.FormReading.{section_starts}
use Rattle.coff_read.specs.Forms.{Form, Plain, Big}
use Rattle.coff_read.specs.ObjectFile as plain
use Rattle.coff_read.specs.declared.either_object.EitherObject.{EitherObject}
use Rattle.coff_read.specs.declared.either_object.EitherObject.TheVariants as code

-- the form that a file is read in: the big one if it begins with Machine 0 and 0xffff sections
abbrev pub form_in : List ℕ → Form
form_in file = nat_le 20 (length file) && is_anonymous file

abbrev pub form_of : EitherObject → Form
form_of (code.Plain object) = Plain
form_of (code.Big object) = Big

abbrev pub file_of : EitherObject → List ℕ
file_of (code.Plain object) = plain.file_of object
file_of (code.Big object) = big_file_of object

-- the section headers in table order
abbrev pub section_headers : Form → List ℕ → List SectionHeader
section_headers big file = map (section_header file) (section_starts big file)
