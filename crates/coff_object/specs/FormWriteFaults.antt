-- The faults of an object that is to be written plain or big, by number: at the plain form these are the tests of WriteFaults.
use Rattle.std.specs.Prelude.{ℕ, ◌^◌, ◌-◌, ◌||◌, Bool, true, false, nat_lt, List, [], ◌∷◌, ◌++◌, length}
use Rattle.std.specs.List.{list_any}
use Rattle.pe_view.specs.Faults.{Test}
use Rattle.coff_read.specs.Form.{is_bad_section}
use Rattle.coff_read.specs.FormRecords.{records_of, is_bad_symbol}
use Rattle.coff_read.specs.Forms.{Form}
use Rattle.coff_read.specs.ObjectFaults.{is_other_file}
use Rattle.coff_read.specs.Records.{Object}
use Rattle.coff_object.specs.FormWritten.{canon}
use Rattle.coff_object.specs.WriteFaults.{of_item, name_tests, section_tests}

-- the optional header does not fit its count, or the form does not store it or Characteristics
abbrev pub is_bad_header : Form → Object → Bool
is_bad_header false o = nat_lt 65535 (length o.optional)
is_bad_header true o = nat_lt 0 (length o.optional) || nat_lt 0 o.characteristics

-- the most sections that the form counts
abbrev pub most_sections : Form → ℕ
most_sections false = 0xffff
most_sections true = 0xffff_ffff

-- the first bytes would be those of a file of another kind, as they may be of a plain object
abbrev pub is_misread : Form → Object → Bool
is_misread false o = is_other_file (canon false o)
is_misread true o = false

-- the object does not fit the form: its values don't fit the fields, or would be read back differently
abbrev pub is_bad_object : Form → Object → Bool
is_bad_object big o =
    is_bad_header big o
    || (nat_lt (most_sections big) (length o.sections)
    || (is_misread big o
    || (list_any (is_bad_section (records_of big o.symbols)) o.sections || list_any (is_bad_symbol big (length o.sections)) o.symbols)))

-- faults 84 and 85
abbrev pub form_tests : Form → Object → List Test
form_tests big o = of_item 84 0 (nat_lt (2 ^ 32 - 1) (length (canon big o))) ∷ of_item 85 0 (is_bad_object big o) ∷ []

-- faults 81 to 85
unfoldable pub write_tests : Form → Object → List Test
write_tests big o = name_tests o ++ (section_tests o ++ form_tests big o)
