-- The two forms of an object: plain, and big, which /bigobj makes and whose header is ANON_OBJECT_HEADER_BIGOBJ. A row for each width
-- and place that differs.
use Rattle.std.specs.Prelude.{ℕ, Bool, true, false, List}
use Rattle.coff_read.specs.Field.{field}

-- whether an object is big, as the parameter BIG of the code says
abbrev pub Form : Type 0
Form = Bool

abbrev pub Plain : Form
Plain = false

abbrev pub Big : Form
Big = true

-- the size of the header, and the offsets of its fields
abbrev pub header_len : Form → ℕ
header_len false = 20
header_len true = 56

abbrev pub machine_at : Form → ℕ
machine_at false = 0
machine_at true = 6

abbrev pub time_stamp_at : Form → ℕ
time_stamp_at false = 4
time_stamp_at true = 8

abbrev pub sections_at : Form → ℕ
sections_at false = 2
sections_at true = 44

abbrev pub symbols_at : Form → ℕ
symbols_at false = 8
symbols_at true = 48

abbrev pub records_at : Form → ℕ
records_at false = 12
records_at true = 52

-- the width of NumberOfSections and of a symbol's SectionNumber
abbrev pub number_width : Form → ℕ
number_width false = 2
number_width true = 4

-- the size of a record of the symbol table, and the offsets of its fields after SectionNumber
abbrev pub symbol_len : Form → ℕ
symbol_len false = 18
symbol_len true = 20

abbrev pub kind_at : Form → ℕ
kind_at false = 14
kind_at true = 16

abbrev pub class_at : Form → ℕ
class_at false = 16
class_at true = 18

abbrev pub aux_at : Form → ℕ
aux_at false = 17
aux_at true = 19

-- the numbers -1 and -2 of a symbol without a section, in the width
abbrev pub absolute_number : Form → ℕ
absolute_number false = 0xffff
absolute_number true = 0xffff_ffff

abbrev pub debug_number : Form → ℕ
debug_number false = 0xfffe
debug_number true = 0xffff_fffe

-- a big object has no optional header and no Characteristics
abbrev pub optional_size : Form → List ℕ → ℕ
optional_size false file = field file 0 16 2
optional_size true file = 0

abbrev pub characteristics_of : Form → List ℕ → ℕ
characteristics_of false file = field file 0 18 2
characteristics_of true file = 0

-- NumberOfSections
abbrev pub section_count : Form → List ℕ → ℕ
section_count big file = field file 0 (sections_at big) (number_width big)
