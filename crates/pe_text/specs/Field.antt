-- A field of a header as a line shows it.
use Rattle.std.specs.Prelude.{ℕ, ◌*◌, List, ◌++◌, codes}
use Rattle.pe_text.specs.declared.field.Field as code
use Rattle.pe_text.specs.Text.{hex}

-- a field: its name in "PE Format", its width in bytes, its value
pub record Field : Type 0 where
  pub name : List ℕ
  pub width : ℕ
  pub value : ℕ

abbrev pub field : List ℕ → ℕ → ℕ → Field
field name width value = record { name = name; width = width; value = value }

-- what the line of the code's field shows
abbrev pub field_of : code.Field → Field
field_of f = field f.name.now f.width f.value

-- a field's line shows two digits a byte
unfoldable pub field_line : Field → List ℕ
field_line f = f.name ++ codes " 0x" ++ hex (2 * f.width) f.value ++ codes "\n"

-- the fields that images and objects share
abbrev pub time_date_stamp : ℕ → Field
time_date_stamp value = field (codes "TimeDateStamp") 4 value

abbrev pub characteristics : ℕ → Field
characteristics value = field (codes "Characteristics") 2 value
