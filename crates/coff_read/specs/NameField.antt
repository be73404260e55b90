-- A name field of the code, as the name in it. No contract of a public function cites it.
use Rattle.std.specs.Prelude.{ℕ, List, Option, Some}
use Rattle.coff_read.specs.Forms.{Form}
use Rattle.coff_read.specs.FormReading.{string_at}
use Rattle.coff_read.specs.declared.names.NameField.{NameField}
use Rattle.coff_read.specs.declared.names.NameField.TheVariants as fields

abbrev pub name_in : Form → List ℕ → NameField → Option (List ℕ)
name_in big file (fields.Inline name) = Some name.now
name_in big file (fields.Offset offset) = string_at big file offset
