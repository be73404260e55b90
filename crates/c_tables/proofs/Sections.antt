-- An object of either form has few sections, since their headers lie in its file.
use Rattle.std.proofs.Common.{◌≡◌, ◌∙◌, ℕ, ◌≤◌, ◌^◌, List, length, arith}
use Rattle.std.proofs.lemmas.List.{length-map}
use Rattle.std.proofs.lemmas.List.FromFn.{length-map-range_with_len}
use Rattle.coff_read.specs.BigObjectFile.{big_file_of}
use Rattle.coff_read.specs.EitherObject.{file_of, form_of}
use Rattle.coff_read.specs.FormReading.{object_of, section_in, section_start, section_starts}
use Rattle.coff_read.specs.Forms.{Form, Plain, Big, section_count}
use Rattle.coff_read.specs.ObjectFile as plain
use Rattle.coff_read.specs.TablesPlace.{AreTables}
use Rattle.coff_read.specs.declared.either_object.EitherObject.{EitherObject}
use Rattle.coff_read.specs.declared.either_object.EitherObject.TheVariants as code
use Rattle.coff_read.specs.declared.tables.Tables.{Tables}

few : (big : Form) (file : List ℕ) (t : Tables) → AreTables big file t → length (object_of big file).sections ≤ 2 ^ 32
few big file t stand =
    let many : length (object_of big file).sections ≡ section_count big file =
    length-map (section_starts big file) (section_in big file) ∙ length-map-range_with_len (section_start big file) 0 (section_count big file) in
    omega (arith, many, stand.sections, stand.headers_inside, stand.small)

pub few_sections : (o : EitherObject) → length (object_of (form_of o) (file_of o)).sections ≤ 2 ^ 32
few_sections (code.Plain object) = few Plain (plain.file_of object) object.tables object.stand
few_sections (code.Big object) = few Big (big_file_of object) object.tables object.stand
