-- The lines of a plain object's dump.
use Rattle.std.specs.Prelude.{ℕ, List}
use Rattle.coff_read.specs.Forms.{Plain}
use Rattle.coff_read.specs.Records.{Object, Symbol}
use Rattle.coff_lines.specs.ObjectLines as either
use Rattle.coff_lines.specs.ObjectPlaces as places

abbrev pub symbol_lines : ℕ → List Symbol → List ℕ
symbol_lines = either.symbol_lines Plain

abbrev pub record_lines : List ℕ → ℕ → List ℕ
record_lines = places.record_lines Plain

abbrev pub object_text : Object → List ℕ
object_text = either.object_text Plain
