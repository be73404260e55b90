-- An object that is to be written, in the words of the format. No contract of a public function cites it.
use Rattle.std.specs.Prelude.{ℕ, map}
use Rattle.coff_read.specs.ObjectView.{section_view}
use Rattle.coff_read.specs.Records as format
use Rattle.coff_object.specs.declared.parts.Parts.{Parts}

abbrev pub parts_view : {A S : Type 0} {BIG : ℕ} → (S → format.Symbol) → Parts A S BIG → format.Object
parts_view view p = record {
  machine = p.machine;
  time_stamp = p.time_stamp;
  characteristics = p.characteristics;
  optional = p.optional.now;
  sections = map section_view p.sections.now;
  symbols = map view p.symbols.now;
}
