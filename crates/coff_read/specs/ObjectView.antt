-- An object of the code, with strings and bytes as lists.
use Rattle.std.specs.Prelude.{map}
use Rattle.coff_read.specs.Records as format
use Rattle.coff_read.specs.declared.section.RawData.{RawData}
use Rattle.coff_read.specs.declared.section.RawData.TheVariants.{Bytes, Absent}
use Rattle.coff_read.specs.declared.section.ObjSection.{ObjSection}
use Rattle.coff_read.specs.declared.symbol.Symbol.{Symbol}
use Rattle.coff_read.specs.declared.object.Object.{Object}

abbrev pub raw_view : RawData → format.Raw
raw_view (Bytes bytes) = format.Bytes bytes.now
raw_view (Absent size) = format.Absent size

abbrev pub section_view : {A : Type 0} → ObjSection A → format.Section
section_view s = record {
  name = s.name.now;
  virtual_size = s.virtual_size;
  virtual_address = s.virtual_address;
  raw = raw_view s.raw;
  flags = s.flags;
  relocations = s.relocations.items;
}

abbrev pub symbol_view : Symbol → format.Symbol
symbol_view s = record { name = s.name.now; value = s.value; section = s.section; kind = s.kind; class = s.class; aux = s.aux.now }

abbrev pub object_view : {A : Type 0} → Object A → format.Object
object_view o = record {
  machine = o.machine;
  time_stamp = o.time_stamp;
  characteristics = o.characteristics;
  optional = o.optional.now;
  sections = map section_view o.sections.items;
  symbols = map symbol_view o.symbols.items;
}
