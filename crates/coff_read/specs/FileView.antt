-- What the reader that does not allocate returns, as the records of the format.
use Rattle.std.specs.Prelude.{◌+◌, ◌*◌, List, map}
use Rattle.std.specs.List.{range_with_len}
use Rattle.pe_view.specs.View.{bytes_of}
use Rattle.coff_read.specs.ObjectView.{raw_view}
use Rattle.coff_read.specs.Reading.{relocation_at}
use Rattle.coff_read.specs.Records as format
use Rattle.coff_read.specs.declared.relocation.Relocation.{Relocation}
use Rattle.coff_read.specs.declared.relocations.Relocations.{Relocations}
use Rattle.coff_read.specs.declared.section.FileSection.{FileSection}

abbrev pub relocations_view : Relocations → List Relocation
relocations_view r = map (λ k. relocation_at (bytes_of r.view) (r.start + 10 * k)) (range_with_len 0 r.count)

abbrev pub file_section_view : FileSection → format.Section
file_section_view s = record {
  name = s.name.now;
  virtual_size = s.virtual_size;
  virtual_address = s.virtual_address;
  raw = raw_view s.raw;
  flags = s.flags;
  relocations = relocations_view s.relocations;
}
