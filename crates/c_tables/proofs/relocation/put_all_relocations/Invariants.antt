use Rattle.std.proofs.Common.{◌≡◌, ◌+◌, ◌*◌, ◌≤◌, drop, length, take}
use Rattle.std.specs.List.{flat_map}
use Rattle.c_tables.specs.Relocations.{relocations_of}
use Rattle.coff_read.specs.EitherLeft.{each_either_section_left}
use Rattle.coff_read.specs.EitherObject.{file_of, form_of}
use Rattle.coff_read.specs.FormReading.{object_of}
use Rattle.coff_read.specs.Records.{Section}
use Rattle.pe_records_c.specs.ObjectRows.{FillsRelocations}
use Rattle.c_tables.proofs.relocation.put_all_relocations.Given as goal

abbrev pub invariant-loop-section : goal.invariant-loop-section
invariant-loop-section l = record {
  told : FillsRelocations (drop l.skipped (take l.earlier (relocations_of (form_of l.object) (file_of l.object)))) l.initial.rows l.rows;
  left : drop l.earlier (relocations_of (form_of l.object) (file_of l.object)) ≡ flat_map (λ (s : Section). s.relocations) (each_either_section_left l.section-iterator);
  within : l.earlier ≤ length (relocations_of (form_of l.object) (file_of l.object));
  small : l.earlier + 65536 * length (each_either_section_left l.section-iterator) ≤ 65536 * length (object_of (form_of l.object) (file_of l.object)).sections;
}
