use Rattle.std.proofs.Common.{◌≡◌, ◌++◌}
use Rattle.std.specs.Prelude.{map}
use Rattle.coff_read.specs.EitherLeft.{each_either_section_left}
use Rattle.coff_read.specs.EitherObject.{form_of, file_of}
use Rattle.coff_read.specs.FileView.{file_section_view}
use Rattle.coff_read.specs.FormReading.{object_of}
use Rattle.pe_page.proofs.file_sections.read_sections.Given as goal

-- those that were pushed and those that are left are the sections of the object
abbrev pub invariant-loop-section : goal.invariant-loop-section
invariant-loop-section g l = map file_section_view l.sections.items ++ each_either_section_left l.section-iterator ≡ (object_of (form_of l.object) (file_of l.object)).sections
