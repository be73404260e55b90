-- The sections that an iterator over an object file has yet to return.
use Rattle.std.specs.Prelude.{◌-◌, List, map}
use Rattle.std.specs.List.{range_with_len}
use Rattle.pe_view.specs.View.{bytes_of}
use Rattle.coff_read.specs.Reading.{section_in, section_start}
use Rattle.coff_read.specs.Records as format
use Rattle.coff_read.specs.declared.sections.EachSection.{EachSection}

abbrev pub each_section_left : {A : Type 0} → EachSection A → List format.Section
each_section_left s = map (section_in (bytes_of s.view)) (map (section_start (bytes_of s.view)) (range_with_len s.next (s.tables.sections - s.next)))
