use Rattle.std.proofs.Common.{◌≡◌, ◌+◌, ◌<◌, ◌^◌, ◌++◌, drop, length, false}
use Rattle.std.specs.Prelude.{map}
use Rattle.std.specs.List.{flat_map, AllByRecursion}
use Rattle.coff_read.specs.ObjectView.{section_view}
use Rattle.coff_read.specs.Records.{Section, SectionFits}
use Rattle.coff_object.specs.StringTableWords.{texts_in}
use Rattle.coff_object.specs.WriteFaults.{is_far, has_many_relocations}
use Rattle.coff_object.specs.Written.{section_body, section_table}
use Rattle.coff_object.proofs.write.push_table.Given as goal

abbrev pub invariant-loop-section : goal.invariant-loop-section
invariant-loop-section g l = record {
  near : AllByRecursion (λ (s : Section). is_far (texts_in l.places.strings) s ≡ false) (map section_view (drop (length l.yielded) l.sections));
  few : AllByRecursion (λ (s : Section). has_many_relocations s ≡ false) (map section_view (drop (length l.yielded) l.sections));
  fits : l.at + length (flat_map section_body (map section_view (drop (length l.yielded) l.sections))) < 2 ^ 32;
  told : AllByRecursion SectionFits (map section_view (drop (length l.yielded) l.sections)) → AllByRecursion SectionFits (map section_view l.sections);
  bytes :
      l.bytes.items ++ section_table (texts_in l.places.strings) l.at (map section_view (drop (length l.yielded) l.sections))
      ≡ l.initial.bytes.items ++ section_table (texts_in l.places.strings) l.start (map section_view l.sections);
}
