use Rattle.std.proofs.Common.{◌≡◌, ◌++◌, drop}
use Rattle.std.specs.Prelude.{map}
use Rattle.std.specs.List.{flat_map, AllByRecursion}
use Rattle.coff_read.specs.ObjectView.{section_view}
use Rattle.coff_read.specs.Records.{RelocationsFit}
use Rattle.coff_object.specs.Written.{section_body}
use Rattle.coff_object.proofs.write.push_bodies.Given as goal

abbrev pub invariant-loop-section : goal.invariant-loop-section
invariant-loop-section g l = record {
  told : AllByRecursion RelocationsFit (map section_view (drop l.section-index l.sections)) → AllByRecursion RelocationsFit (map section_view l.sections);
  bytes :
      l.bytes.items ++ flat_map section_body (map section_view (drop l.section-index l.sections))
      ≡ l.initial.bytes.items ++ flat_map section_body (map section_view l.sections);
}
