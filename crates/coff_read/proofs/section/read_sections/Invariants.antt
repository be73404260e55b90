use denote.Param.{number}
use Rattle.std.proofs.Common.{◌≡◌, ◌-◌, ◌++◌}
use Rattle.std.specs.Prelude.{map}
use Rattle.std.specs.List.{range_with_len}
use Rattle.pe_view.specs.TextEnds.{AreEndsOf}
use Rattle.pe_view.specs.View.{bytes_of}
use Rattle.coff_read.specs.ObjectView.{section_view}
use Rattle.coff_read.specs.FormReading.{section_in, section_start, section_starts}
use Rattle.coff_read.specs.contracts.section.read_sections.{BIG-type}
use Rattle.coff_read.proofs.section.read_sections.Given as goal

abbrev pub invariant-loop-i : goal.invariant-loop-i
invariant-loop-i g l =
    let big = BIG-type g.row.A (number g.row.BIG) in
    record {
      known : AreEndsOf (bytes_of l.view) l.ends;
      read :
          map section_view l.sections.items ++ map (section_in big (bytes_of l.view)) (map (section_start big (bytes_of l.view)) (range_with_len l.i (l.tables.sections - l.i)))
          ≡ map (section_in big (bytes_of l.view)) (section_starts big (bytes_of l.view));
    }
