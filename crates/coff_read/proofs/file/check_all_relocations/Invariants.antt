use denote.Param.{number}
use Rattle.std.proofs.Common.{◌≡◌, ◌-◌, None}
use Rattle.std.specs.Prelude.{map}
use Rattle.std.specs.List.{flat_map, range_with_len}
use Rattle.pe_view.specs.Faults.{first_standing}
use Rattle.pe_view.specs.View.{bytes_of}
use Rattle.coff_read.specs.FormFaults.{section_tests, relocation_tests}
use Rattle.coff_read.specs.FormReading.{section_start, section_starts}
use Rattle.coff_read.specs.contracts.file.check_all_relocations.{BIG-type}
use Rattle.coff_read.proofs.file.check_all_relocations.Given as goal

abbrev pub invariant-loop-i : goal.invariant-loop-i
invariant-loop-i g l =
    let big = BIG-type (number g.row.BIG) in
    record {
      first :
          first_standing (flat_map (relocation_tests big (bytes_of l.view)) (map (section_start big (bytes_of l.view)) (range_with_len l.i (l.tables.sections - l.i))))
          ≡ first_standing (flat_map (relocation_tests big (bytes_of l.view)) (section_starts big (bytes_of l.view)));
      sound : first_standing (flat_map (section_tests big (bytes_of l.view)) (map (section_start big (bytes_of l.view)) (range_with_len l.i (l.tables.sections - l.i)))) ≡ None;
    }
