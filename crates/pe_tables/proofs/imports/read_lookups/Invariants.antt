use Rattle.std.proofs.Common.{◌≡◌, ◌-◌, ◌++◌}
use Rattle.std.specs.Prelude.{IsTrue}
use Rattle.std.specs.List.{filter_map}
use Rattle.pe_view.specs.Faults.{first_standing}
use Rattle.pe_view.specs.TextEnds.{AreEndsOf}
use Rattle.pe_layout.specs.Layout.{file_of, image_of}
use Rattle.pe_tables.specs.Imports.{lookups_from, lookups_of, import_of}
use Rattle.pe_tables.specs.ImportFaults.{lookups_tests}
use Rattle.pe_tables.specs.TableFaults.{goes_past}
use Rattle.pe_tables.specs.ImportReading.{read_of, IsIndexed}
use Rattle.pe_tables.proofs.imports.read_lookups.Given as goal

abbrev pub invariant-loop-rva : goal.invariant-loop-rva
invariant-loop-rva g l =
    let i = image_of l.layout in
    let left = lookups_from (i.size - l.rva) i l.rva l.slot in
    let all = lookups_of i l.fn.descriptor in
    record {
      known : AreEndsOf (file_of l.layout) l.ends;
      indexed : IsIndexed i.slot_width l.found;
      tests : first_standing (lookups_tests i l.«module» (read_of l.found) left) ≡ first_standing (lookups_tests i l.«module» (read_of l.initial.found) all);
      past : IsTrue (goes_past 31 (lookups_tests i l.«module» (read_of l.found) left)) → IsTrue (goes_past 31 (lookups_tests i l.«module» (read_of l.initial.found) all));
      imports : read_of l.found ++ filter_map (import_of i l.«module») left ≡ read_of l.initial.found ++ filter_map (import_of i l.«module») all;
    }

abbrev pub decreases-loop-rva : goal.decreases-loop-rva
decreases-loop-rva g l = (image_of l.layout).size - l.rva
