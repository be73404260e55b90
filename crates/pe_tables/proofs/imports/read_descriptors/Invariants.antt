use Rattle.std.proofs.Common.{◌≡◌, ◌-◌, ◌++◌, []}
use Rattle.std.specs.Prelude.{IsTrue}
use Rattle.std.specs.List.{flat_map}
use Rattle.pe_view.specs.Faults.{first_standing}
use Rattle.pe_view.specs.TextEnds.{AreEndsOf}
use Rattle.pe_layout.specs.Layout.{file_of, image_of}
use Rattle.pe_tables.specs.Imports.{descriptors_from, descriptors_of, imports_in}
use Rattle.pe_tables.specs.ImportFaults.{descriptors_tests}
use Rattle.pe_tables.specs.TableFaults.{goes_past}
use Rattle.pe_tables.specs.ImportReading.{read_of, IsIndexed}
use Rattle.pe_tables.proofs.imports.read_descriptors.Given as goal

abbrev pub invariant-loop-rva : goal.invariant-loop-rva
invariant-loop-rva g l =
    let i = image_of l.layout in
    let left = descriptors_from (i.size - l.rva) i l.rva in
    record {
      known : AreEndsOf (file_of l.layout) l.ends;
      indexed : IsIndexed i.slot_width l.found;
      tests : first_standing (descriptors_tests i (read_of l.found) left) ≡ first_standing (descriptors_tests i [] (descriptors_of i l.start));
      past : IsTrue (goes_past 31 (descriptors_tests i (read_of l.found) left)) → IsTrue (goes_past 31 (descriptors_tests i [] (descriptors_of i l.start)));
      imports : read_of l.found ++ flat_map (imports_in i) left ≡ flat_map (imports_in i) (descriptors_of i l.start);
    }

abbrev pub decreases-loop-rva : goal.decreases-loop-rva
decreases-loop-rva g l = (image_of l.layout).size - l.rva
