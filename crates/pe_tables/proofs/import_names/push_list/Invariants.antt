use Rattle.std.proofs.Common.{◌≡◌, ◌-◌, ◌++◌}
use Rattle.std.specs.List.{flat_map}
use Rattle.pe_layout.specs.Layout.{image_of}
use Rattle.pe_tables.specs.Imports.{descriptors_from}
use Rattle.pe_tables.specs.ImportNames.{names_in, import_names_at}
use Rattle.pe_tables.proofs.import_names.push_list.Given as goal

abbrev pub invariant-loop-rva : goal.invariant-loop-rva
invariant-loop-rva g l =
    let i = image_of l.layout in
    l.names.items ++ flat_map (names_in i) (descriptors_from (i.size - l.rva) i l.rva) ≡ l.initial.names.items ++ import_names_at i l.start

abbrev pub decreases-loop-rva : goal.decreases-loop-rva
decreases-loop-rva g l = (image_of l.layout).size - l.rva
