use Rattle.std.proofs.Common.{◌≡◌, ◌-◌, ◌++◌}
use Rattle.std.specs.List.{filter_map}
use Rattle.pe_layout.specs.Layout.{image_of}
use Rattle.pe_tables.specs.Imports.{lookups_of}
use Rattle.pe_tables.specs.ImportNames.{name_of_lookup}
use Rattle.pe_tables.proofs.ImportNames.{names_from}
use Rattle.pe_tables.proofs.import_names.push_names.Given as goal

abbrev pub invariant-loop-rva : goal.invariant-loop-rva
invariant-loop-rva g l =
    let i = image_of l.layout in
    l.names.items ++ names_from i l.rva ≡ l.initial.names.items ++ filter_map (name_of_lookup i) (lookups_of i l.fn.descriptor)

abbrev pub decreases-loop-rva : goal.decreases-loop-rva
decreases-loop-rva g l = (image_of l.layout).size - l.rva
