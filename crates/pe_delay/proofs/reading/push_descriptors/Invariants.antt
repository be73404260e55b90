use Rattle.std.proofs.Common.{◌≡◌, ◌≢◌, ◌≤◌, [], ◌++◌, length, map}
use Rattle.pe_view.specs.TextEnds.{AreEndsOf}
use Rattle.pe_layout.specs.Layout.{file_of, image_of}
use Rattle.pe_tables.specs.ImportView.{import_view}
use Rattle.pe_delay.specs.Imports.{delay_imports_of, imports_after}
use Rattle.pe_delay.specs.Left.{descriptors_left}
use Rattle.pe_delay.specs.Names.{delay_names_of, names_after}
use Rattle.pe_delay.proofs.reading.push_descriptors.Given as goal

abbrev pub invariant-loop-descriptor : goal.invariant-loop-descriptor
invariant-loop-descriptor g l =
    let i = image_of l.layout in
    (map import_view l.found.imports.items ++ imports_after i l.read (descriptors_left l.descriptors) ≡ map import_view l.fn.found.imports.items ++ delay_imports_of i)
    × (imports_after i l.read (descriptors_left l.descriptors) ≢ [] → delay_imports_of i ≢ [])
    × AreEndsOf (file_of l.layout) l.ends
    × (l.read ≤ 1048576)
    × (l.found.name_rvas.items ++ names_after i l.read (descriptors_left l.descriptors) ≡ l.fn.found.name_rvas.items ++ delay_names_of i)

abbrev pub decreases-loop-descriptor : goal.decreases-loop-descriptor
decreases-loop-descriptor g l = length (descriptors_left l.descriptors)
