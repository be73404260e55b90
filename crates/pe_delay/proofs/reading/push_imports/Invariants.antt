use Rattle.std.proofs.Common.{◌≡◌, ◌≢◌, ◌-◌, [], ◌++◌, map}
use Rattle.pe_view.specs.TextEnds.{AreEndsOf}
use Rattle.pe_layout.specs.Layout.{file_of, image_of}
use Rattle.pe_tables.specs.ImportView.{import_view}
use Rattle.pe_delay.specs.Entries.{imports_by}
use Rattle.pe_delay.specs.Names.{names_by}
use Rattle.pe_delay.proofs.reading.push_imports.Given as goal

abbrev pub invariant-loop-import : goal.invariant-loop-import
invariant-loop-import g l =
    let all = imports_by (image_of l.layout) l.tables l.«module» l.most in
    (map import_view l.found.imports.items ++ all l.index ≡ map import_view l.fn.found.imports.items ++ all 0)
    × (all l.index ≢ [] → all 0 ≢ [])
    × AreEndsOf (file_of l.layout) l.ends
    × (l.found.name_rvas.items ++ names_by (image_of l.layout) l.tables l.most l.index ≡ l.fn.found.name_rvas.items ++ names_by (image_of l.layout) l.tables l.most 0)

abbrev pub decreases-loop-import : goal.decreases-loop-import
decreases-loop-import g l = l.most - l.index
