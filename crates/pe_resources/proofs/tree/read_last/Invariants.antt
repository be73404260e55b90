use Rattle.pe_layout.specs.Layout.{image_of}
use Rattle.pe_resources.specs.Found.{Shows, AreSome}
use Rattle.pe_resources.specs.Walk.{Walk, read_entry, read_entries, read_directory}
use Rattle.pe_resources.proofs.tree.read_last.Given as goal

abbrev pub invariant-loop-index : goal.invariant-loop-index
invariant-loop-index g l =
    let i = image_of l.section.layout.now in
    let s = l.section.start in
    record {
      some : AreSome l.found;
      shows : (w : Walk) → Shows l.initial.found w → Shows l.found (read_entries i s (read_entry i s 0 (read_directory i s 0) l.path) l.offset l.index w);
    }
