-- The numbers of the header are those that were added.
use Rattle.std.proofs.Common.{sym}
use Rattle.std.proofs.lemmas.List.{length-map}
use Rattle.coff_read.specs.ObjectView.{section_view}
use Rattle.coff_object.proofs.write.push_big_header.Goals as goal

pub returns-clause-bytes : goal.returns-clause-bytes
returns-clause-bytes g c =
    let count = sym (length-map c.args.object.now.sections.now section_view) in
    rw (← c.requires.start, ← count, ← c.requires.records) c.push_numbers.ensures.bytes
