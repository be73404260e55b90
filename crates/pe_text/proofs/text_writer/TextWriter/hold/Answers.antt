use Rattle.std.proofs.Common.{refl}
use Rattle.pe_text.proofs.Adding.{Adds-held, ◌then◌}
use Rattle.pe_text.proofs.text_writer.TextWriter.hold.Goals as goal

pub returns-clause-adds : goal.returns-clause-adds
returns-clause-adds g c =
    let held = rw c.unwrap.ensures at c.try_extend_from_slice.ensures.ok in
    c.make_room.ensures.adds then Adds-held g.W.Sink.taken g.W.Sink.failures _ _ _ c.make_room.ensures.adds.ready refl held refl
