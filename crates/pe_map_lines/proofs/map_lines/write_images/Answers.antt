use Rattle.pe_text.proofs.Adding.{◌then◌}
use Rattle.pe_text.proofs.Numbering.{numbered-next}
use Rattle.pe_map_lines.proofs.map_lines.write_images.Goals as goal

pub loop-number-preserved : goal.loop-number-preserved
loop-number-preserved g c =
    let i = c.loop-number.invariant in
    let line = rw (c.unwrap_or-size.ensures, c.size_of.ensures) at c.write_image.ensures in
    (_, i.1 then line, numbered-next _ _ _ _ _ _ c.loop-number-test.true i.2)
