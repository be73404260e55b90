use Rattle.pe_text.proofs.Adding.{◌then◌}
use Rattle.pe_text.proofs.Numbering.{numbered-next}
use Rattle.pe_lines.proofs.dump_lines.write_sections.Goals as goal

pub loop-index-preserved : goal.loop-index-preserved
loop-index-preserved g c =
    let i = c.loop-index.invariant in
    (_, i.1 then c.write_section.ensures, numbered-next _ _ _ _ _ _ c.loop-index-test.true i.2)
