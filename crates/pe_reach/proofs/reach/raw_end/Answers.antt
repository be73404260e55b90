use Rattle.std.proofs.Common.{◌≡◌, ◌<◌, arith}
use Rattle.std.specs.Prelude.{max}
use Rattle.pe_head.specs.Checked.{checked_file}
use Rattle.pe_head.specs.Head.{coff_field, section_at}
use Rattle.pe_reach.proofs.RawEnds.{end_of, end_of_some, end_of_none, after_section}
use Rattle.pe_reach.proofs.reach.raw_end.Goals as goal
use Rattle.pe_reach.proofs.reach.raw_end.Goals.{then-rawlen-gt0, else-rawlen-gt0}

pub loop-index-preserved : goal.loop-index-preserved
loop-index-preserved c =
    let file = checked_file c.args.headers in
    let s = c.section-section.result in
    let t = section_at file c.loop-index.index in
    let lt : c.loop-index.index < coff_field file 2 2 = omega (arith, c.loop-index-test.true, c.number_of_sections-index-end.ensures.value) in
    let now : c.if-rawlen-gt0.end ≡ max c.loop-index.end (end_of t) =
    elim c.if-rawlen-gt0.branch [
      | then-rawlen-gt0 w ↦ omega (arith, w.end-is, w.max-end.ensures, w.from.ensures, w.from-then-rawlen-gt0.ensures, end_of_some s t c.rawlen-rawlen.result c.section-section.ensures c.rawlen-rawlen.ensures w.if-rawlen-gt0.true)
      | else-rawlen-gt0 w ↦ omega (arith, w.end-is, end_of_none s t c.rawlen-rawlen.result c.section-section.ensures c.rawlen-rawlen.ensures (omega (arith, w.if-rawlen-gt0.false)))
    ] in
    after_section file c.loop-index.index (coff_field file 2 2) c.loop-index.end c.if-rawlen-gt0.end _ lt now c.loop-index.invariant
