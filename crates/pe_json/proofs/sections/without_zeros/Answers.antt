use Rattle.pe_json.proofs.Zeros.{len_more}
use Rattle.pe_json.proofs.sections.without_zeros.Goals as goal

pub loop-index-preserved : goal.loop-index-preserved
loop-index-preserved c =
    let i = c.loop-index.invariant in
    len_more c.args.bytes.now c.loop-index.index _ c.loop-index.len _ c.loop-index-test.true c.len_with-len.ensures i.0 i.1
