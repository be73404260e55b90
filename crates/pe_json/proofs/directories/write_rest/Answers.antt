use Rattle.std.proofs.Common.{◌+◌, ◌++◌, codes}
use Rattle.pe_json.specs.Headers.{directory_row}
use Rattle.pe_text.proofs.Adding.{◌then◌}
use Rattle.pe_json.proofs.Objects.{numbered-more}
use Rattle.pe_json.proofs.directories.write_rest.Goals as goal

pub loop-index-preserved : goal.loop-index-preserved
loop-index-preserved g c =
    let i = c.loop-index.invariant in
    (_, i.1 then c.write_next.ensures, numbered-more (λ index d. codes "," ++ directory_row index d) (c.loop-index.index + 1) c.loop-index.index _ _ _ _ c.loop-index-test.true i.2)
