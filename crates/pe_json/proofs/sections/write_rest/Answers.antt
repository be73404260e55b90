use Rattle.std.proofs.Common.{◌+◌, ◌++◌, codes}
use Rattle.std.specs.Prelude.{option_map}
use Rattle.coff_read.specs.ImageNames.{table_of}
use Rattle.pe_json.specs.Sections.{section_row}
use Rattle.pe_text.proofs.Adding.{◌then◌}
use Rattle.pe_json.proofs.Objects.{numbered-more, left-out}
use Rattle.pe_json.proofs.sections.write_rest.Goals as goal

pub loop-index-preserved : goal.loop-index-preserved
loop-index-preserved g c =
    let i = c.loop-index.invariant in
    (_, i.1 then c.write_next.ensures, numbered-more (λ index s. codes "," ++ section_row (option_map table_of c.args.strings) index s) (c.loop-index.index + 1) c.loop-index.index _ _ _ _ c.loop-index-test.true i.2)

pub returns-then-has_failed : goal.returns-then-has_failed
returns-then-has_failed g c =
    let i = c.loop-index.invariant in
    left-out _ _ i.0 _ _ i.1 (c.has_failed.ensures.ends c.if-has_failed.true) i.2
