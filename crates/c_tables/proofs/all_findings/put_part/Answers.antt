-- One more finding of this part.
use Rattle.std.proofs.Common.{◌<◌, length, refl, arith}
use Rattle.c_tables.proofs.FindingParts.{part_counted, part_stored}
use Rattle.c_tables.proofs.all_findings.put_part.Goals as goal

pub loop-index-preserved : goal.loop-index-preserved
loop-index-preserved c =
    let i = c.loop-index.invariant in
    let found = c.args.found.now in
    let under : c.loop-index.index < length found = c.loop-index-test.true in
    let few = i.few in
    record {
      told = λ done initial len is.
          part_stored c.args.is_late found done c.loop-index.index c.args.start c.loop-index.count _ _ initial c.loop-index.rows c.put_row.new.rows c.fault_record.result under refl c.if-not-is_of_part.ensures len i.counted (i.told done initial len is) c.fault_record.ensures c.put_row.ensures;
      counted = part_counted c.args.is_late found c.loop-index.index c.args.start c.loop-index.count _ _ under refl c.if-not-is_of_part.ensures i.counted;
      few = omega (arith, few);
    }
