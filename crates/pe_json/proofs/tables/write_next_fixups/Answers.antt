use Rattle.std.proofs.Common.{◌++◌, codes}
use Rattle.pe_json.specs.TableRows.{fixup_row}
use Rattle.pe_json.proofs.Objects.{left-out, rows_left}
use Rattle.pe_json.proofs.tables.write_next_fixups.Goals as goal

pub returns-then-has_failed : goal.returns-then-has_failed
returns-then-has_failed g c = left-out _ _ _ _ _ c.loop-fixup.invariant.adds (c.has_failed.ensures.ends c.if-has_failed.true)
    (rows_left (λ f. codes "," ++ fixup_row f) c.loop-fixup.fixup-index c.args.fixups.now)
