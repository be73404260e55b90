use Rattle.std.proofs.Common.{refl}
use Rattle.pe_text.proofs.RuleWords.{row_found, row_passed, none_found}
use Rattle.pe_text.proofs.fault_text.words_among.Goals as goal

pub loop-of-init : goal.loop-of-init
loop-of-init c = refl

pub returns-then-of-number : goal.returns-then-of-number
returns-then-of-number c = row_found c.args.rules.now c.loop-of.of-index c.args.number _ _ c.loop-of-test.true c.loop-of.invariant c.if-of-number.true

pub loop-of-preserved : goal.loop-of-preserved
loop-of-preserved c = row_passed c.args.rules.now c.loop-of.of-index c.args.number _ _ c.loop-of-test.true c.loop-of.invariant c.if-of-number.false

pub returns : goal.returns
returns c = none_found c.args.rules.now c.loop-of.of-index c.args.number _ c.loop-of-test.false c.loop-of.invariant
