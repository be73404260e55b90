use Rattle.pe_image.proofs.ImportSlots.{slot_found, slot_passed, no_slot}
use Rattle.pe_image.proofs.slots.with_slot.Goals as goal

pub returns-then-import-slot : goal.returns-then-import-slot
returns-then-import-slot c = slot_found c.args.imports.now c.args.slot c.loop-import.import-index _ _ c.loop-import-test.true c.loop-import.invariant c.if-import-slot.true

pub loop-import-preserved : goal.loop-import-preserved
loop-import-preserved c = slot_passed c.args.imports.now c.args.slot c.loop-import.import-index _ _ c.loop-import-test.true c.loop-import.invariant c.if-import-slot.false

pub returns : goal.returns
returns c = no_slot c.args.imports.now c.args.slot c.loop-import.import-index _ c.loop-import-test.false c.loop-import.invariant
