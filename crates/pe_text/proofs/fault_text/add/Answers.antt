use Rattle.std.proofs.Common.{◌≡◌, ◌+◌, arith, ◌∙◌, length}
use Rattle.pe_text.proofs.Room.{filled}
use Rattle.pe_text.proofs.fault_text.add.Goals as goal

pub returns : goal.returns
returns c =
    let held = rw c.unwrap.ensures at c.try_extend_from_slice.ensures.ok in
    let room : c.remaining_capacity.result + length c.args.text.now.items ≡ 256 = c.remaining_capacity.ensures in
    let count = c.min-count.ensures in
    held ∙ filled 256 c.min-count.result c.args.text.now.items c.args.bytes.now (omega (arith, room)) (omega (arith, room, count))
