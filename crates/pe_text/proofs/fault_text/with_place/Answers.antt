use Rattle.std.proofs.Common.{◌≡◌, take}
use Rattle.pe_text.proofs.Room.{adds}
use Rattle.pe_text.proofs.fault_text.with_place.Goals as goal

pub returns : goal.returns
returns c =
    let first : c.add.new.text.items ≡ take 256 c.args.words.subject.now = rw (c.new-text.ensures, c.as_bytes.ensures.value) at c.add.ensures in
    let at = adds 256 _ _ first (rw c.as_bytes-2.ensures.value at c.add-2.ensures) in
    let number = adds 256 _ _ at c.add-3.ensures in
    let colon = adds 256 _ _ number c.add-4.ensures in
    adds 256 _ _ colon (rw c.as_bytes-3.ensures.value at c.add-5.ensures)
