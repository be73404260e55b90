-- The string is no longer than the bytes in which it ends.
use Rattle.coff_read.proofs.Digits.{found_le}
use Rattle.coff_read.proofs.names.up_to_zero.Goals as goal

pub returns-in-Some-clause-shorter : goal.returns-in-Some-clause-shorter
returns-in-Some-clause-shorter c = found_le c.args.bytes.now _ c.in-Some.text.now c.len.result c.new-view.ensures c.len.ensures c.in-Some.ensures
