use Rattle.std.proofs.Common.{arith, lit<}
use Rattle.std.proofs.lemmas.Nat.{shl_whole}
use Rattle.page_heap.proofs.class.class_size.Goals as goal

pub returns : goal.returns
returns c = shl_whole 16 5 c.args.class 64 (lit< tt) (omega arith)
