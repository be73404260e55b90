use Rattle.std.proofs.Common.{◌-◌, arith}
use Rattle.page_heap.proofs.Sizes.{few_zeros}
use Rattle.page_heap.proofs.class.class_of.Goals as goal

pub overflow_sub-result : goal.overflow_sub-result
overflow_sub-result c = few_zeros (c.max-last.result - 1) (omega arith) (omega arith)
