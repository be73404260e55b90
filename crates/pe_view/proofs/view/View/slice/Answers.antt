use Rattle.std.proofs.Common.{arith}
use Rattle.pe_view.proofs.view.View.slice.Goals as goal

pub slice_bounds-result-end : goal.slice_bounds-result-end
slice_bounds-result-end c = omega arith
