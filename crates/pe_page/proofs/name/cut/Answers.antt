use Rattle.std.proofs.Common.{sym, arith, take_all, length-take-le}
use Rattle.pe_page.proofs.name.cut.Goals as goal

pub returns-then-name-limit : goal.returns-then-name-limit
returns-then-name-limit c = sym (take_all c.args.limit c.args.name.now (omega (arith, c.if-name-limit.true)))

pub slice_bounds-result-end : goal.slice_bounds-result-end
slice_bounds-result-end c = sym (length-take-le c.args.limit c.args.name.now (omega (arith, c.if-name-limit.false)))
