use Rattle.pe_space.proofs.Ordering.{reordered}
use Rattle.pe_space.proofs.by_base.rebase.Goals as goal

pub returns : goal.returns
returns c = λ ps lt by_base. reordered ps c.args.order.now c.set_base.new.order c.put_in_order.new.items c.args.number c.args.base lt by_base c.set_base.ensures c.put_in_order.ensures
