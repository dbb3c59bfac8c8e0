use Rattle.std.proofs.Common.{rules}
use Rattle.load_orders.proofs.taking.WorkerOrders.new.Goals as goal

-- nothing was asked for, whatever was tried at this end before
pub invariant_of-result : goal.invariant_of-result
invariant_of-result g c = (c.args.end.tries, search rules)
