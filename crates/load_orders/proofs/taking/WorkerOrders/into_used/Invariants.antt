use Rattle.std.proofs.Common.{map, string_bytes}
use Rattle.load_orders.proofs.taking.WorkerOrders.into_used.Given as goal

abbrev pub ghost-at : goal.ghost-at
ghost-at g a = map string_bytes a.first.now.now
