use Rattle.std.proofs.Common.{◌++◌}
use Rattle.load_orders.proofs.ghost_list.GhostList.append.Given as goal

abbrev pub ghost-at : goal.ghost-at
ghost-at g a = a.first.now.value ++ a.second.now.value
