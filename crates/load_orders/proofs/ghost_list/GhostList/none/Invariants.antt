use Rattle.std.proofs.Common.{[]}
use Rattle.load_orders.proofs.ghost_list.GhostList.none.Given as goal

abbrev pub ghost-at : goal.ghost-at
ghost-at g a = []
