use Rattle.orders.proofs.ordered.OrderRecord.put.Given as goal

abbrev pub ghost-at : goal.ghost-at
ghost-at a = a.first.now.now
