use Rattle.orders.proofs.ordered.OrderRecord.waited.Given as goal

abbrev pub ghost-at : goal.ghost-at
ghost-at g a = a.first.now.now
