use Rattle.shelf_steps.proofs.Opens.{start_ruled, hands_out}
use Rattle.shelf_steps.proofs.Works.{looks_add, takes_add, leaves_add, gives_add}
use Rattle.shelf_steps.proofs.Loads.{opens_add, publishes_add, closes_add, collects_add, gathers_add, puts_add}
use Rattle.shelf_steps.proofs.laws.each_step_keeps_the_rule.Goals as goal

pub returns : goal.returns
returns c = record {
  start = start_ruled;
  seat = hands_out;
  look = looks_add;
  take = takes_add;
  leave = leaves_add;
  give_back = gives_add;
  «open» = opens_add;
  publish = publishes_add;
  close = closes_add;
  collect = collects_add;
  gather = gathers_add;
  put_back = puts_add;
}
