use Rattle.shelf_steps.proofs.Says.{words_are, counts_are, numbers_differ, held_have, slots_out, slots_home, looks_are, one_loads, notices_old}
use Rattle.shelf_steps.proofs.Held.{spares_are}
use Rattle.shelf_steps.proofs.Shown.{one_history}
use Rattle.shelf_steps.proofs.laws.the_rule_says.Goals as goal

pub returns : goal.returns
returns c = record {
  words = words_are;
  counts = counts_are;
  numbers = numbers_differ;
  held = held_have;
  out = slots_out;
  home = slots_home;
  free = spares_are;
  looks = looks_are;
  history = one_history;
  loader = one_loads;
  notices = notices_old;
}
