use Rattle.shelf_steps.proofs.Events.{looks_events, takes_events, drops_events, opens_events, publishes_events, closes_events, collects_events, spares_events}
use Rattle.shelf_steps.proofs.laws.each_step_is_its_event.Goals as goal

pub returns : goal.returns
returns c = record {
  look = looks_events;
  take = takes_events;
  drop = drops_events;
  «open» = opens_events;
  publish = publishes_events;
  close = closes_events;
  collect = collects_events;
  spare = spares_events;
}
