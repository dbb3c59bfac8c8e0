use Rattle.shelf_steps.proofs.NoteSteps.{notes_events, joins_events}
use Rattle.shelf_steps.proofs.laws.notices_are_events.Goals as goal

pub returns : goal.returns
returns c = record {
  notes = notes_events;
  joins = joins_events;
}
