use Rattle.timetable.specs.NamesValue.{TripNameValue}
use Rattle.image_verifier.proofs.NameReads.{within_trips, trip_as_read}
use Rattle.image_verifier.proofs.verified.Verified.trip_day.Goals as goal

pub day_at-requires-clause-within : goal.day_at-requires-clause-within
day_at-requires-clause-within c = within_trips _ _ _ c.args.trip c.self.view_is c.deref.ensures.value c.requires

pub returns : goal.returns
returns c = trip_as_read (λ (t : TripNameValue). t.day) _ _ _ c.args.trip _ c.self.view_is c.deref.ensures.value c.requires c.day_at.ensures
