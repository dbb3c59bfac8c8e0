use Rattle.image_facts.proofs.Lines.{day_more}
use Rattle.image_facts.proofs.facts.unsorted_days.Goals as goal

pub loop-trip-preserved : goal.loop-trip-preserved
loop-trip-preserved c =
    day_more c.args.image.now.names.trips c.loop-trip.trip c.trip_day.result c.loop-trip.days.items c.push.new.self.items
    c.loop-trip.invariant c.trip_day.ensures c.in_ok-push.ensures.items
