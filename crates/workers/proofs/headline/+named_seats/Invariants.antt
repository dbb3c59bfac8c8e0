use Rattle.std.proofs.Common.{length}
use Rattle.workers.proofs.headline.+named_seats.Given as goal

abbrev pub decreases-named_seats : goal.decreases-named_seats
decreases-named_seats g l = length l.seats.items
