use Rattle.std.proofs.Common.{length}
use Rattle.workers.proofs.running.+serve_at_seats.Given as goal

abbrev pub decreases-serve_at_seats : goal.decreases-serve_at_seats
decreases-serve_at_seats g l = length l.seats.items
