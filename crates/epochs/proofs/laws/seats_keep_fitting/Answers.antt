use Rattle.epochs.proofs.SeatLemmas.{new_seats_fit, pins_leave_others, releases_leave_others, publishes_leave_seats, collects_leave_seats}
use Rattle.epochs.proofs.laws.seats_keep_fitting.Goals as goal

pub returns : goal.returns
returns c = record {
  new = new_seats_fit;
  pins = pins_leave_others;
  releases = releases_leave_others;
  publishes = publishes_leave_seats;
  collects = collects_leave_seats;
}
