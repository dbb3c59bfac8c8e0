use Rattle.shelves.proofs.HandedSeats.{handed_fit}
use Rattle.shelves.proofs.shelves.Shelves.new.Goals as goal

pub returns-in-Ok-clause-fits : goal.returns-in-Ok-clause-fits
returns-in-Ok-clause-fits c = handed_fit _ 16 _ c.in-Ok.ensures.seats
