use Rattle.shelves.proofs.OneHistory.{beginnings_known, images_agreed}
use Rattle.shelves.proofs.laws.seats_know_one_history.Goals as goal

pub returns : goal.returns
returns c = record { beginnings = beginnings_known; agree = images_agreed }
