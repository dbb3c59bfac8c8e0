use Rattle.csa_program.proofs.NewSeats.{all_handed, fewer_seats}
use Rattle.csa_program.proofs.serve.shelves_of.Goals as goal

pub returns-clause-new : goal.returns-clause-new
returns-clause-new c =
    fewer_seats c.in-Ok-new.shelves 16 c.args.workers c.in-Ok-new.seats.items c.truncate.new.self.items c.requires
    c.in-Ok-new.ensures.seats c.truncate.ensures.items

pub returns-clause-all : goal.returns-clause-all
returns-clause-all c =
    all_handed c.in-Ok-new.shelves c.args.workers c.truncate.new.self.items
    (fewer_seats c.in-Ok-new.shelves 16 c.args.workers c.in-Ok-new.seats.items c.truncate.new.self.items c.requires
    c.in-Ok-new.ensures.seats c.truncate.ensures.items)
