use Rattle.std.proofs.Common.{◌≡◌, ◌∙◌, All, subst, sym}
use Rattle.shelves.specs.ShelfSeats.{shelf_seats}
use Rattle.workers.specs.Sessions.{MayClose}
use Rattle.workers.specs.Words.{sessions_of}
use Rattle.workers.proofs.headline.run_shelves.Goals as goal

-- the seats and the loader's are of the shelves of this name
pub named_seats-requires : goal.named_seats-requires
named_seats-requires g c =
    subst (λ table. All (λ seat. seat.table ≡ table) c.args.seats.items) c.requires.ready.named c.requires.ready.ready.fit

pub of-loader-requires : goal.of-loader-requires
of-loader-requires g c = c.requires.ready.ready.loader_fits ∙ c.requires.ready.named

-- the seats are the same under their shelves' name
pub run_workers-requires-clause-closes : goal.run_workers-requires-clause-closes
run_workers-requires-clause-closes g c κs within =
    subst (λ items. MayClose (sessions_of c.args.form g.C.Client.words g.C.Reader.ReadStream.words g.C.Writer.WriteStream.words shelf_seats) items)
    (sym c.in-Ok.ensures) c.requires.closes
