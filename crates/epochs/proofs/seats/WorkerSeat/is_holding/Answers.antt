use Rattle.std.proofs.Common.{ap, sym, ◌∙◌, Option}
use Rattle.epochs.specs.declared.seats.Pin.{Pin}
use Rattle.epochs.specs.WorkerSeats.{worker_of, held_of}
use Rattle.epochs.proofs.seats.WorkerSeat.is_holding.Goals as goal

pub returns-in-Some : goal.returns-in-Some
returns-in-Some c =
    let pin = c.in-Some.field-0 in
    rw (← c.self.view_is) (
      (λ none. let both =
          sym (ap (λ (o : Option Pin). held_of o) c.in-Some.is) ∙ none in absurd (cc)),
      (
        pin.shelf,
        pin.edition.version,
        ap (λ (o : Option Pin). worker_of o) c.in-Some.is,
      ),
    )
