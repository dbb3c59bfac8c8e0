use Rattle.std.proofs.Common.{◌≡◌, ◌<◌, [], length, subst}
use Rattle.scan_state.specs.SetQuery.{question}
use Rattle.by_trips.specs.ByTrips.{points_beyond}
use Rattle.by_trips.proofs.ByTripsLeft.{none_changed}
use Rattle.by_trips.proofs.by_trips.ByTrips.change_beyond.Goals as goal

pub returns-then-not-has_any : goal.returns-then-not-has_any
returns-then-not-has_any c =
    none_changed (question c.args.asked.now.query) c.args.hop.now c.args.self.now c.requires
    (subst (λ bags. points_beyond bags c.args.hop.now.connection.to ≡ []) c.deref.ensures.value (c.has_any.ensures.none c.if-not-has_any.true))

pub change_each-requires-clause-can : goal.change_each-requires-clause-can
change_each-requires-clause-can c = c.requires

pub change_each-requires-clause-stop : goal.change_each-requires-clause-stop
change_each-requires-clause-stop c =
    subst (λ bags. c.args.hop.now.connection.to < length bags) c.deref.ensures.value (c.has_any.ensures.some c.if-not-has_any.false)
