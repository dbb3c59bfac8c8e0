use Rattle.std.proofs.Common.{length, refl, ◌∙◌, ap, arith}
use Rattle.std.proofs.lemmas.Bool.{ltb-false}
use Rattle.std.proofs.lemmas.List.{nil_from_length}
use Rattle.bags.specs.Bag.{points_of}
use Rattle.std.proofs.lemmas.Option.{slice_get_past, slice_get_read}
use Rattle.by_trips.specs.ByTrips.{bag_points}
use Rattle.by_trips.proofs.by_trips.has_any.Goals as goal

pub returns-in-None-clause-none : goal.returns-in-None-clause-none
returns-in-None-clause-none c = λ none. ap bag_points (slice_get_past c.args.bags.now c.args.k c.in-None.ensures.lookup.3)

pub returns-in-Some-clause-none : goal.returns-in-Some-clause-none
returns-in-Some-clause-none c = λ none.
    let bag = c.in-Some.bag.now in
    let few = ltb-false 0 c.len.result none in
    let long = c.len.ensures in
    ap bag_points (slice_get_read c.args.bags.now (length c.args.bags.now) c.args.k bag refl c.in-Some.ensures.lookup.3.0 c.in-Some.ensures.lookup.1)
    ∙ nil_from_length (points_of bag) (omega (arith, few, long))

pub returns-in-Some-clause-some : goal.returns-in-Some-clause-some
returns-in-Some-clause-some c = λ some. c.in-Some.ensures.lookup.3.0
