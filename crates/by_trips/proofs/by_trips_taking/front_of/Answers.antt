use Rattle.std.proofs.Common.{arith}
use Rattle.std.proofs.lemmas.Option.{slice_get-get_or}
use Rattle.reasoning.proofs.ListLemmas.{contains_at}
use Rattle.by_trips.proofs.ByTripsTaken.{first_all, first_more, first_none, value_in_time}
use Rattle.by_trips.proofs.by_trips_taking.front_of.Goals as goal

pub loop-k-init : goal.loop-k-init
loop-k-init c = first_none c.args.values.now c.none-front.result c.none-front.ensures

pub with-front-requires : goal.with-front-requires
with-front-requires c =
    let at = slice_get-get_or c.args.values.now c.loop-k.k (record { time = 0; trips = 0 }) c.loop-k-test.true in
    value_in_time _ (c.requires _ (contains_at c.args.values.now c.loop-k.k _ at))

pub loop-k-preserved : goal.loop-k-preserved
loop-k-preserved c =
    let at = slice_get-get_or c.args.values.now c.loop-k.k (record { time = 0; trips = 0 }) c.loop-k-test.true in
    first_more c.args.values.now c.loop-k.k _ at c.loop-k.front c.with-front.result c.with-front.ensures.only c.with-front.ensures.kept
    c.with-front.ensures.taken c.loop-k.invariant

pub returns : goal.returns
returns c =
    let over = c.loop-k-test.false in
    first_all c.args.values.now c.loop-k.k c.loop-k.front (omega (arith, over)) c.loop-k.invariant
