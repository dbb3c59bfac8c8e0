use Rattle.std.proofs.Common.{◌+◌, sym, subst, arith}
use Rattle.std.proofs.lemmas.Option.{slice_get-get_or}
use Rattle.by_arrival.proofs.ByArrivalLemmas.{IsLeastOf, least_all, least_more, least_none}
use Rattle.by_arrival.proofs.by_arrival.least_of.Goals as goal

pub loop-k-init : goal.loop-k-init
loop-k-init c = least_none c.args.values.now

pub loop-k-preserved : goal.loop-k-preserved
loop-k-preserved c =
    let values = c.args.values.now in
    let k = c.loop-k.k in
    subst (IsLeastOf values (k + 1)) (sym c.min-least.ensures)
    (least_more values k _ c.loop-k.least (slice_get-get_or values k 0 c.loop-k-test.true) c.loop-k.invariant)

pub returns-clause-one : goal.returns-clause-one
returns-clause-one c = c.loop-k.invariant.one

pub returns-clause-least : goal.returns-clause-least
returns-clause-least c =
    let over = c.loop-k-test.false in
    least_all c.args.values.now c.loop-k.k c.loop-k.least (omega (arith, over)) c.loop-k.invariant
