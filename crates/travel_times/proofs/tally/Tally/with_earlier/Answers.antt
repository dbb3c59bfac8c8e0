use Rattle.std.proofs.Common.{◌∙◌, ap, arith, min}
use Rattle.travel_times.proofs.Tallies.{one_earlier}
use Rattle.travel_times.proofs.tally.Tally.with_earlier.Goals as goal

pub returns-clause-known : goal.returns-clause-known
returns-clause-known c later known before_all =
    let counted = c.counted_from-counted.ensures in
    let second = c.max.ensures in
    let departure = c.from-second.ensures in
    let clamped = c.min.ensures in
    let after = c.from.ensures in
    one_earlier c.args.after c.args.until c.args.span later c.args.self _ known before_all c.max.result
    (omega (arith, second, departure, clamped, after)) counted.next
    (c.min-2.ensures ∙ ap (min c.args.span.arrival) counted.earliest) counted.sum
