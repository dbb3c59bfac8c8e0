use Rattle.std.proofs.Common.{◌∙◌, ap, sym, arith}
use Rattle.std.specs.Prelude.{option_copied}
use Rattle.travel_times.proofs.Tallies.{mean_of_tally, no_departures, no_mean}
use Rattle.travel_times.proofs.waiting.mean_wait.Goals as goal

pub returns-in-Some : goal.returns-in-Some
returns-in-Some c =
    mean_of_tally c.args.after c.args.until c.args.spans.now c.tally_of.result c.from.result c.counted_from-tally.result.sum
    c.from-in-Some.result c.from-in-Some-2.result c.rounded.result c.tally_of.ensures.known c.from.ensures c.counted_from-tally.ensures.sum
    c.from-in-Some.ensures c.from-in-Some-2.ensures c.rounded.ensures

pub returns-in_default : goal.returns-in_default
returns-in_default c =
    let early = c.if-last-until.false in
    no_mean c.args.after c.args.until c.args.spans.now c.in-Some.last.now c.requires.window c.requires.ordered (sym c.in-Some.ensures.value)
    (omega (arith, early))

pub returns-in_default-2 : goal.returns-in_default-2
returns-in_default-2 c = no_departures c.args.after c.args.until c.args.spans.now c.requires.window
    (sym c.last.ensures.value ∙ ap option_copied c.in_default.is)
