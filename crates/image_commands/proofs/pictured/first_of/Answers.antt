use Rattle.std.proofs.Common.{sym, arith}
use Rattle.std.proofs.lemmas.List.{length-take-le, take_all}
use Rattle.image_commands.proofs.pictured.first_of.Goals as goal

pub slice_bounds-result-end : goal.slice_bounds-result-end
slice_bounds-result-end g c = sym (length-take-le c.args.rows c.args.departures.now (omega (arith, c.if-departures-rows.false)))

pub returns-then-departures-rows : goal.returns-then-departures-rows
returns-then-departures-rows g c = sym (take_all c.args.rows c.args.departures.now (omega (arith, c.if-departures-rows.true)))
