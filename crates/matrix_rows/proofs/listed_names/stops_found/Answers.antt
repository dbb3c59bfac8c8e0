use Rattle.std.proofs.Common.{◌∙◌, sym, arith}
use Rattle.matrix_rows.proofs.Sought.{item_missing, item_stop, no_stops}
use Rattle.matrix_rows.proofs.listed_names.stops_found.Goals as goal

pub loop-name-init : goal.loop-name-init
loop-name-init c = no_stops c.args.found.now c.in_ok-stops.stops.items c.in_ok-stops.ensures.items

pub loop-name-preserved : goal.loop-name-preserved
loop-name-preserved c =
    item_stop (λ name. name.now) c.args.listed.now c.loop-name.name-index _ c.args.found.now c.loop-name.stops.items c.push.new.self.items c.in-Some.stop
    (omega arith) c.loop-name.invariant (sym c.stop_found.ensures ∙ c.in-Some.is) c.in_ok-push-in-Some.ensures.items

pub returns-in-None : goal.returns-in-None
returns-in-None c =
    item_missing (λ name. name.now) c.args.listed.now c.loop-name.name-index _ c.args.found.now (omega arith) (sym c.stop_found.ensures ∙ c.in-None.is)
