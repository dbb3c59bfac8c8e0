use Rattle.std.proofs.Common.{◌<◌, ℕ, subst, sym, ◌∙◌, arith}
use Rattle.timetable.specs.Legal.{At}
use Rattle.matrix_rows.proofs.Sought.{none_found, stop_found_more, stop_has_name}
use Rattle.matrix_rows.proofs.listed_names.find_stops.Goals as goal

pub loop-stop-init : goal.loop-stop-init
loop-stop-init c = λ listed are. none_found c.args.image.now.names listed c.args.found.now are

pub loop-stop-preserved : goal.loop-stop-preserved
loop-stop-preserved c =
    let names = c.args.image.now.names in
    let stop = c.loop-stop.stop in
    let name = c.as_str.result.now in
    let less : stop < c.args.image.now.timetable.stops = omega (arith, c.loop-stop-test.true, c.stops-stops.ensures.stops) in
    let at : At names.stops stop name =
    subst (At names.stops stop) (sym (c.as_str.ensures.value ∙ c.in_ok-name.ensures))
    (stop_has_name names stop (subst (λ (n : ℕ). stop < n) (sym c.stops-stops.ensures.kept.names.stop_names) less)) in
    λ listed are. stop_found_more names listed stop name c.loop-stop.found c.note_stop.new.found at (c.loop-stop.invariant listed are) c.note_stop.ensures
