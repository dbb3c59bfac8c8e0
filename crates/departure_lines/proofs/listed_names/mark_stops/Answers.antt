use Rattle.std.proofs.Common.{◌<◌, ◌+◌, ◌++◌, ◌∷◌, [], ℕ, Bool, length, subst, sym, ap, ◌∙◌, arith}
use Rattle.std.proofs.lemmas.List.{length-append}
use Rattle.timetable.specs.Legal.{At}
use Rattle.departure_lines.proofs.Sought.{none_found, none_marked_below, stop_found, stop_has_name, stop_marked}
use Rattle.departure_lines.proofs.listed_names.mark_stops.Goals as goal

pub loop-stop-init : goal.loop-stop-init
loop-stop-init c = record {
  long = ap length c.in_ok-marks.ensures.items;
  found = λ listed are. none_found c.args.image.now.names listed c.args.found.now are;
  marked = λ listed are. none_marked_below c.args.image.now.names listed c.in_ok-marks.marks.items c.in_ok-marks.ensures.items;
}

pub loop-stop-preserved : goal.loop-stop-preserved
loop-stop-preserved c =
    let names = c.args.image.now.names in
    let stop = c.loop-stop.stop in
    let name = c.as_str.result.now in
    let marks = c.loop-stop.marks.items in
    let less : stop < c.args.image.now.timetable.stops = omega (arith, c.loop-stop-test.true, c.stops-stops.ensures.stops) in
    let at : At names.stops stop name =
    subst (At names.stops stop) (sym (c.as_str.ensures.value ∙ c.in_ok-name.ensures))
    (stop_has_name names stop (subst (λ (n : ℕ). stop < n) (sym c.stops-stops.ensures.kept.names.stop_names) less)) in
    record {
      long = ap length c.in_ok-push.ensures.items ∙ length-append marks (c.is_first_found.result ∷ [])
          ∙ ap (λ (n : ℕ). n + 1) c.loop-stop.invariant.long;
      found = λ listed are. stop_found names listed stop name c.loop-stop.found c.is_first_found.new.found at
          (c.loop-stop.invariant.found listed are) c.is_first_found.ensures.found;
      marked = λ listed are. stop_marked names listed stop name c.loop-stop.found c.is_first_found.new.found at
          (c.loop-stop.invariant.found listed are) c.is_first_found.ensures.found marks c.push.new.self.items
          (c.loop-stop.invariant.marked listed are) c.loop-stop.invariant.long
          (c.in_ok-push.ensures.items ∙ ap (λ (b : Bool). marks ++ b ∷ []) c.is_first_found.ensures.first);
    }
