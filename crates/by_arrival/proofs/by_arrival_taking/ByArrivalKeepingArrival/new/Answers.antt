use Rattle.std.proofs.Common.{ℕ, ◌≤◌, refl, arith}
use Rattle.fronts.specs.declared.labels.Label.{Label}
use Rattle.arrival_lists.specs.Lists.{never}
use Rattle.by_arrival.specs.declared.by_arrival.ByArrival.{ByArrival}
use Rattle.arrival_lists.specs.declared.entry.FirstPoint.{FirstPoint}
use Rattle.by_arrival.proofs.ByArrivalLemmas.{new_labels, new_points, new_under}
use Rattle.by_arrival.proofs.by_arrival_taking.ByArrivalKeepingArrival.new.Goals as goal

pub returns : goal.returns
returns c =
    let lists = c.in_ok-new.field-0 in
    let kept : ByArrival = record {
      labels = c.in_ok-labels.labels;
      exits = c.in_ok-with_capacity.field-0;
      firsts = c.in_ok-firsts.firsts;
      lists = lists;
      bound = never;
    } in
    let no_label : Label ℕ = record { value = never; tag = 0 } in
    let no_point : FirstPoint = record { time = never; departure = never; tag = 0; head = 0 } in
    let late : never ≤ never = omega arith in
    record {
      under = new_under c.args.stops c.args.trips kept no_label no_point c.in_ok-labels.ensures c.in_ok-firsts.ensures late refl
          c.in_ok-new.ensures refl;
      bags = new_points c.args.stops c.args.trips kept no_label no_point c.in_ok-labels.ensures c.in_ok-firsts.ensures late refl
          c.in_ok-new.ensures refl;
      labels = new_labels c.args.stops c.args.trips kept no_label no_point c.in_ok-labels.ensures c.in_ok-firsts.ensures late refl
          c.in_ok-new.ensures refl;
    }
