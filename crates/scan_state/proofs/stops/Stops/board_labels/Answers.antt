use Rattle.std.proofs.Common.{refl, arith}
use Rattle.scan_state.specs.Adding.{label_points}
use Rattle.scan_state.specs.Bound.{Excludes, survivors}
use Rattle.scan_state.proofs.BoardLemmas.{walks_into_it}
use Rattle.scan_state.proofs.BoundLemmas.{from_survivors}
use Rattle.scan_state.proofs.KeptLemmas.{bags_all, bags_none}
use Rattle.scan_state.proofs.RideLemmas.{are_ridden, no_ridden, ridden_admitted}
use Rattle.scan_state.proofs.TakenInLists.{boards_rest}
use Rattle.scan_state.proofs.stops.Stops.board_labels.Goals as goal

pub walks_into-begin-requires : goal.walks_into-begin-requires
walks_into-begin-requires g c = c.requires.can.hop.begins

pub board_walks-requires : goal.board_walks-requires
board_walks-requires g c =
    let rules = g.C.Criterion.rules c.args.asked.now.criterion in
    let labels = label_points c.args.labels.now in
    let values = c.args.hop.bound.now in
    let stops = c.requires.can.stops in
    record {
      walks = walks_into_it (g.S.ConnSource.timetable c.args.source.now) c.args.hop.connection.from
          c.walks_into-begin.result.0 c.walks_into-begin.result.1 c.requires.can.hop.begins
          c.walks_into-begin.ensures.order c.walks_into-begin.ensures.within c.walks_into-begin.ensures.exact;
      stops = record { under = stops.under; sound = stops.sound; long = stops.long; within = stops.within };
      ridden = ridden_admitted rules (survivors rules values labels) (g.met.C.Criterion.laws c.args.asked.now.criterion)
          (λ p h. c.requires.can.labels p (from_survivors rules values labels p h).0) c.ride_labels.new.ridden.items
          (are_ridden rules values labels c.ride_labels.new.ridden.items c.in_ok-ride_labels.ensures);
    }

pub returns : goal.returns
returns g c =
    let rules = g.C.Criterion.rules c.args.asked.now.criterion in
    let t = g.S.ConnSource.timetable c.args.source.now in
    let labels = label_points c.args.labels.now in
    let hop = c.args.hop in
    let some = survivors rules hop.bound.now labels in
    record {
      stops = c.in_ok-board_walks.ensures.stops;
      takes = λ trips. boards_rest rules t hop labels
          (bags_all rules t hop some (λ l. Excludes rules hop.bound.now l.value) c.walks_into-begin.result.0 c.walks_into-begin.result.1
          c.requires.can.hop.stands c.requires.boards c.walks_into-begin.ensures.exact
          (c.in_ok-board_walks.ensures.takes some (are_ridden rules hop.bound.now labels c.ride_labels.new.ridden.items c.in_ok-ride_labels.ensures)
          trips));
    }

-- the bound excludes all labels
pub returns-then-len-eq0 : goal.returns-then-len-eq0
returns-then-len-eq0 g c =
    let rules = g.C.Criterion.rules c.args.asked.now.criterion in
    let labels = label_points c.args.labels.now in
    let some = survivors rules c.args.hop.bound.now labels in
    let stops = c.requires.can.stops in
    record {
      stops = record { under = stops.under; sound = stops.sound; long = refl; within = stops.within };
      takes = λ trips. boards_rest rules (g.S.ConnSource.timetable c.args.source.now) c.args.hop labels
          (bags_none rules (λ stop tags way may.
          absurd (no_ridden rules some c.ride_labels.new.ridden.items (are_ridden rules c.args.hop.bound.now labels c.ride_labels.new.ridden.items
          c.in_ok-ride_labels.ensures) (omega arith) way.label may.is_label)));
    }
