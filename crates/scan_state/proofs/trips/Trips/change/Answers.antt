use Rattle.std.proofs.Common.{◌<◌, ℕ, ◌≤◌, length, sym, subst, arith}
use Rattle.timetable.proofs.LegalLemmas.{Contains-At}
use Rattle.fronts.specs.Lists.{entries_of, front_at, items_of, list_points, lists_criterion}
use Rattle.fronts.proofs.Mapped.{list_admitted}
use Rattle.scan_state.specs.KeptParts.{takes_changes}
use Rattle.scan_state.specs.InLists.{TripsTake, kept_by}
use Rattle.scan_state.specs.ScanState.{points_at}
use Rattle.scan_state.specs.declared.trips.Trips.{Trips}
use Rattle.scan_state.proofs.Admitted.{AreAdmitted}
use Rattle.scan_state.proofs.ChangeLemmas.{StandsFor, changes_all, changes_next, no_changes, takes_first_changes}
use Rattle.scan_state.proofs.LabelLemmas.{trip_admitted}
use Rattle.scan_state.proofs.PartLemmas.{labels_on, labels_still, still_there}
use Rattle.scan_state.proofs.trips.Trips.change.Given as given
use Rattle.scan_state.proofs.trips.Trips.change.Goals.{After-front_from-entry}
use Rattle.scan_state.proofs.trips.Trips.change.Goals as goal

-- the front at the arrival stands for the stop's points
stands : (g : given.Over) (c : goal.After-front_from-entry g) → StandsFor (g.C.Criterion.rules c.args.asked.now.criterion)
    (points_at c.args.stops.now c.args.hop.now.connection.to) c.args.hop.now.connection.arr (front_at c.args.stops.now.lists c.front_from-entry.result)
stands g c =
    let lists = c.args.stops.now.lists in
    let front = front_at lists c.front_from-entry.result in
    let arr = c.args.hop.now.connection.arr in
    let is = c.front_from-entry.ensures in
    subst (λ n. StandsFor (g.C.Criterion.rules c.args.asked.now.criterion) (list_points lists n) arr front) c.head-head.ensures
    (subst (λ k. StandsFor (g.C.Criterion.rules k) (list_points lists c.head-head.result) arr front) c.requires.stops.under
    (record { made_of = is.made_of; betters = is.betters }))

admitted : (g : given.Over) (c : goal.After-front_from-entry g)
    → AreAdmitted (g.C.Criterion.rules c.args.asked.now.criterion) (front_at c.args.stops.now.lists c.front_from-entry.result)
admitted g c p h = ((stands g c).made_of p h).2

-- the whole front has been offered
all_changes : (g : given.Over) (c : goal.After-front_from-entry g) (n : ℕ) (new : Trips g.row.C.Denot g.row.C-V.Denot)
    → length (front_at c.args.stops.now.lists c.front_from-entry.result) ≤ n
    → TripsTake (g.C.Criterion.rules c.args.asked.now.criterion) (takes_first_changes (g.C.Criterion.rules c.args.asked.now.criterion) c.args.hop.now
    (front_at c.args.stops.now.lists c.front_from-entry.result) n) c.args.self.now new
    → TripsTake (g.C.Criterion.rules c.args.asked.now.criterion) (takes_changes (g.C.Criterion.rules c.args.asked.now.criterion) c.args.hop.now
    (points_at c.args.stops.now c.args.hop.now.connection.to)) c.args.self.now new
all_changes g c n new long taken =
    let rules = g.C.Criterion.rules c.args.asked.now.criterion in
    let hop = c.args.hop.now in
    let lists = c.args.stops.now.lists in
    let points = points_at c.args.stops.now hop.connection.to in
    let points_admitted = subst (λ k. AreAdmitted (g.C.Criterion.rules k) points) c.requires.stops.under
    (list_admitted (g.C.Criterion.rules (lists_criterion lists)) (entries_of lists) (items_of lists) c.requires.stops.sound _) in
    record {
      labels = taken.labels;
      takes = λ stops. changes_all rules hop (front_at lists c.front_from-entry.result) (g.met.C.Criterion.laws c.args.asked.now.criterion) points
          points_admitted c.requires.can.hop.bound (stands g c) n long (trip_admitted rules new.labels taken.labels.sound hop.connection.trip)
          (taken.takes stops);
    }

pub change_by-requires-clause-point : goal.change_by-requires-clause-point
change_by-requires-clause-point g c =
    admitted g (goal.at.change_by-requires-clause-point g c).After-front_from-entry c.front_point-own.result
    (Contains-At (front_at c.args.stops.now.lists c.front_from-entry.result) 0 c.front_point-own.result c.front_point-own.ensures)

-- the first point was offered
pub loop-k-init : goal.loop-k-init
loop-k-init g c =
    let rules = g.C.Criterion.rules c.args.asked.now.criterion in
    let front = front_at c.args.stops.now.lists c.front_from-entry.result in
    let taken = c.in_ok-change_by.ensures in
    record {
      labels = taken.labels;
      takes = λ stops. changes_next rules c.args.hop.now front 0 c.front_point-own.result c.front_point-own.ensures
          (admitted g (goal.at.loop-k-init g c).After-front_from-entry) (no_changes rules c.args.hop.now front (kept_by c.args.self.now stops))
          (taken.takes stops);
    }

pub change_by-requires-in-loop-k-clause-point : goal.change_by-requires-in-loop-k-clause-point
change_by-requires-in-loop-k-clause-point g c =
    admitted g (goal.at.change_by-requires-in-loop-k-clause-point g c).After-front_from-entry c.front_point-point.result
    (Contains-At (front_at c.args.stops.now.lists c.front_from-entry.result) c.loop-k.k c.front_point-point.result c.front_point-point.ensures)

pub change_by-requires-in-loop-k-clause-can : goal.change_by-requires-in-loop-k-clause-can
change_by-requires-in-loop-k-clause-can g c = record {
  hop = c.requires.can.hop;
  trip = still_there (g.C.Criterion.rules c.args.asked.now.criterion) c.requires.can.trip c.loop-k.invariant.labels;
}

pub loop-k-preserved : goal.loop-k-preserved
loop-k-preserved g c =
    let rules = g.C.Criterion.rules c.args.asked.now.criterion in
    let before = c.loop-k.invariant in
    let here = c.in_ok-change_by-2.ensures in
    record {
      labels = labels_on rules before.labels here.labels;
      takes = λ stops. changes_next rules c.args.hop.now (front_at c.args.stops.now.lists c.front_from-entry.result) c.loop-k.k
          c.front_point-point.result c.front_point-point.ensures (admitted g (goal.at.loop-k-preserved g c).After-front_from-entry)
          (before.takes stops) (here.takes stops);
    }

pub returns-then-count-eq0 : goal.returns-then-count-eq0
returns-then-count-eq0 g c =
    let rules = g.C.Criterion.rules c.args.asked.now.criterion in
    all_changes g (goal.at.returns-then-count-eq0 g c).After-front_from-entry 0 c.args.self.now (omega arith) (record {
      labels = labels_still rules c.requires.can.trip;
      takes = λ stops. no_changes rules c.args.hop.now (front_at c.args.stops.now.lists c.front_from-entry.result) (kept_by c.args.self.now stops);
    })

pub returns : goal.returns
returns g c = all_changes g (goal.at.returns g c).After-front_from-entry c.loop-k.k c.loop-k.self (omega arith) c.loop-k.invariant

pub front_from-entry-requires : goal.front_from-entry-requires
front_from-entry-requires g c = record {
  sound = c.requires.stops.sound;
  within = subst (λ (n : ℕ). n < length (entries_of c.args.stops.now.lists)) (sym c.head-head.ensures)
      (c.requires.stops.within c.args.hop.now.connection.to);
}

pub front_len-count-requires : goal.front_len-count-requires
front_len-count-requires g c = record { sound = c.requires.stops.sound; within = c.front_from-entry.ensures.within }

pub front_point-own-requires-clause-entry : goal.front_point-own-requires-clause-entry
front_point-own-requires-clause-entry g c = record { sound = c.requires.stops.sound; within = c.front_from-entry.ensures.within }

pub front_point-point-requires-clause-entry : goal.front_point-point-requires-clause-entry
front_point-point-requires-clause-entry g c = record { sound = c.requires.stops.sound; within = c.front_from-entry.ensures.within }
