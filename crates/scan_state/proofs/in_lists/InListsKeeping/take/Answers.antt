use Rattle.std.proofs.Common.{◌<◌, ℕ, List, Contains, length, sym, ◌∙◌, ap, subst}
use Rattle.reasoning.proofs.ListLemmas.{extends_none}
use Rattle.criteria.specs.Laws.{Admits}
use Rattle.bags.specs.declared.point.Point.{Point}
use Rattle.fronts.specs.Labels.{HasTrip}
use Rattle.fronts.specs.declared.labels.Label.{Label}
use Rattle.scan_state.specs.SetQuery.{asked_from, question}
use Rattle.scan_state.specs.Matching.{from_to}
use Rattle.scan_state.specs.Steps.{settings_out}
use Rattle.scan_state.specs.Adding.{label_points, trip_points}
use Rattle.scan_state.specs.Hops.{IsHop}
use Rattle.scan_state.specs.ScanRecords.{spelling_of}
use Rattle.scan_state.specs.ScanState.{AreStops}
use Rattle.scan_state.specs.Parts.{SourceTakes}
use Rattle.scan_state.specs.Keeping.{Leaves}
use Rattle.scan_state.specs.KeptParts.{boards_all}
use Rattle.scan_state.specs.InLists.{AreLists, kept_by, value_in}
use Rattle.scan_state.specs.declared.in_lists.InLists.{InLists}
use Rattle.scan_state.proofs.KeptLemmas.{bags_none, goes_on, left, not_left}
use Rattle.scan_state.proofs.LabelLemmas.{no_trip_points}
use Rattle.scan_state.proofs.Offers.{takes_none}
use Rattle.scan_state.proofs.PartLemmas.{hop_within, labels_on, still_there, stops_counted}
use Rattle.scan_state.proofs.TakenInLists.{are_lists, still_lists}
use Rattle.scan_state.proofs.in_lists.InListsKeeping.take.Given as given
use Rattle.scan_state.proofs.in_lists.InListsKeeping.take.Goals.{After-of-labels, Start, else-hop, then-hop+in_ok-end+in_ok-change}
use Rattle.scan_state.proofs.in_lists.InListsKeeping.take.Goals as goal

within : (g : given.Over) (c : goal.Start g) → IsHop (g.C.Criterion.rules c.args.asked.now.criterion) (question c.args.asked.now.query) c.args.hop.now
within g c =
    hop_within (g.C.Criterion.rules c.args.asked.now.criterion) (g.S.ConnSource.timetable c.args.source.now)
    (g.met.S.ConnSource.limits c.args.source.now) (question c.args.asked.now.query) c.args.hop.now c.requires.hop

has_trip : (g : given.Over) (c : goal.Start g) → HasTrip (g.C.Criterion.rules c.args.asked.now.criterion) c.args.self.now.trips.labels
    c.args.hop.now.connection.trip
has_trip g c = record {
  there = subst (λ (n : ℕ). c.args.hop.now.connection.trip < n) (sym c.requires.keeping.long) c.requires.hop.on_trip;
  sound = c.requires.keeping.labels;
}

pub end-requires : goal.end-requires
end-requires g c =
    let start = (goal.at.end-requires g c).Start in
    record { hop = within g start; trip = has_trip g start }

pub change-requires : goal.change-requires
change-requires g c =
    let start = (goal.at.change-requires g c).Start in
    let stops = c.requires.keeping.at_stops in
    record {
      can = record {
        hop = within g start;
        trip = still_there (g.C.Criterion.rules c.args.asked.now.criterion) (has_trip g start) c.in_ok-end.ensures.labels;
      };
      stop = subst (λ (n : ℕ). c.args.hop.now.connection.to < n) (sym stops.long) c.requires.hop.ends;
      stops = stops_counted g.C.Criterion.rules c.args.asked.now.criterion stops;
    }

-- the trip is left
abbrev HasLeft : (g : given.Over) → goal.Start g → InLists g.row.C.Denot g.row.C-V.Denot → Type 0
HasLeft g c lists =
    let t = g.S.ConnSource.timetable c.args.source.now in
    AreLists g.C.Criterion.rules c.args.asked.now.criterion t.stops t.trips lists
    × Leaves (g.C.Criterion.rules c.args.asked.now.criterion) (question c.args.asked.now.query) c.args.hop.now (value_in c.args.self.now) (value_in lists)

pub of-labels-requires : goal.of-labels-requires
of-labels-requires g c =
    let rules = g.C.Criterion.rules c.args.asked.now.criterion in
    let trip = c.args.hop.now.connection.trip in
    let has = has_trip g (goal.at.of-labels-requires g c).Start in (
      rules,
      elim c.if-hop.branch [
        | then-hop+in_ok-end+in_ok-change w ↦ subst (λ (s : InLists g.row.C.Denot g.row.C-V.Denot). HasTrip rules s.trips.labels trip) (sym w.self-is)
            (still_there rules (still_there rules has w.in_ok-end.ensures.labels) w.in_ok-change.ensures.labels)
        | else-hop w ↦ subst (λ (s : InLists g.row.C.Denot g.row.C-V.Denot). HasTrip rules s.trips.labels trip) (sym w.self-is) has
      ],
    )

has_left : (g : given.Over) (c : goal.After-of-labels g) → HasLeft g (goal.at.After-of-labels g c).Start c.if-hop.self
has_left g c =
    let start = (goal.at.After-of-labels g c).Start in
    let rules = g.C.Criterion.rules c.args.asked.now.criterion in
    let q = question c.args.asked.now.query in
    let hop = c.args.hop.now in
    let stops = c.args.self.now.stops in
    elim c.if-hop.branch [
      | then-hop+in_ok-end+in_ok-change w ↦ subst (HasLeft g start) (sym w.self-is) (
        still_lists c.requires.keeping (labels_on rules w.in_ok-end.ensures.labels w.in_ok-change.ensures.labels),
        left rules (g.met.C.Criterion.laws c.args.asked.now.criterion) q hop (within g start) w.if-hop.true (w.in_ok-end.ensures.takes stops)
            (w.in_ok-change.ensures.takes stops),
      )
      | else-hop w ↦ subst (HasLeft g start) (sym w.self-is) (
        c.requires.keeping,
        not_left rules q hop (value_in c.args.self.now) w.if-hop.false,
      )
    ]

-- its labels are of values that the laws speak of
admits : (g : given.Over) (c : goal.After-of-labels g) (p : Point g.row.C-V.Denot)
    → Contains (label_points c.of-labels.result.now) p → Admits (g.C.Criterion.rules c.args.asked.now.criterion) p.value
admits g c p h =
    (has_left g c).0.admitted.labels c.args.hop.now.connection.trip p
    (subst (λ (xs : List (Label g.row.C-V.Denot)). Contains (label_points xs) p) c.of-labels.ensures h)

pub set_out-requires : goal.set_out-requires
set_out-requires g c = record {
  hop = c.requires.hop;
  under = c.requires.source;
  labels = admits g (goal.at.set_out-requires g c).After-of-labels;
}

pub board-requires : goal.board-requires
board-requires g c =
    let point = (goal.at.board-requires g c).After-of-labels in
    record { hop = c.requires.hop; stops = (has_left g point).0.at_stops; labels = admits g point }

pub returns : goal.returns
returns g c =
    let point = (goal.at.returns g c).After-of-labels in
    let is = has_left g point in
    let rules_of = g.C.Criterion.rules in
    let criterion = c.args.asked.now.criterion in
    let rules = rules_of criterion in
    let t = g.S.ConnSource.timetable c.args.source.now in
    let q = question c.args.asked.now.query in
    let hop = c.args.hop.now in
    let kept = g.O.AtSource.kept in
    let sources = g.O.AtSource.sources in
    let mid = c.if-hop.self in
    let new = c.board.new.self in
    record {
      keeping = are_lists rules_of criterion t.stops t.trips (record { trips = mid.trips; stops = new })
          (subst (λ (n : ℕ). AreStops rules_of criterion n new) is.0.at_stops.long c.in_ok-board.ensures.stops) is.0.long is.0.labels;
      source = c.in_ok-set_out.ensures.under;
      between = value_in mid;
      leaves = is.1;
      goes_on = goes_on rules t sources kept q hop (value_in mid) (kept_by mid.trips new) c.args.origin.now c.set_out.new.self
          c.in_ok-set_out.ensures.set_outs
          (λ index. subst (λ (xs : List (Label g.row.C-V.Denot)). SourceTakes rules t.footpaths
          (λ tags. settings_out rules t (asked_from sources q index) tags hop.place (label_points xs))
          (kept c.args.origin.now index) (kept c.set_out.new.self index)) c.of-labels.ensures (c.in_ok-set_out.ensures.takes index))
          (subst (λ (xs : List (Label g.row.C-V.Denot)). boards_all rules t hop (label_points xs) (value_in mid) (kept_by mid.trips new))
          c.of-labels.ensures (c.in_ok-board.ensures.takes mid.trips));
    }

-- the trip has no labels
pub returns-then-labels-eq0 : goal.returns-then-labels-eq0
returns-then-labels-eq0 g c =
    let point = (goal.at.returns-then-labels-eq0 g c).After-of-labels in
    let is = has_left g point in
    let rules = g.C.Criterion.rules c.args.asked.now.criterion in
    let t = g.S.ConnSource.timetable c.args.source.now in
    let q = question c.args.asked.now.query in
    let hop = c.args.hop.now in
    let kept = g.O.AtSource.kept in
    let sources = g.O.AtSource.sources in
    let mid = c.if-hop.self in
    let labels = trip_points mid.trips.labels hop.connection.trip in
    let none = no_trip_points mid.trips.labels hop.connection.trip (ap length (sym c.of-labels.ensures) ∙ c.if-labels-eq0.true) in
    record {
      keeping = is.0;
      source = c.requires.source;
      between = value_in mid;
      leaves = is.1;
      goes_on = goes_on rules t sources kept q hop (value_in mid) (value_in mid) c.args.origin.now c.args.origin.now
          (λ index. extends_none (kept c.args.origin.now index).set_outs)
          (λ index exits steps before all first_grows then_grows.
          takes_none rules (settings_out rules t (asked_from sources q index)
          (from_to (spelling_of t.footpaths before) (spelling_of t.footpaths all)) hop.place labels) (kept c.args.origin.now index).found
          (λ way may. none way.label may.is_label))
          (bags_none rules (λ stop tags way may. absurd (none way.label may.is_label)));
    }
