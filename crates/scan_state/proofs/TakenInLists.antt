-- What lists keep, and the labels that the bound leaves out.
use Rattle.std.proofs.Common.{◌≡◌, ℕ, List, inl, inr, refl, ◌∙◌, subst}
use Rattle.std.proofs.lemmas.Bool.{cases_Bool}
use Rattle.criteria.specs.Laws.{Rules}
use Rattle.bags.specs.declared.point.Point.{Point}
use Rattle.timetable.specs.TimetableValue.{TimetableValue}
use Rattle.fronts.specs.Labels.{AreLabels, AreStillLabels, trips_of}
use Rattle.fronts.specs.Lists.{entries_of, items_of, lists_criterion}
use Rattle.fronts.proofs.Mapped.{list_admitted}
use Rattle.scan_state.specs.Bound.{Excludes, any_no_worse, survivors}
use Rattle.scan_state.specs.ScanRecords.{KeptValue}
use Rattle.scan_state.specs.ScanState.{AreStops, points_at}
use Rattle.scan_state.specs.Steps.{Boarding, boardings}
use Rattle.scan_state.specs.KeptParts.{boards_all}
use Rattle.scan_state.specs.InLists.{AreLists}
use Rattle.scan_state.specs.declared.hop.Hop.{Hop}
use Rattle.scan_state.specs.declared.in_lists.InLists.{InLists}
use Rattle.scan_state.specs.declared.trips.Trips.{Trips}
use Rattle.scan_state.proofs.Admitted.{AreAdmitted}
use Rattle.scan_state.proofs.BoundLemmas.{from_survivors, into_survivors}
use Rattle.scan_state.proofs.KeptLemmas.{bags_as}
use Rattle.scan_state.proofs.LabelLemmas.{trip_admitted}
use Rattle.scan_state.proofs.Offers.{but_as}
use Rattle.scan_state.proofs.Together.{may}

-- the values of lists are admitted
pub are_lists : {K V : Type 0} (rules_of : K → Rules V) (criterion : K) (stops trips : ℕ) (lists : InLists K V)
    → AreStops rules_of criterion stops lists.stops → trips_of lists.trips.labels ≡ trips → AreLabels (rules_of criterion) lists.trips.labels
    → AreLists rules_of criterion stops trips lists
are_lists rules_of criterion stops trips lists at_stops long labels =
    let fronts = lists.stops.lists in
    record {
      at_stops = at_stops;
      long = long;
      labels = labels;
      admitted = record {
        bags = λ stop. subst (λ k. AreAdmitted (rules_of k) (points_at lists.stops stop)) at_stops.under
            (list_admitted (rules_of (lists_criterion fronts)) (entries_of fronts) (items_of fronts) at_stops.sound _);
        labels = trip_admitted (rules_of criterion) lists.trips.labels labels;
      };
    }

-- with other labels
pub still_lists : {K V : Type 0} {rules_of : K → Rules V} {criterion : K} {stops trips : ℕ} {lists : InLists K V} {new : Trips K V}
    → AreLists rules_of criterion stops trips lists → AreStillLabels (rules_of criterion) lists.trips.labels new.labels
    → AreLists rules_of criterion stops trips (record { trips = new; stops = lists.stops })
still_lists {rules_of = rules_of} {criterion = criterion} {stops = stops} {trips = trips} {lists = lists} {new = new} are still =
    are_lists rules_of criterion stops trips (record { trips = new; stops = lists.stops }) are.at_stops (still.long ∙ are.long) still.sound

-- labels that the bound excludes need not board
pub boards_rest : {V : Type 0} (rules : Rules V) (t : TimetableValue) (hop : Hop V) (labels : List (Point V)) {old new : KeptValue V}
    → boards_all rules t hop (survivors rules hop.bound.now labels) old new → boards_all rules t hop labels old new
boards_rest {V} rules t hop labels {old} {new} =
    let values = hop.bound.now in
    let some = survivors rules values labels in
    let Excused : Boarding V → Type 0 = λ way. Excludes rules values way.label.value in
    bags_as rules (λ walks are. are) (λ stop tags taken. but_as rules Excused Excused (boardings rules t tags hop.place stop some)
    (boardings rules t tags hop.place stop labels) (old.bag stop) (new.bag stop)
    (λ way m. record {
      there = way;
      is_open = may t hop.place stop way labels some m (from_survivors rules values labels way.label m.is_label).0;
      departs = refl;
      worth = refl;
      fits = λ tag h. h;
    })
    (λ way m. elim (cases_Bool (any_no_worse rules values (rules.ride way.label.value))) [
      | inl excludes ↦ inr excludes
      | inr free ↦ taken.covered way (may t hop.place stop way some labels m (into_survivors rules values labels way.label m.is_label free))
    ]) taken)
