-- What is kept of trips and stops by arrival alone.
use Rattle.std.specs.Prelude.{◌≡◌, ℕ, ◌<◌, ◌≤◌, Bool, true, false, List, [], ◌∷◌, length, map, nat_le, nat_lt, slice_get, slice_index}
use Rattle.std.specs.Prelude.{Option, Some, None}
use Rattle.std.specs.Ordering.{nat_cmp}
use Rattle.criteria.specs.Laws.{Rules, Admits, IsTime, IsSecs, time_limit}
use Rattle.bags.specs.declared.point.Point.{Point}
use Rattle.timetable.specs.declared.network.Footpath.{Footpath}
use Rattle.timetable.specs.TimetableValue.{TimetableValue}
use Rattle.arrival_lists.specs.Lists.{AreEntries, IsFirstOf, entries_of, list_points, never, steps_of}
use Rattle.arrival_lists.specs.declared.entry.FirstPoint.{FirstPoint}
use Rattle.fronts.specs.declared.entry.RiddenLabel.{RiddenLabel}
use Rattle.fronts.specs.declared.labels.Label.{Label}
use Rattle.scan_state.specs.SetQuery.{SetQueryValue}
use Rattle.scan_state.specs.Matching.{Spellings}
use Rattle.scan_state.specs.Steps.{Offer}
use Rattle.scan_state.specs.Bound.{Excludes, ExcludesMore}
use Rattle.scan_state.specs.Adding.{AreWalksInto, label_points}
use Rattle.scan_state.specs.ScanRecords.{KeptValue}
use Rattle.scan_state.specs.Hops.{IsHop, StandsAt}
use Rattle.scan_state.specs.Keeping.{AdmitsKept, Leaves}
use Rattle.scan_state.specs.KeptParts.{BagsTake, LabelsTake}
use Rattle.by_arrival.specs.declared.by_arrival.ByArrival.{ByArrival}
use Rattle.scan_state.specs.declared.hop.Hop.{Hop}

-- what the criterion of arrival computes
abbrev pub arrival_rules : Rules ℕ
arrival_rules = record {
  arrive = λ time. time;
  ride = λ v. v;
  walk = λ _ v. v;
  no_worse = nat_le;
  list_order = nat_cmp;
  admits = λ v. nat_lt v time_limit;
}

abbrev pub label_if : Bool → Label ℕ → List (Label ℕ)
label_if true l = l ∷ []
label_if false l = []

-- the label of a trip, if it has one
abbrev pub label_in : Option (Label ℕ) → List (Label ℕ)
label_in None = []
label_in (Some l) = label_if (nat_lt l.value never) l

abbrev pub labels_of : ByArrival → ℕ → List (Label ℕ)
labels_of kept trip = label_in (slice_get kept.labels.items trip)

-- the heads of the lists of all stops
abbrev pub heads_of : List FirstPoint → List ℕ
heads_of firsts = map (λ f. f.head) firsts

abbrev pub value_by_arrival : ByArrival → KeptValue ℕ
value_by_arrival kept = record {
  bag = λ stop. list_points kept.lists (slice_index (heads_of kept.firsts.items) stop);
  labels = λ trip. label_points (labels_of kept trip);
  exits = kept.exits.items;
  steps = steps_of kept.lists;
}

abbrev pub trips_of : ByArrival → ℕ
trips_of kept = length kept.labels.items

abbrev pub stops_of : ByArrival → ℕ
stops_of kept = length kept.firsts.items

-- lists rise, each stop's first point is its list's, labels have times, and the bound is one or `never`
pub record AreByArrival (kept : ByArrival) : Type 0 where
  pub sound : AreEntries (entries_of kept.lists)
  pub firsts : (stop : ℕ) (first : FirstPoint) → slice_get kept.firsts.items stop ≡ Some first → IsFirstOf kept.lists first.head first
  pub times : (trip : ℕ) (l : Label ℕ) → slice_get kept.labels.items trip ≡ Some l → l.value < never → IsTime l.value
  pub limit : kept.bound ≤ never

-- what isn't earlier than the bound, these values exclude
abbrev pub BoundExcludes : List ℕ → ByArrival → Type 0
BoundExcludes values kept = (v : ℕ) → Admits arrival_rules v → kept.bound ≤ v → Excludes arrival_rules values v

-- for so many stops and trips, with a bound made of these values
pub record AreUnderByArrival (stops trips : ℕ) (values : List ℕ) (kept : ByArrival) : Type 0 where
  pub are : AreByArrival kept
  pub stops_are : stops_of kept ≡ stops
  pub trips_are : trips_of kept ≡ trips
  pub excludes : BoundExcludes values kept
  pub admitted : AdmitsKept arrival_rules (value_by_arrival kept)

-- the bound may be made of these values: they exclude what older ones do
pub record CanRenewByArrival (values : List ℕ) (kept : ByArrival) : Type 0 where
  pub limit : kept.bound ≤ never
  pub older : List ℕ
  pub excludes : BoundExcludes older kept
  pub more : ExcludesMore arrival_rules older values

-- and nothing else changes
pub record RenewsByArrival (values : List ℕ) (old new : ByArrival) : Type 0 where
  pub limit : new.bound ≤ never
  pub excludes : BoundExcludes values new
  pub same : new ≡ record { labels = old.labels; exits = old.exits; firsts = old.firsts; lists = old.lists; bound = new.bound }

-- a hop's trip may be left where its connection ends
pub record CanLeaveByArrival (q : SetQueryValue) (here : Hop ℕ) (kept : ByArrival) : Type 0 where
  pub hop : IsHop arrival_rules q here
  pub are : AreByArrival kept
  pub excludes : BoundExcludes here.bound.now kept
  pub trip : here.connection.trip < trips_of kept
  pub stop : here.connection.to < stops_of kept

-- as many stops and trips, and the same bound
pub record IsLikeByArrival (old new : ByArrival) : Type 0 where
  pub are : AreByArrival new
  pub stops : stops_of new ≡ stops_of old
  pub trips : trips_of new ≡ trips_of old
  pub bound : new.bound ≡ old.bound

-- the label of one trip takes an offer in but for what is excused
pub record RelabelsByArrival {A : Type 0} (trip : ℕ) (Excused : A → Type 0) (offer : Spellings → Offer A ℕ) (old new : ByArrival) : Type 0 where
  pub like : IsLikeByArrival old new
  pub takes : LabelsTake arrival_rules trip Excused offer (value_by_arrival old) (value_by_arrival new)

-- the points of each stop take an offer in but for what is excused
pub record BoardsByArrival {A : Type 0} (AreWalks : List Footpath → Type 0) (Excused : A → Type 0) (offer : ℕ → Spellings → Offer A ℕ)
    (old new : ByArrival) : Type 0 where
  pub like : IsLikeByArrival old new
  pub takes : BagsTake arrival_rules AreWalks Excused offer (value_by_arrival old) (value_by_arrival new)

-- a ridden label as a point
abbrev pub ridden_point : RiddenLabel ℕ → Point ℕ
ridden_point ride = record { departure = 0; value = ride.value; tag = ride.label }

-- passengers may board after a footpath
pub record CanBoardAfterByArrival (walk : Footpath) (ride : RiddenLabel ℕ) (kept : ByArrival) : Type 0 where
  pub are : AreByArrival kept
  pub secs : IsSecs walk.secs
  pub stop : walk.from < stops_of kept
  pub time : IsTime ride.value

-- and after each of the footpaths at the indices `begin..end`, which lead to the stop where the hop's connection begins
pub record CanBoardEachByArrival (t : TimetableValue) (begin end : ℕ) (here : Hop ℕ) (ride : RiddenLabel ℕ) (kept : ByArrival) : Type 0 where
  pub are : AreByArrival kept
  pub walks : AreWalksInto t here.connection.from begin end
  pub stops_are : stops_of kept ≡ t.stops
  pub time : IsTime ride.value

-- passengers may board a hop's connection
pub record CanBoardByArrival (t : TimetableValue) (here : Hop ℕ) (kept : ByArrival) : Type 0 where
  pub are : AreByArrival kept
  pub stands : StandsAt t here.place here.connection
  pub begins : here.connection.from < t.stops
  pub trip : here.connection.trip < trips_of kept
  pub stops_are : stops_of kept ≡ t.stops
  pub excludes : BoundExcludes here.bound.now kept

-- passengers have left the hop's trip
pub record LeavesByArrival (q : SetQueryValue) (hop : Hop ℕ) (old new : ByArrival) : Type 0 where
  pub like : IsLikeByArrival old new
  pub leaves : Leaves arrival_rules q hop (value_by_arrival old) (value_by_arrival new)
