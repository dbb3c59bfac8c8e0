-- What labels of trips become by an offer.
use Rattle.std.specs.Prelude.{◌≡◌, ◌⊎◌, ◌+◌, ℕ, List, [], ◌∷◌, Contains, slice_get, length}
use Rattle.criteria.specs.declared.arrival_trips.TimeTrips.{TimeTrips}
use Rattle.fronts.specs.declared.labels.Label.{Label}
use Rattle.lanes.specs.Lanes.{IsBeaten, IsOutdone, lane_labels}
use Rattle.lanes.specs.LanesWithTags.{labels_in}
use Rattle.lanes.specs.declared.trip_lanes.TripLanes.{TripLanes}
use Rattle.lanes.specs.declared.trip_lanes.Taken.{Taken}
use Rattle.lanes.specs.declared.trip_lanes.Taken.TheVariants.{Lowered, NoNews, Full}
use Rattle.lanes.specs.declared.words.Words.{Words}

-- the labels that a front stands for, without tags
abbrev pub front_labels : Words → List (Label TimeTrips)
front_labels front = lane_labels (λ _. 0) front.times

-- the labels that a front offers: that of lane k has the tag `first + k`
abbrev pub offered_by : Words → ℕ → List (Label TimeTrips)
offered_by front first = lane_labels (λ k. first + k) front.times

-- the label of a journey that ends at a time
abbrev pub ending : ℕ → ℕ → List (Label TimeTrips)
ending time tag = record { value = record { time = time; trips = 0 }; tag = tag } ∷ []

-- how many trips there are
abbrev pub trips_of : TripLanes → ℕ
trips_of trips = length trips.lanes.items

-- the labels of a trip
abbrev pub labels_at : TripLanes → ℕ → List (Label TimeTrips)
labels_at trips trip = labels_in (slice_get trips.lanes.items trip)

-- each offered label is beaten by one of some labels, or outdone by the bound
abbrev pub AllBeaten : List (Label TimeTrips) → List (Label TimeTrips) → List (Label TimeTrips) → Type 0
AllBeaten bound labels offered = (l : Label TimeTrips) → Contains offered l → IsBeaten labels l.value ⊎ IsOutdone bound l.value

-- an offered label is news: it is neither beaten nor outdone
abbrev pub IsNews : List (Label TimeTrips) → List (Label TimeTrips) → Label TimeTrips → Type 0
IsNews bound labels l = (IsBeaten labels l.value → ⊥) × (IsOutdone bound l.value → ⊥)

-- a trip takes labels in, unless the bound outdoes them: each of its labels was there or is offered, and beats what the old ones beat. The labels of other
-- trips stay
pub record TakesAll (trip : ℕ) (bound offered : List (Label TimeTrips)) (old new : TripLanes) : Type 0 where
  pub only : (l : Label TimeTrips) → Contains (labels_at new trip) l → Contains (labels_at old trip) l ⊎ Contains offered l
  pub kept : (l : Label TimeTrips) → Contains (labels_at old trip) l → IsBeaten (labels_at new trip) l.value
  pub taken : AllBeaten bound (labels_at new trip) offered
  pub elsewhere : (k : ℕ) → (k ≡ trip → ⊥) → labels_at new k ≡ labels_at old k
  pub long : trips_of new ≡ trips_of old

-- what an offer of labels does to a trip: if none is news, or one that has eight trips is, nothing changes
abbrev pub IsTaken : ℕ → List (Label TimeTrips) → List (Label TimeTrips) → TripLanes → TripLanes → Taken → Type 0
IsTaken trip bound offered old new NoNews = AllBeaten bound (labels_at old trip) offered × (new ≡ old)
IsTaken trip bound offered old new Lowered =
    TakesAll trip bound offered old new × ((l : Label TimeTrips) × Contains offered l × IsNews bound (labels_at old trip) l)
IsTaken trip bound offered old new Full =
    ((l : Label TimeTrips) × Contains offered l × (l.value.trips ≡ 8) × IsNews bound (labels_at old trip) l) × (new ≡ old)
