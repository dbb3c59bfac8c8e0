-- The services of trips that run on the days of a plan.
use Rattle.std.specs.Prelude.{◌≡◌, ℕ, List, Bool, fold, map}
use Rattle.std.specs.List.{AllZip}
use Rattle.std.specs.String.{string_bytes}
use Rattle.gtfs_rows.specs.Ids.{StandsAt, seen_also}
use Rattle.gtfs_rows.specs.declared.values.Day.{Day}
use Rattle.gtfs_tables.specs.declared.tables.Feed.{Feed}
use Rattle.gtfs_tables.specs.declared.tables.Trip.{Trip}
use Rattle.service_days.specs.Services.{is_active}
use Rattle.connections.specs.declared.trip_services.TripServices.{TripServices}

-- each trip's index is that of its service among the names
abbrev pub AreNamed : List (List ℕ) → List Trip → List ℕ → Type 0
AreNamed names trips indices = AllZip (λ trip index. StandsAt names index (string_bytes trip.service)) trips indices

-- the names, with the services of the trips that aren't among them, in the order of the trips
abbrev pub names_also : List (List ℕ) → List Trip → List (List ℕ)
names_also = fold (λ names (trip : Trip). seen_also names (string_bytes trip.service))

-- for each service, whether it runs on a day
abbrev pub active_among : Feed → List (List ℕ) → Day → List Bool
active_among feed names day = map (λ name. is_active feed.calendar.items feed.calendar_dates.items name day) names

-- each trip has the index of its service, and each day has which services run on it
pub record AreActive (feed : Feed) (days : List Day) (trips : List Trip) (services : TripServices) : Type 0 where
  pub names : List (List ℕ)
  pub named : AreNamed names trips services.indices.items
  pub active : map (λ each. each.items) services.active.items ≡ map (active_among feed names) days
