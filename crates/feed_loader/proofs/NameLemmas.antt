-- The length of the names of a feed's stops and runs.
use Rattle.std.proofs.Common.{◌≡◌, ℕ, ℤ, subst, ◌+◌, List, [], ◌∷◌, ◌++◌, length, map, refl, sym, ap, ◌∙◌, length-append, arith}
use Rattle.std.specs.List.{concat}
use Rattle.std.specs.String.{string_bytes}
use Rattle.std.proofs.lemmas.List.Sums.{sum_by-cons}
use Rattle.timetable.specs.NamesValue.{NamesValue, TripNameValue}
use Rattle.image_layout.specs.Spelling.{text}
use Rattle.gtfs_tables.specs.declared.tables.Feed.{Feed}
use Rattle.gtfs_tables.specs.declared.tables.Stop.{Stop}
use Rattle.gtfs_tables.specs.declared.tables.Trip.{Trip}
use Rattle.connections.specs.declared.runs.Run.{Run}
use Rattle.service_days.specs.Zones.{IsDayStart}
use Rattle.feed_loader.specs.Loaded.{AreNames, run_name}
use Rattle.feed_loader.specs.declared.plan.Plan.{Plan}
use Rattle.feed_loader.specs.NameBytes.{run_bytes, stop_bytes}

length_of_runs : (trips : List Trip) (runs : List Run)
    → length (concat (map (λ (t : TripNameValue). t.name) (map (run_name trips) runs))) ≡ run_bytes trips runs
length_of_runs trips [] = refl
length_of_runs trips (run ∷ runs) =
    length-append (run_name trips run).name (concat (map (λ (t : TripNameValue). t.name) (map (run_name trips) runs)))
    ∙ ap (λ (n : ℕ). length (run_name trips run).name + n) (length_of_runs trips runs)
    ∙ sym (sum_by-cons (λ (r : Run). length (run_name trips r).name) run runs)

length_of_names : (trips : List Trip) (stops : List Stop) (runs : List Run)
    → length (concat (map (λ (stop : Stop). string_bytes stop.id) stops
    ++ map (λ (t : TripNameValue). t.name) (map (run_name trips) runs))) ≡ stop_bytes stops + run_bytes trips runs
length_of_names trips [] runs = let all = length_of_runs trips runs in omega (arith, all)
length_of_names trips (stop ∷ stops) runs =
    let whole = length-append (string_bytes stop.id)
    (concat (map (λ (stop : Stop). string_bytes stop.id) stops
    ++ map (λ (t : TripNameValue). t.name) (map (run_name trips) runs))) in
    let rest = length_of_names trips stops runs in
    let first = sum_by-cons (λ (s : Stop). length (string_bytes s.id)) stop stops in
    omega (arith, whole, rest, first)

pub length_of_text : (feed : Feed) (runs : List Run) (names : NamesValue)
    → names.stops ≡ map (λ (stop : Stop). string_bytes stop.id) feed.stops.items
    → names.trips ≡ map (run_name feed.trips.items) runs
    → length (text names) ≡ stop_bytes feed.stops.items + run_bytes feed.trips.items runs
length_of_text feed runs names stops trips =
    ap (λ (ids : List (List ℕ)). length (concat (ids ++ map (λ (t : TripNameValue). t.name) names.trips))) stops
    ∙ ap (λ (runs_named : List TripNameValue).
    length (concat (map (λ (stop : Stop). string_bytes stop.id) feed.stops.items
    ++ map (λ (t : TripNameValue). t.name) runs_named))) trips
    ∙ length_of_names feed.trips.items feed.stops.items runs

pub are_names : (feed : Feed) (plan : Plan) (runs : List Run) (names : NamesValue) (base : ℤ) → IsDayStart plan.zone plan.first_day base → names.base ≡ base
    → names.stops ≡ map (λ (stop : Stop). string_bytes stop.id) feed.stops.items
    → names.trips ≡ map (run_name feed.trips.items) runs → AreNames feed plan runs names
are_names feed plan runs names base starts same stops trips =
    record { base = subst (λ (b : ℤ). IsDayStart plan.zone plan.first_day b) (sym same) starts; stops = stops; trips = trips }

-- the names of stops and runs, and how long they are
pub names_made : (feed : Feed) (plan : Plan) (runs : List Run) (base : ℤ) → IsDayStart plan.zone plan.first_day base
    → (names : NamesValue) × AreNames feed plan runs names × (length (text names) ≡ stop_bytes feed.stops.items + run_bytes feed.trips.items runs)
names_made feed plan runs base starts =
    let names : NamesValue = record {
      base = base;
      stops =
          map (λ (stop : Stop). string_bytes stop.id) feed.stops.items;
      trips =
          map (run_name feed.trips.items) runs;
    } in
    (names, are_names feed plan runs names base starts refl refl refl, length_of_text feed runs names refl refl)
