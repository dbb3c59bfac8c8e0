-- Where a name is among the names of an image.
use Rattle.std.proofs.Common.{◌≡◌, ◌+◌, ◌<◌, ◌≤◌, ℕ, List, [], Some, length, map, sym, ap, ◌∙◌, arith}
use Rattle.std.specs.Prelude.{slice_get, get_or, option_map}
use Rattle.std.proofs.lemmas.List.{length-append, length-map, get_or-append-add}
use Rattle.std.proofs.lemmas.Option.{slice_get-get_or, slice_get-map, slice_get_past}
use Rattle.timetable.specs.NamesValue.{NamesValue, TripNameValue}
use Rattle.image_layout.specs.Spelling.{name_list}
use Rattle.image_facts.specs.Naming.{bytes_or_none, trip_bytes}

name_of_trip : TripNameValue → List ℕ
name_of_trip t = t.name

pub name_there : (n : NamesValue) (i : ℕ) → i < length n.stops + length n.trips → slice_get (name_list n) i ≡ Some (get_or (name_list n) i [])
unfolding name_of_trip
name_there n i lt =
    let all = length-append n.stops (map name_of_trip n.trips) in
    slice_get-get_or (name_list n) i [] (omega (arith, all, length-map n.trips name_of_trip, lt))

pub trip_there : (n : NamesValue) (trip : ℕ) → trip < length n.trips → slice_get (name_list n) (length n.stops + trip) ≡ Some (trip_bytes n trip)
unfolding name_of_trip
trip_there n trip lt =
    let named = map name_of_trip n.trips in
    let all = length-append n.stops named in
    let many = length-map n.trips name_of_trip in
    let found = slice_get-get_or named trip [] (omega (arith, many, lt)) in
    slice_get-get_or (name_list n) (length n.stops + trip) [] (omega (arith, all, many, lt))
    ∙ ap Some (get_or-append-add n.stops named trip [])
    ∙ ap (λ (o : _). Some (bytes_or_none o)) (sym found ∙ slice_get-map name_of_trip n.trips trip)

pub no_trip_there : (n : NamesValue) (trip : ℕ) → length n.trips ≤ trip → trip_bytes n trip ≡ []
no_trip_there n trip le = ap (λ (o : _). bytes_or_none (option_map (λ (t : TripNameValue). t.name) o)) (slice_get_past n.trips trip le)
