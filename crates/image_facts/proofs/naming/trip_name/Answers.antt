use Rattle.std.proofs.Common.{◌≡◌, ◌+◌, ◌<◌, ℕ, length, sym, subst, ◌∙◌, arith}
use Rattle.std.specs.Prelude.{slice_get, Some}
use Rattle.image_layout.specs.Spelling.{name_list}
use Rattle.image_facts.specs.Naming.{trip_bytes}
use Rattle.image_facts.proofs.Named.{trip_there, no_trip_there}
use Rattle.image_facts.proofs.naming.trip_name.Goals as goal

pub returns-then-trip-trips : goal.returns-then-trip-trips
returns-then-trip-trips c =
    let names = c.args.image.now.names in
    let fit = c.stops-stops.ensures.kept.names in
    let below : c.args.trip < length names.trips = omega (arith, fit.trip_names, c.trips.ensures, c.if-trip-trips.true) in
    let position : length names.stops + c.args.trip ≡ c.stops-stops.result + c.args.trip = omega (arith, fit.stop_names, c.stops-stops.ensures.stops) in
    c.text_of_name.ensures (trip_bytes names c.args.trip)
    (subst (λ (i : ℕ). slice_get (name_list names) i ≡ Some (trip_bytes names c.args.trip)) position (trip_there names c.args.trip below))

pub returns-else-trip-trips : goal.returns-else-trip-trips
returns-else-trip-trips c =
    let names = c.args.image.now.names in
    let fit = c.stops-stops.ensures.kept.names in
    c.new.ensures.bytes ∙ sym (no_trip_there names c.args.trip (omega (arith, fit.trip_names, c.trips.ensures, c.if-trip-trips.false)))
