-- The files that must be there are read one after another.
use Rattle.std.proofs.Common.{Vec, ◌∷◌, []}
use Rattle.std.proofs.lemmas.Result.{err_from_is_err_and}
use Rattle.std.specs.declared.alloc.Global.{Global}
use Rattle.gtfs_rows.specs.Tables.{HoldsAgencies, HoldsStopsWithin, HoldsTripsWithin, IsFaultOf, IsStopsFault, IsTripsFault}
use Rattle.gtfs_rows.specs.declared.fault.Table.TheVariants as tables
use Rattle.gtfs_rows.specs.declared.limited.RowsWithinLimit.{RowsWithinLimit}
use Rattle.gtfs_rows.specs.declared.limited.TheConstants.{MAX_STOPS, MAX_TRIPS}
use Rattle.gtfs_rows.specs.declared.rows.AgencyRow.{AgencyRow}
use Rattle.gtfs_rows.specs.declared.rows.StopRow.{StopRow}
use Rattle.gtfs_rows.specs.declared.rows.TripRow.{TripRow}
use Rattle.feed_files.specs.Reading.{RequiredFault, earlier}
use Rattle.feed_files.proofs.ReadingLemmas.{fine_more, no_tables, required_rows}
use Rattle.feed_files.proofs.ReadLemmas.{gave_first, gave_rest, read_all, read_then, read_up_to}
use Rattle.feed_files.proofs.reading.required_tables.Goals as goal

pub returns-in_err-agencies-clause-read : goal.returns-in_err-agencies-clause-read
returns-in_err-agencies-clause-read g c =
    let p = err_from_is_err_and c.from_residual.result c.from_residual.ensures.1 in
    rw (p.1, p.2) (read_up_to (tables.Stops ∷ tables.Trips ∷ tables.StopTimes ∷ []) c.in_err-agencies.ensures.read)

pub returns-in_err-stops-clause-read : goal.returns-in_err-stops-clause-read
returns-in_err-stops-clause-read g c =
    let a1 = c.in_ok-agencies.ensures.read in
    let p = err_from_is_err_and c.from_residual-in_err-stops.result c.from_residual-in_err-stops.ensures.1 in
    rw (p.1, p.2) (read_up_to (tables.Trips ∷ tables.StopTimes ∷ []) (read_then a1 c.in_err-stops.ensures.read))

pub returns-in_err-trips-clause-read : goal.returns-in_err-trips-clause-read
returns-in_err-trips-clause-read g c =
    let a1 = c.in_ok-agencies.ensures.read in
    let a2 = c.in_ok-stops.ensures.read in
    let j2 = read_then a1 a2 in
    let p = err_from_is_err_and c.from_residual-in_err-trips.result c.from_residual-in_err-trips.ensures.1 in
    rw (p.1, p.2) (read_up_to (tables.StopTimes ∷ [])
    (read_then j2 c.in_err-trips.ensures.read))

pub returns-in_err-stop_times-clause-read : goal.returns-in_err-stop_times-clause-read
returns-in_err-stop_times-clause-read g c =
    let a1 = c.in_ok-agencies.ensures.read in
    let a2 = c.in_ok-stops.ensures.read in
    let a3 = c.in_ok-trips.ensures.read in
    let j2 = read_then a1 a2 in
    let j3 = read_then j2 a3 in
    let p = err_from_is_err_and c.from_residual-in_err-stop_times.result c.from_residual-in_err-stop_times.ensures.1 in
    rw (p.1, p.2) (read_up_to [] (read_then j3 c.in_err-stop_times.ensures.read))

pub returns-in_err-agencies-clause-err : goal.returns-in_err-agencies-clause-err
returns-in_err-agencies-clause-err g c content gave =
    let p = err_from_is_err_and c.from_residual.result c.from_residual.ensures.1 in
    rw (p.1, p.2) (no_tables content tables.Agency (RequiredFault (IsFaultOf tables.Agency) (content tables.Agency))
    c.in_err-agencies.field-0.0 (λ row kind h. h) tt (c.in_err-agencies.ensures.err content gave))

pub returns-in_err-stops-clause-err : goal.returns-in_err-stops-clause-err
returns-in_err-stops-clause-err g c content gave =
    let a1 = c.in_ok-agencies.ensures.read in
    let f1 = gave_first content a1 (c.in_err-stops.ensures.read) gave in
    let g2 = gave_rest content a1 gave in
    let agencies = required_rows (λ (rows : Vec AgencyRow Global). rows.items) HoldsAgencies (content tables.Agency)
    c.in_ok-agencies.agencies (c.in_ok-agencies.ensures.ok content f1) in
    let p = err_from_is_err_and c.from_residual-in_err-stops.result c.from_residual-in_err-stops.ensures.1 in
    rw (p.1, p.2) (no_tables content tables.Stops (RequiredFault (IsStopsFault MAX_STOPS) (content tables.Stops))
    c.in_err-stops.field-0.0 (λ row kind h. h)
    (fine_more content (earlier tables.Agency) tables.Agency tt agencies)
    (c.in_err-stops.ensures.err content g2))

pub returns-in_err-trips-clause-err : goal.returns-in_err-trips-clause-err
returns-in_err-trips-clause-err g c content gave =
    let a1 = c.in_ok-agencies.ensures.read in
    let a2 = c.in_ok-stops.ensures.read in
    let j2 = read_then a1 a2 in
    let f2 = gave_first content j2 (c.in_err-trips.ensures.read) gave in
    let f1 = gave_first content a1 a2 f2 in
    let g2 = gave_rest content a1 f2 in
    let g3 = gave_rest content j2 gave in
    let agencies = required_rows (λ (rows : Vec AgencyRow Global). rows.items) HoldsAgencies (content tables.Agency)
    c.in_ok-agencies.agencies (c.in_ok-agencies.ensures.ok content f1) in
    let stops = required_rows (λ (kept : RowsWithinLimit StopRow). kept.rows.items) (HoldsStopsWithin MAX_STOPS)
    (content tables.Stops) c.in_ok-stops.stops (c.in_ok-stops.ensures.ok content g2) in
    let p = err_from_is_err_and c.from_residual-in_err-trips.result c.from_residual-in_err-trips.ensures.1 in
    rw (p.1, p.2) (no_tables content tables.Trips (RequiredFault (IsTripsFault MAX_TRIPS) (content tables.Trips))
    c.in_err-trips.field-0.0 (λ row kind h. h)
    (fine_more content (earlier tables.Stops) tables.Stops (fine_more content (earlier tables.Agency) tables.Agency tt agencies) stops)
    (c.in_err-trips.ensures.err content g3))

pub returns-in_err-stop_times-clause-err : goal.returns-in_err-stop_times-clause-err
returns-in_err-stop_times-clause-err g c content gave =
    let a1 = c.in_ok-agencies.ensures.read in
    let a2 = c.in_ok-stops.ensures.read in
    let a3 = c.in_ok-trips.ensures.read in
    let j2 = read_then a1 a2 in
    let j3 = read_then j2 a3 in
    let f3 = gave_first content j3 (c.in_err-stop_times.ensures.read) gave in
    let f2 = gave_first content j2 a3 f3 in
    let f1 = gave_first content a1 a2 f2 in
    let g2 = gave_rest content a1 f2 in
    let g3 = gave_rest content j2 f3 in
    let g4 = gave_rest content j3 gave in
    let agencies = required_rows (λ (rows : Vec AgencyRow Global). rows.items) HoldsAgencies (content tables.Agency)
    c.in_ok-agencies.agencies (c.in_ok-agencies.ensures.ok content f1) in
    let stops = required_rows (λ (kept : RowsWithinLimit StopRow). kept.rows.items) (HoldsStopsWithin MAX_STOPS)
    (content tables.Stops) c.in_ok-stops.stops (c.in_ok-stops.ensures.ok content g2) in
    let trips = required_rows (λ (kept : RowsWithinLimit TripRow). kept.rows.items) (HoldsTripsWithin MAX_TRIPS)
    (content tables.Trips) c.in_ok-trips.trips (c.in_ok-trips.ensures.ok content g3) in
    let p = err_from_is_err_and c.from_residual-in_err-stop_times.result c.from_residual-in_err-stop_times.ensures.1 in
    rw (p.1, p.2) (no_tables content tables.StopTimes (RequiredFault (IsFaultOf tables.StopTimes) (content tables.StopTimes))
    c.in_err-stop_times.field-0.0 (λ row kind h. h)
    (fine_more content (earlier tables.Trips) tables.Trips (fine_more content (earlier tables.Stops) tables.Stops
    (fine_more content (earlier tables.Agency) tables.Agency tt agencies) stops) trips)
    (c.in_err-stop_times.ensures.err content g4))

pub returns-clause-read : goal.returns-clause-read
returns-clause-read g c =
    let a1 = c.in_ok-agencies.ensures.read in
    let a2 = c.in_ok-stops.ensures.read in
    let a3 = c.in_ok-trips.ensures.read in
    let a4 = c.in_ok-stop_times.ensures.read in
    let j2 = read_then a1 a2 in
    let j3 = read_then j2 a3 in
    read_all (read_then j3 a4)

pub returns-clause-ok : goal.returns-clause-ok
returns-clause-ok g c content gave =
    let a1 = c.in_ok-agencies.ensures.read in
    let a2 = c.in_ok-stops.ensures.read in
    let a3 = c.in_ok-trips.ensures.read in
    let j2 = read_then a1 a2 in
    let j3 = read_then j2 a3 in
    let f3 = gave_first content j3 c.in_ok-stop_times.ensures.read gave in
    let f2 = gave_first content j2 a3 f3 in
    let f1 = gave_first content a1 a2 f2 in
    let g2 = gave_rest content a1 f2 in
    let g3 = gave_rest content j2 f3 in
    let g4 = gave_rest content j3 gave in
    record {
      agency_txt = c.in_ok-agencies.ensures.ok content f1;
      stops_txt = c.in_ok-stops.ensures.ok content g2;
      trips_txt = c.in_ok-trips.ensures.ok content g3;
      stop_times_txt = c.in_ok-stop_times.ensures.ok content g4;
    }
