-- The feed's trips, one trip at a time.
use Rattle.std.proofs.Common.{◌≡◌, ℕ, ◌+◌, List, [], ◌∷◌, ◌++◌, length, Bool, refl, ap, sym, arith}
use Rattle.std.specs.Prelude.{option_map}
use Rattle.std.specs.List.{slice_range}
use Rattle.gtfs_rows.specs.declared.rows.StopTimeRow.{StopTimeRow}
use Rattle.gtfs_rows.specs.declared.rows.TripRow.{TripRow}
use Rattle.gtfs_tables.specs.Feeds.{feed_trip, feed_trips, fault_of_row, trip_fault}
use Rattle.gtfs_tables.specs.Order.{first_row_of}
use Rattle.gtfs_tables.specs.Times.{first_wrong, is_flex}
use Rattle.gtfs_tables.specs.declared.order.SortKey.{SortKey}
use Rattle.gtfs_tables.specs.declared.tables.Trip.{Trip}

feed_trips-at : (sort_keys : List SortKey) (rows : List StopTimeRow) (repeats : ℕ
    → Bool) (from t : ℕ) (trips : List TripRow) (trip : TripRow) → t ≡ from + length trips
    → feed_trips sort_keys rows repeats from (trips ++ trip ∷ []) ≡ feed_trips sort_keys rows repeats from trips ++ feed_trip sort_keys rows repeats t trip ∷ []
feed_trips-at sort_keys rows repeats from t [] trip e = let same : t ≡ from = omega (arith, e) in rw same refl
feed_trips-at sort_keys rows repeats from t (first ∷ trips) trip e =
    ap (λ rest. feed_trip sort_keys rows repeats from first ∷ rest) (feed_trips-at sort_keys rows repeats (from + 1) t trips trip (omega (arith, e)))

-- a trip more, as it is made
pub feed_trips-more : (sort_keys : List SortKey) (rows : List StopTimeRow) (repeats : ℕ
    → Bool) (t : ℕ) (trips : List TripRow) (trip : TripRow) (made : List Trip) (first end : ℕ) (again flex : Bool)
    → t ≡ length trips → made ≡ feed_trips sort_keys rows repeats 0 trips → first ≡ first_row_of sort_keys t
    → end ≡ first_row_of sort_keys (t + 1) → again ≡ repeats t → flex ≡ is_flex (slice_range rows first end)
    → made ++ record {
      id = trip.id;
      service = trip.service;
      first = first;
      end = end;
      repeats = again;
      flex =
          flex;
    } ∷ [] ≡ feed_trips sort_keys rows repeats 0 (trips ++ trip ∷ [])
feed_trips-more sort_keys rows repeats t trips trip made first end again flex e before from to f g =
    rw (g, from, to, f, before) (sym (feed_trips-at sort_keys rows repeats 0 t trips trip (omega (arith, e))))

-- the fault of a trip by where its rows begin and end
pub trip_fault-at : (strict : Bool) (sort_keys : List SortKey) (rows : List StopTimeRow) (t first end : ℕ)
    → first ≡ first_row_of sort_keys t → end ≡ first_row_of sort_keys (t + 1)
    → trip_fault strict sort_keys rows t ≡ option_map (fault_of_row (slice_range sort_keys first end)) (first_wrong strict (slice_range rows first end))
trip_fault-at strict sort_keys rows t first end e f = rw (e, f) refl
