-- What can be wrong with a connection, in the order in which it is looked for.
use Rattle.std.specs.Prelude.{◌≡◌, ◌<◌, length, slice_index_or, ℕ, ◌-◌, Bool, false, not, ◌||◌, ◌&&◌, ◌==◌, nat_lt}
use Rattle.std.specs.Prelude.{nat_le, List, Option, Some, None, if◌then◌else◌}
use Rattle.timetable.specs.declared.limits.TheConstants.{TIME_END}
use Rattle.image_layout.specs.Offsets.{header_of}
use Rattle.image_layout.specs.Fields.{from_of, to_of, dep_of, arr_of, trip_of, flags_of}
use Rattle.image_verifier.specs.declared.connections.TripEnd.{TripEnd}
use Rattle.image_verifier.specs.declared.fault.ImageFault.{ImageFault}
use Rattle.image_verifier.specs.declared.fault.ImageFault.TheVariants.{StopRange, TripRange, TimeRange, HopWithoutDuration, BadFlags, Unsorted, TripBroken}
use Rattle.timetable.specs.First.{or_else, first_below, last_below}

-- the last connection of a trip before connection i
abbrev pub last_of_trip : List ℕ → ℕ → ℕ → Option ℕ
last_of_trip w trip i = last_below (λ j. trip_of w j == trip) i

-- connection i leaves another stop than the one where connection j ended, or departs before j arrived
abbrev pub is_break : List ℕ → ℕ → Option ℕ → Bool
is_break w i None = false
is_break w i (Some j) = not (to_of w j == from_of w i) || nat_lt (dep_of w i) (arr_of w j)

-- the fault of connection i by itself
abbrev pub own_fault : List ℕ → ℕ → Option ImageFault
own_fault w i =
    if nat_le (header_of w).stops (from_of w i) || nat_le (header_of w).stops (to_of w i) then Some (StopRange i)
    else (if nat_le (header_of w).trips (trip_of w i) then Some (TripRange i)
    else (if nat_le TIME_END (dep_of w i) || nat_le TIME_END (arr_of w i) then Some (TimeRange i)
    else (if nat_le (arr_of w i) (dep_of w i) then Some (HopWithoutDuration i)
    else (if nat_lt 3 (flags_of w i) then Some (BadFlags i)
    else None))))

-- the fault of connection i in its place: it departs before the connection before it, or breaks its trip, as `broken` says
abbrev pub order_fault_of : List ℕ → ℕ → Bool → Option ImageFault
order_fault_of w i broken =
    if nat_lt 0 i && nat_lt (dep_of w i) (dep_of w (i - 1)) then Some (Unsorted i)
    else (if broken then Some (TripBroken i)
    else None)

-- the fault of connection i
unfoldable pub connection_fault : List ℕ → ℕ → Option ImageFault
connection_fault w i = or_else (own_fault w i) (order_fault_of w i (is_break w i (last_of_trip w (trip_of w i) i)))

-- the first fault of the connections, one by one
abbrev pub connections_fault : List ℕ → Option ImageFault
connections_fault w = first_below (connection_fault w) (header_of w).connections

-- where and when the connection at an index ended; both 0 if there is none
abbrev pub end_of : List ℕ → Option ℕ → TripEnd
end_of w None = record { stop = 0; arr = 0 }
end_of w (Some j) = record { stop = to_of w j; arr = arr_of w j }

-- connection i leaves another stop than that of the end, or departs before its time; an end with the time 0 is none
abbrev pub breaks_at : List ℕ → ℕ → TripEnd → Bool
breaks_at w i end = not (end.arr == 0) && (not (end.stop == from_of w i) || nat_lt (dep_of w i) end.arr)

-- the entry of each trip: where and when its last connection before connection i ended; no such connection arrives at 0
pub record AreTripEnds (w : List ℕ) (i : ℕ) (ends : List TripEnd) : Type 0 where
  pub size : length ends ≡ (header_of w).trips
  pub entry : (t : ℕ) → t < (header_of w).trips → slice_index_or ends t (end_of w None) ≡ end_of w (last_of_trip w t i)
  pub arrives : (t j : ℕ) → last_of_trip w t i ≡ Some j → 0 < arr_of w j
