-- Worked examples: three stops A, B and C (0, 1, 2) and two trips, one from A through B to C, and a faster one from B to C that leaves two minutes after the
-- first has arrived there
use Rattle.std.specs.Prelude.{ℕ, true, false, List, [], ◌∷◌, Option, Some, None}
use Rattle.timetable.specs.declared.network.Connection.{Connection}
use Rattle.timetable.specs.declared.network.Footpath.{Footpath}
use Rattle.timetable.specs.declared.query.Query.{Query}
use Rattle.timetable.specs.TimetableValue.{TimetableValue}
use Rattle.timetable.specs.JourneyValue.{RideValue, JourneyValue}

abbrev pub footpath : ℕ → ℕ → ℕ → Footpath
footpath from to secs = record { from = from; to = to; secs = secs }

abbrev hop : ℕ → ℕ → ℕ → ℕ → ℕ → Connection
hop from to dep arr trip = record { from = from; to = to; dep = dep; arr = arr; trip = trip; board = true; alight = true }

-- A 08:00:00 to B 08:10:00 and on to C 08:30:00; B 08:12:00 to C 08:20:00
abbrev pub with_footpaths : List Footpath → TimetableValue
with_footpaths footpaths = record {
  stops = 3;
  trips = 2;
  connections = hop 0 1 28800 29400 0 ∷ hop 1 2 29400 30600 0 ∷ hop 1 2 29520 30000 1 ∷ [];
  footpaths = footpaths;
}

-- loops at A and B of this many seconds, and one of 0 s at C
abbrev pub with_loops : ℕ → ℕ → TimetableValue
with_loops at_a at_b = with_footpaths (footpath 0 0 at_a ∷ footpath 1 1 at_b ∷ footpath 2 2 0 ∷ [])

-- loops of 0 s, and a footpath from A to B of two minutes
abbrev pub with_walk : TimetableValue
with_walk = with_footpaths (footpath 0 0 0 ∷ footpath 0 1 120 ∷ footpath 1 1 0 ∷ footpath 2 2 0 ∷ [])

-- loops of 0 s, footpaths of one minute from A to B and from B to C, and of two minutes from A to C
abbrev pub with_chain : TimetableValue
with_chain = with_footpaths (footpath 0 0 0 ∷ footpath 0 1 60 ∷ footpath 1 1 0 ∷ footpath 0 2 120 ∷ footpath 1 2 60 ∷ footpath 2 2 0 ∷ [])

-- from A to C, departing from 07:00:00 until a time, and arriving by a time
abbrev pub asked : ℕ → ℕ → Query
asked until by = record { source = 0; target = 2; from = 25200; until = until; by = by }

-- a leg from one connection to another, and the walk after it
abbrev pub ride : ℕ → ℕ → List Footpath → RideValue
ride first last walk = record { leg = record { first = first; last = last }; walk = walk }

abbrev pub from_start : Option Footpath → List RideValue → JourneyValue
from_start start rides = record { start = start; rides = rides }

-- the whole first trip
abbrev pub direct : JourneyValue
direct = from_start None (ride 0 1 [] ∷ [])

-- the first trip to B, a change there of this many seconds, and the second trip
abbrev pub by_change : ℕ → JourneyValue
by_change secs = from_start None (ride 0 0 (footpath 1 1 secs ∷ []) ∷ ride 2 2 [] ∷ [])

-- on foot to B, and a connection from there
abbrev pub on_foot : ℕ → ℕ → JourneyValue
on_foot secs connection = from_start (Some (footpath 0 1 secs)) (ride connection connection [] ∷ [])

-- one connection, from a stop whose loop takes a minute
abbrev pub one_hop : TimetableValue
one_hop = record { stops = 2; trips = 1; connections = hop 0 1 100 200 0 ∷ []; footpaths = footpath 0 0 60 ∷ footpath 1 1 0 ∷ [] }

-- a query over it, departing until a time
abbrev pub over_one_hop : ℕ → Query
over_one_hop until = record { source = 0; target = 1; from = 0; until = until; by = 1000 }

-- the same stops and footpaths, and one trip whose first hop ends at its own stop: nobody gets off after that hop, and nobody boards for the second
abbrev pub two_hops : TimetableValue
two_hops = record one_hop {
  connections =
      record { from = 0; to = 0; dep = 100; arr = 200; trip = 0; board = true; alight = false }
      ∷ record { from = 0; to = 1; dep = 200; arr = 300; trip = 0; board = false; alight = true }
      ∷ [];
}
