-- A timetable as plain lists.
use Rattle.std.specs.Prelude.{ℕ, List}
use Rattle.timetable.specs.declared.network.Connection.{Connection}
use Rattle.timetable.specs.declared.network.Footpath.{Footpath}

-- the number of stops and of trips, each numbered from 0, and all connections and footpaths. A legal timetable has its connections in order of departure, and
-- its footpaths by the stop that they lead to, then by the stop that they leave
pub record TimetableValue : Type 0 where
  pub stops : ℕ
  pub trips : ℕ
  pub connections : List Connection
  pub footpaths : List Footpath
