-- Queries from every stop at once, and when they can be asked.
use Rattle.std.specs.Prelude.{ℕ, ◌<◌, ◌≤◌, [], ◌∷◌}
use Rattle.timetable.specs.declared.limits.TheConstants.{TIME_END}
use Rattle.timetable.specs.declared.query.Query.{Query}
use Rattle.timetable.specs.declared.query.QueryFault.{QueryFault}
use Rattle.timetable.specs.declared.query.QueryFault.TheVariants.{UnknownStop, SameStop, BadWindow}
use Rattle.timetable.specs.Queries.{HasBadWindow}
use Rattle.scan_state.specs.SetQuery.{SetQueryValue}
use Rattle.profile_scan.specs.declared.destination.Destination.{Destination}
use Rattle.profile_scan.specs.declared.destinations.Destinations.{Destinations}

-- the query from a stop
abbrev pub query_from : Destination → ℕ → Query
query_from d stop = record { source = stop; target = d.target; from = d.from; until = d.until; by = d.by }

-- the query between no source and the targets, for a scan that finds answers from every stop
abbrev pub question_to_any : Destinations → SetQueryValue
question_to_any d = record { sources = []; targets = d.targets.items; from = d.from; until = d.until; by = d.by }

-- the same to a single target
abbrev pub question_to : Destination → SetQueryValue
question_to d = record { sources = []; targets = d.target ∷ []; from = d.from; until = d.until; by = d.by }

-- the target is a stop of a timetable with this many stops, and the times are possible
pub record CanBeAsked (stops : ℕ) (d : Destination) : Type 0 where
  pub target : d.target < stops
  pub window : d.from ≤ d.until
  pub in_time : d.from ≤ d.by
  pub small : (d.from < TIME_END) × (d.until < TIME_END) × (d.by < TIME_END)

-- the destination has this fault, and none of those before it
abbrev pub IsDestinationFault : ℕ → Destination → QueryFault → Type 0
IsDestinationFault stops d UnknownStop = stops ≤ d.target
IsDestinationFault stops d SameStop = ⊥
IsDestinationFault stops d BadWindow = (d.target < stops) × HasBadWindow (query_from d d.target)
