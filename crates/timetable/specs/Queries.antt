-- Which queries can be asked of a timetable, and what is wrong with the others.
use Rattle.std.specs.Prelude.{◌≡◌, ◌≢◌, ℕ, ◌<◌, ◌≤◌, ◌⊎◌, List, codes}
use Rattle.timetable.specs.declared.limits.TheConstants.{TIME_END}
use Rattle.timetable.specs.declared.query.Query.{Query}
use Rattle.timetable.specs.declared.query.QueryFault.{QueryFault}
use Rattle.timetable.specs.declared.query.QueryFault.TheVariants.{UnknownStop, SameStop, BadWindow}

-- the query is between two different stops of a timetable with this many stops, and its times are possible
pub record IsAskable (stops : ℕ) (q : Query) : Type 0 where
  pub source : q.source < stops
  pub target : q.target < stops
  pub differ : q.source ≢ q.target
  pub window : q.from ≤ q.until
  pub in_time : q.from ≤ q.by
  pub small : (q.from < TIME_END) × (q.until < TIME_END) × (q.by < TIME_END)

-- the latest departure or the latest arrival is before the earliest departure, or a time is `TIME_END` or later
abbrev pub HasBadWindow : Query → Type 0
HasBadWindow q = (q.until < q.from) ⊎ (q.by < q.from) ⊎ (TIME_END ≤ q.from) ⊎ (TIME_END ≤ q.until) ⊎ (TIME_END ≤ q.by)

-- the query has this fault, and none of those before it
abbrev pub IsFirstFault : ℕ → Query → QueryFault → Type 0
IsFirstFault stops q UnknownStop = (stops ≤ q.source) ⊎ (stops ≤ q.target)
IsFirstFault stops q SameStop = (q.source < stops) × (q.target < stops) × (q.source ≡ q.target)
IsFirstFault stops q BadWindow = (q.source < stops) × (q.target < stops) × (q.source ≢ q.target) × HasBadWindow q

-- the number and the name of a fault
abbrev pub numbered_fault : QueryFault → ℕ × List ℕ
numbered_fault UnknownStop = (31, codes "UnknownStop")
numbered_fault SameStop = (32, codes "SameStop")
numbered_fault BadWindow = (33, codes "BadWindow")
