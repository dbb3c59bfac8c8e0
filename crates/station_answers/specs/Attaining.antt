-- Journeys between several stops.
use Rattle.criteria.specs.Laws.{Rules}
use Rattle.bags.specs.declared.point.Point.{Point}
use Rattle.timetable.specs.TimetableValue.{TimetableValue}
use Rattle.timetable.specs.JourneyValue.{JourneyValue}
use Rattle.scan_state.specs.SetQuery.{SetQueryValue, Pair, query_of_pair}
use Rattle.journeys.specs.Extracted.{Attains}

-- a journey attains a point for one of the pairs: it counts, departing as the point says, is plain with regard to the pair's target, and is worth the point's
-- value
pub record AttainsPair {V : Type 0} (rules : Rules V) (t : TimetableValue) (b : SetQueryValue) (p : Point V) (j : JourneyValue) : Type 0 where
  pub pair : Pair b
  pub attains : Attains rules t (query_of_pair b pair) p j
