-- The journey that a point of an answer stands for.
use Rattle.std.specs.Prelude.{◌≡◌, ℕ, ◌<◌, List, [], Contains, Option, Some, None}
use Rattle.criteria.specs.Laws.{Rules}
use Rattle.bags.specs.declared.point.Point.{Point}
use Rattle.timetable.specs.TimetableValue.{TimetableValue}
use Rattle.timetable.specs.JourneyValue.{RideValue, JourneyValue}
use Rattle.timetable.specs.Journeys.{Counts}
use Rattle.timetable.specs.declared.query.Query.{Query}
use Rattle.scan_state.specs.Values.{journey_value}
use Rattle.scan_state.specs.SetQuery.{SetQueryValue, Pair, query_of_pair}
use Rattle.scan_state.specs.Plain.{IsPlain, IsPlainOf}
use Rattle.scan_state.specs.Continuations.{Aboard}
use Rattle.scan_state.specs.Steps.{boarded}
use Rattle.profile_scan.specs.Nodes.{spelled}
use Rattle.scan_state.specs.ScanRecords.{changed_at, boarded_after, walk_of}
use Rattle.profile_scan.specs.declared.nodes.Node.{Node}
use Rattle.journeys.specs.declared.extraction.BoardingNode.{BoardingNode}
use Rattle.journeys.specs.declared.extraction.Alighting.{Alighting}
use Rattle.journeys.specs.declared.extraction.Alighting.TheVariants.{Ends, Changes}

-- a journey attains a point: it counts, departing as the point says, is plain, and is worth the point's value
pub record Attains {V : Type 0} (rules : Rules V) (t : TimetableValue) (q : Query) (p : Point V) (j : JourneyValue) : Type 0 where
  pub counts : Counts t q p.departure j
  pub plain : IsPlain t q.target j
  pub worth : p.value ≡ journey_value rules t j

-- a journey attains a point of a query between sets: it attains it for the query of a pair, a source where it begins and a target where it ends; and with
-- regard to all targets it is plain: after its last leg it walks on only if that leg ends at none of them
pub record AttainsBetween {V : Type 0} (rules : Rules V) (t : TimetableValue) (b : SetQueryValue) (p : Point V) (j : JourneyValue) : Type 0 where
  pub pair : Pair b
  pub attains : Attains rules t (query_of_pair b pair) p j
  pub plain : IsPlainOf t (Contains b.targets) j

-- the journey that is spelled; if none is, the one without rides
abbrev pub or_none : Option JourneyValue → JourneyValue
or_none None = record { start = None; rides = [] }
or_none (Some j) = j

-- a node boards: it spells how one goes on from a stop, by what an earlier node spells
abbrev pub IsBoarding : List Node → ℕ → BoardingNode → Type 0
IsBoarding nodes number b = (b.next < number) × ((spelled nodes number).onward ≡ boarded_after b.walk b.first (spelled nodes b.next).aboard)

-- a node gets off, for good or to board again: it spells how one goes on in a trip, by what an earlier node spells
abbrev pub IsAlighting : List Node → ℕ → Alighting → Type 0
IsAlighting nodes number (Ends last walk) = (spelled nodes number).aboard ≡ Some (record { last = last; walk = walk_of walk; rides = [] })
IsAlighting nodes number (Changes last b) =
    (b.next < number) × ((spelled nodes number).aboard ≡ changed_at last (boarded_after b.walk b.first (spelled nodes b.next).aboard))

-- the rides of a passenger who boards connection `first` and goes on as is spelled
abbrev pub rides_on : ℕ → Option Aboard → Option (List RideValue)
rides_on first None = None
rides_on first (Some x) = Some (boarded first x)
