-- Queries between sets of stops: from any of these to any of those.
use Rattle.std.specs.Prelude.{◌≡◌, ◌⊎◌, ◌↔◌, ℕ, ◌<◌, ◌≤◌, List, [], ◌∷◌, Contains, Option, Some, None, slice_get}
use Rattle.criteria.specs.Laws.{Rules}
use Rattle.bags.specs.declared.point.Point.{Point}
use Rattle.timetable.specs.declared.limits.TheConstants.{TIME_END}
use Rattle.timetable.specs.declared.network.Footpath.{Footpath}
use Rattle.timetable.specs.declared.query.Query.{Query}
use Rattle.timetable.specs.Queries.{IsAskable}
use Rattle.timetable.specs.TimetableValue.{TimetableValue}
use Rattle.timetable.specs.JourneyValue.{JourneyValue}
use Rattle.timetable.specs.Journeys.{Counts}
use Rattle.scan_state.specs.Values.{journey_value}
use Rattle.scan_state.specs.Points.{IsAnswerOf, IsPoint, IsAnswer}
use Rattle.scan_state.specs.declared.set_query.SetQuery.{SetQuery}
use Rattle.timetable.specs.Legal.{IsLegal}
use Rattle.timetable.specs.Limits.{IsWithinLimits}

-- what is asked: journeys from any of the sources to any of the targets that depart between two times and arrive by a third
pub record SetQueryValue : Type 0 where
  pub sources : List ℕ
  pub targets : List ℕ
  pub from : ℕ
  pub until : ℕ
  pub by : ℕ

-- what a query between sets asks, as plain lists
abbrev pub question : SetQuery → SetQueryValue
question query = record {
  sources = query.sources.items;
  targets = query.targets.items;
  from = query.from;
  until = query.until;
  by = query.by;
}

-- the same of other sources: those of an index
abbrev pub asked_from : (List ℕ → ℕ → List ℕ) → SetQueryValue → ℕ → SetQueryValue
asked_from sources q index = record q { sources = sources q.sources index }

-- the query from one stop to another in the same window
abbrev pub pair_of : SetQueryValue → ℕ → ℕ → Query
pair_of b source target = record { source = source; target = target; from = b.from; until = b.until; by = b.by }

-- a query as one between a single source and a single target
abbrev pub single_set_query : Query → SetQueryValue
single_set_query q = record { sources = q.source ∷ []; targets = q.target ∷ []; from = q.from; until = q.until; by = q.by }

-- the stops are stops of a timetable with this many, no source is a target, and the times are possible. A stop may be named twice on a side, which changes
-- nothing, and a side may have none: then there is no journey
pub record IsAskableBetween (stops : ℕ) (b : SetQueryValue) : Type 0 where
  pub sources : (stop : ℕ) → Contains b.sources stop → stop < stops
  pub targets : (stop : ℕ) → Contains b.targets stop → stop < stops
  pub differ : (stop : ℕ) → Contains b.sources stop → Contains b.targets stop → ⊥
  pub window : b.from ≤ b.until
  pub in_time : b.from ≤ b.by
  pub small : (b.from < TIME_END) × (b.until < TIME_END) × (b.by < TIME_END)

-- one of the sources, and one of the targets
pub record Pair (b : SetQueryValue) : Type 0 where
  pub source : ℕ
  pub target : ℕ
  pub is_source : Contains b.sources source
  pub is_target : Contains b.targets target

abbrev pub query_of_pair : (b : SetQueryValue) → Pair b → Query
query_of_pair b pair = pair_of b pair.source pair.target

-- a journey that counts for one of the pairs
pub record CountsBetween (t : TimetableValue) (b : SetQueryValue) (departure : ℕ) (j : JourneyValue) : Type 0 where
  pub pair : Pair b
  pub counts : Counts t (query_of_pair b pair) departure j

-- a point of the query: departure and value of a journey that counts
abbrev pub IsPointBetween : {V : Type 0} → Rules V → TimetableValue → SetQueryValue → ℕ → V → Type 0
IsPointBetween rules t b departure v = (j : JourneyValue) × CountsBetween t b departure j × (v ≡ journey_value rules t j)

-- the answer of the query: the undominated points of all journeys that count for any pair
abbrev pub IsAnswerBetween : {V : Type 0} → Rules V → TimetableValue → SetQueryValue → List (Point V) → Type 0
IsAnswerBetween rules t b = IsAnswerOf rules (IsPointBetween rules t b)

-- a footpath from the source at index i to the target at index k
pub record IsDirect (t : TimetableValue) (b : SetQueryValue) (i k : ℕ) (f : Footpath) : Type 0 where
  pub is_footpath : Contains t.footpaths f
  pub leaves : slice_get b.sources i ≡ Some f.from
  pub leads : slice_get b.targets k ≡ Some f.to

-- a footpath of `secs` seconds from source i to target k is taken before one of `other` seconds from source m to target n: it is shorter; or as long, and its
-- source is named before the other's; or it has the same source, and its target isn't named after the other's
abbrev pub IsTakenBefore : ℕ → ℕ → ℕ → ℕ → ℕ → ℕ → Type 0
IsTakenBefore i k secs m n other = (secs < other) ⊎ ((secs ≡ other) × ((i < m) ⊎ ((i ≡ m) × (k ≤ n))))

-- the direct walk: of all footpaths from a source to a target the shortest, and of equal ones the first in the order of the lists; or there is none
abbrev pub IsDirectWalk : TimetableValue → SetQueryValue → Option Footpath → Type 0
IsDirectWalk t b None = (i k : ℕ) (f : Footpath) → IsDirect t b i k f → ⊥
IsDirectWalk t b (Some walk) = (i : ℕ) × (k : ℕ) × IsDirect t b i k walk
    × ((m n : ℕ) (f : Footpath) → IsDirect t b m n f → IsTakenBefore i k walk.secs m n f.secs)

-- the seconds of a footpath, if there is one
abbrev pub secs_of : Option Footpath → Option ℕ
secs_of None = None
secs_of (Some f) = Some f.secs

-- a query between a single source and a single target asks what the plain query does
pub record OneIsPlain {V : Type 0} (rules : Rules V) (t : TimetableValue) (q : Query) : Type 0 where
  pub askable : (stops : ℕ) → IsAskableBetween stops (single_set_query q) ↔ IsAskable stops q
  pub counts : (departure : ℕ) (j : JourneyValue) → CountsBetween t (single_set_query q) departure j ↔ Counts t q departure j
  pub points : (departure : ℕ) (v : V) → IsPointBetween rules t (single_set_query q) departure v ↔ IsPoint rules t q departure v
  pub answers : (points : List (Point V)) → IsAnswerBetween rules t (single_set_query q) points ↔ IsAnswer rules t q points

-- a legal timetable within the limits, and a query whose latest arrival is a time
pub record CanScan (t : TimetableValue) (q : SetQueryValue) : Type 0 where
  pub legal : IsLegal t
  pub limits : IsWithinLimits t
  pub in_time : q.by < TIME_END
