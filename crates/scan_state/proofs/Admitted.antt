-- All ways to go on have admitted values, so the laws of a criterion apply to all that a scan keeps.
use Rattle.std.proofs.Common.{ℕ, ◌+◌, ◌≤◌, List, [], ◌∷◌, Option, Contains, arith, sym, subst}
use Rattle.criteria.specs.Laws.{Rules, Laws, Admits, NoWorse}
use Rattle.bags.specs.declared.point.Point.{Point}
use Rattle.timetable.specs.TimetableValue.{TimetableValue}
use Rattle.timetable.specs.JourneyValue.{RideValue, JourneyValue}
use Rattle.timetable.specs.Journeys.{connection_at, walk_end, walk_secs, Leads, final_time, time_after, stop_after, start_end, arrival}
use Rattle.scan_state.specs.SetQuery.{SetQueryValue, CountsBetween, IsPointBetween}
use Rattle.scan_state.specs.Values.{walked, ridden, journey_value}
use Rattle.scan_state.specs.Points.{Covers}
use Rattle.scan_state.specs.Continuations.{Onward, Aboard, IsOnward, IsAboard, onward_value, aboard_value, time_off, time_there}
use Rattle.scan_state.specs.Matching.{IsAttained}
use Rattle.scan_state.specs.SetQuery.{CanScan}
use Rattle.scan_state.proofs.Chains.{walked_admits, started_admits}

-- each point of a list is admitted
abbrev pub AreAdmitted : {V : Type 0} → Rules V → List (Point V) → Type 0
AreAdmitted {V} rules points = (p : Point V) → Contains points p → Admits rules p.value

module _ {V : Type 0} (rules : Rules V) (laws : Laws rules) (t : TimetableValue) (q : SetQueryValue) (can : CanScan t q) where
  pub ridden_admits : (goal stop time final : ℕ) (rides : List RideValue) → final ≤ q.by → Leads t goal stop time rides
      → Admits rules (ridden rules final rides)
  ridden_admits goal stop time final [] le leads = let small = can.in_time in laws.arrive_admits final (omega arith)
  ridden_admits goal stop time final (ride ∷ rides) le leads =
      laws.ride_admits (walked rules ride.walk (ridden rules final rides))
      (walked_admits rules laws t can.limits (connection_at t ride.leg.last).to ride.walk (ridden rules final rides) leads.3
      (ridden_admits goal (stop_after t ride) (time_after t ride) final rides le leads.5))

  pub onward_admits : (i stop time : ℕ) (x : Onward) → IsOnward t q i stop time x → Admits rules (onward_value rules t x)
  onward_admits i stop time x on =
      walked_admits rules laws t can.limits stop x.walk (ridden rules (final_time t 0 x.rides) x.rides) on.is_walk
      (ridden_admits on.goal (walk_end stop x.walk) (time + walk_secs x.walk) (final_time t 0 x.rides) x.rides on.arrives on.leads)

  pub aboard_admits : (i trip : ℕ) (x : Aboard) → IsAboard t q i trip x → Admits rules (aboard_value rules t x)
  aboard_admits i trip x a =
      walked_admits rules laws t can.limits (connection_at t x.last).to x.walk (ridden rules (time_there t x) x.rides) a.is_walk
      (ridden_admits a.goal (walk_end (connection_at t x.last).to x.walk) (time_off t x) (time_there t x) x.rides a.arrives a.leads)

  pub journey_admits : (departure : ℕ) (j : JourneyValue) → CountsBetween t q departure j → Admits rules (journey_value rules t j)
  journey_admits departure j counts =
      started_admits rules laws t can.limits counts.pair.source j.start (ridden rules (arrival t j) j.rides) counts.counts.journey.starts
      (ridden_admits counts.pair.target (start_end counts.pair.source j.start) 0 (arrival t j) j.rides counts.counts.arrives counts.counts.journey.leads)

  pub point_admits : (departure : ℕ) (v : V) → IsPointBetween rules t q departure v → Admits rules v
  point_admits departure v p = subst (Admits rules) (sym p.2) (journey_admits departure p.0 p.1)

-- points that are attained by admitted ways are admitted
pub attained_admits : {V X : Type 0} (rules : Rules V) (spelled : ℕ → Option X) (IsThere : ℕ → X
    → Type 0) (IsPlainWay : X → Type 0) (value : X → V)
    → ((departure : ℕ) (x : X) → IsThere departure x → Admits rules (value x)) → (points : List (Point V))
    → ((p : Point V) → Contains points p → IsAttained spelled IsThere IsPlainWay value p) → AreAdmitted rules points
attained_admits rules spelled IsThere IsPlainWay value admits points sound p is =
    let a = sound p is in
    subst (Admits rules) (sym a.worth) (admits p.departure a.way a.there)

-- what is covered covers what is worse and departs no later
pub covers_weaker : {V : Type 0} (rules : Rules V) (laws : Laws rules) (points : List (Point V))
    (admitted : AreAdmitted rules points) (d e : ℕ) (v w : V) → Admits rules v → Admits rules w → e ≤ d
    → NoWorse rules v w → Covers rules points d v → Covers rules points e w
covers_weaker rules laws points admitted d e v w a b le h c =
    (c.0, c.1, omega (arith, c.2), laws.transitive c.0.value v w (admitted c.0 c.1) a b c.3 h)
