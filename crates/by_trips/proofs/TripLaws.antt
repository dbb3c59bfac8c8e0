-- The rules of arrival and trips keep the laws.
use Rattle.std.proofs.Common.{◌+◌, nat_le}
use Rattle.std.proofs.lemmas.Bool.{le-leb, and_from}
use Rattle.criteria.specs.Laws.{Laws}
use Rattle.criteria.specs.NumberLaws.{nat_le-refl}
use Rattle.criteria.specs.TimeTripsLaws.{arrival_admitted, trips_admitted, no_worse-refl, no_worse-trans}
use Rattle.criteria.specs.TimeTripsLaws.{no_worse-antisymm, no_worse-ride, by_time_then_trips, tied_parts}
use Rattle.lanes.specs.Lanes.{trip_rules}

pub trip_laws : Laws trip_rules
trip_laws = record {
  arrive_admits = λ time h. arrival_admitted time h;
  ride_admits = λ v a. trips_admitted v (v.trips + 1) a;
  walk_admits = λ secs v h a. a;
  reflexive = λ v a. no_worse-refl v;
  transitive = λ u v w a b c h k. no_worse-trans u v w h k;
  antisymmetric = λ v w a b h k. no_worse-antisymm v w h k;
  arrive_monotone = λ s t h k le. and_from (nat_le s t) (nat_le 0 0) (le-leb s t le) (nat_le-refl 0);
  ride_monotone = λ v w a b h. no_worse-ride v w h;
  walk_monotone = λ c d v w p q a b le h. h;
  walk_worsens = λ d v h a. no_worse-refl v;
  walk_joins = λ d d1 d2 v p q r a le. no_worse-refl v;
  order_turns = λ v w a b. by_time_then_trips.antisymm v w;
  order_chains = λ u v w a b c h k. by_time_then_trips.trans u v w h k;
  order_exact = λ v w a b h. tied_parts v w h;
}
