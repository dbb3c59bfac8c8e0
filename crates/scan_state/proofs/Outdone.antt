-- What stays outdone: a value that is no better, a value after a ride, and any value as more points are found.
use Rattle.std.proofs.Common.{ℕ, ◌+◌, ◌≤◌, List, arith}
use Rattle.criteria.specs.Laws.{Rules, Laws, Admits, NoWorse}
use Rattle.bags.specs.declared.point.Point.{Point}
use Rattle.timetable.specs.TimetableValue.{TimetableValue}
use Rattle.scan_state.specs.Points.{Covers}
use Rattle.scan_state.specs.Matching.{IsOutdone}
use Rattle.scan_state.proofs.Admitted.{AreAdmitted}

-- what a list covers, another does
abbrev pub KeepsCovers : {V : Type 0} → Rules V → List (Point V) → List (Point V) → Type 0
KeepsCovers {V} rules old new = (departure : ℕ) (v : V) → Admits rules v → Covers rules old departure v → Covers rules new departure v

module _ {V : Type 0} (rules : Rules V) (laws : Laws rules) (t : TimetableValue) where
  pub outdone_worse : (found : List (Point V)) → AreAdmitted rules found → (i : ℕ) (v w : V) → Admits rules v
      → Admits rules w → NoWorse rules v w → IsOutdone rules t found i v → IsOutdone rules t found i w
  outdone_worse found admitted i v w a b h o = record {
    worsens = o.worsens;
    by = o.by;
    is_found = o.is_found;
    in_time = o.in_time;
    no_worse = laws.transitive o.by.value v w (admitted o.by o.is_found) a b o.no_worse h;
  }

  -- here alone it is of use that riding never makes a value better
  pub outdone_ride : (found : List (Point V)) → AreAdmitted rules found → (i : ℕ) (v : V) → Admits rules v
      → IsOutdone rules t found i v → IsOutdone rules t found i (rules.ride v)
  outdone_ride found admitted i v a o = outdone_worse found admitted i v (rules.ride v) a (laws.ride_admits v a) (o.worsens v a) o

  -- with more points found, and fewer connections to come
  pub outdone_on : (old new : List (Point V)) (n m : ℕ) (v : V) → Admits rules v → m ≤ n → KeepsCovers rules old new
      → IsOutdone rules t old n v → IsOutdone rules t new m v
  outdone_on old new n m v a le kept o =
      let c = kept o.by.departure v a (o.by, o.is_found, omega arith, o.no_worse) in
      record {
        worsens = o.worsens;
        by = c.0;
        is_found = c.1;
        in_time = λ k lt. omega (arith, o.in_time k (omega arith), c.2);
        no_worse = c.3;
      }

  pub outdone_down : (found : List (Point V)) (i : ℕ) (v : V) → Admits rules v → IsOutdone rules t found (i + 1) v → IsOutdone rules t found i v
  outdone_down found i v a o = outdone_on found found (i + 1) i v a (omega arith) (λ d w b c. c) o
