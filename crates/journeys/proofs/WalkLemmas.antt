-- Walks with one more footpath.
use Rattle.std.proofs.Common.{◌≡◌, ℕ, ◌+◌, ◌<◌, ◌≤◌, suc, zero, true, eqb, List, [], ◌∷◌, length, get_or, drop, Some}
use Rattle.std.proofs.Common.{refl, ap, arith, add-one}
use Rattle.std.specs.List.{list_all}
use Rattle.std.proofs.lemmas.Bool.{and_parts, eqb-true, eq-eqb, and_from}
use Rattle.std.proofs.lemmas.Option.{same_Some}
use Rattle.std.proofs.Math.Seq.{drop-cons}
use Rattle.reasoning.proofs.OptionLemmas.{some_where}
use Rattle.timetable.specs.declared.network.Footpath.{Footpath}
use Rattle.timetable.specs.TimetableValue.{TimetableValue}
use Rattle.timetable.specs.Journeys.{IsWalk, walk_end, walk_secs}
use Rattle.journeys.specs.Faults.{has_footpath, led_to}
use Rattle.journeys.proofs.FootpathLemmas.{Contains-has_footpath, has_footpath-Contains}

-- the seconds from index i on are those of the footpath there and of the rest
pub walk_secs_from : (walk : List Footpath) (i : ℕ) (d : Footpath) → i < length walk
    → walk_secs (drop i walk) ≡ (get_or walk i d).secs + walk_secs (drop (i + 1) walk)
walk_secs_from walk i d lt = rw (add-one) (ap walk_secs (drop-cons walk i d lt))

-- past the last footpath there are none
pub walk_secs_done : (walk : List Footpath) (i : ℕ) → length walk ≤ i → walk_secs (drop i walk) ≡ 0
walk_secs_done [] zero le = refl
walk_secs_done [] (suc i) le = refl
walk_secs_done (f ∷ walk) zero le = absurd (omega arith)
walk_secs_done (f ∷ walk) (suc i) le = walk_secs_done walk i (omega arith)

pub ruleset sums = (walk_secs_from)

-- footpaths that the timetable has, and that join, are a walk
pub IsWalk-from : (t : TimetableValue) (walk : List Footpath) (stop end : ℕ) → list_all (has_footpath t) walk ≡ true → led_to stop walk ≡ Some end
    → IsWalk t stop walk × (walk_end stop walk ≡ end)
IsWalk-from t [] stop end known led = (tt, same_Some stop end led)
IsWalk-from t (f ∷ walk) stop end known led =
    let parts = and_parts _ _ known in
    let joined = some_where (eqb f.from stop) (led_to f.to walk) end led in
    let rest = IsWalk-from t walk f.to end parts.1 joined.1 in
    ((Contains-has_footpath t f parts.0, eqb-true f.from stop joined.0, rest.0), rest.1)

-- and the reverse
pub led_to-IsWalk : (t : TimetableValue) (walk : List Footpath) (stop : ℕ) → IsWalk t stop walk → led_to stop walk ≡ Some (walk_end stop walk)
led_to-IsWalk t [] stop is = refl
led_to-IsWalk t (f ∷ walk) stop is = rw (eq-eqb f.from stop is.1) (led_to-IsWalk t walk f.to is.2)

pub known-IsWalk : (t : TimetableValue) (walk : List Footpath) (stop : ℕ) → IsWalk t stop walk → list_all (has_footpath t) walk ≡ true
known-IsWalk t [] stop is = refl
known-IsWalk t (f ∷ walk) stop is = and_from _ _ (has_footpath-Contains t f is.0) (known-IsWalk t walk f.to is.2)
