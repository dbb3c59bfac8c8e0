-- Ending where a connection ends.
use Rattle.std.proofs.Common.{◌≡◌, ℕ, ◌+◌, List, Option, Some, None, IfSome, refl, sym, ◌∙◌, ap, subst, arith}
use Rattle.criteria.specs.Laws.{Rules, Laws, Admits, IsTime, IsSecs}
use Rattle.bags.specs.declared.point.Point.{Point}
use Rattle.timetable.specs.declared.network.Connection.{Connection}
use Rattle.timetable.specs.declared.network.Footpath.{Footpath}
use Rattle.timetable.specs.Journeys.{start_secs}
use Rattle.scan_state.specs.SetQuery.{SetQueryValue}
use Rattle.scan_state.specs.Values.{started}
use Rattle.scan_state.specs.Points.{Covers}
use Rattle.scan_state.specs.Matching.{Spellings}
use Rattle.scan_state.specs.Steps.{TakesIn}
use Rattle.scan_state.specs.ScanRecords.{IsExit}
use Rattle.scan_state.specs.Adding.{one_way, endings, IsEnding}
use Rattle.scan_state.specs.declared.scan_records.Exit.TheVariants.{Ends}
use Rattle.scan_state.specs.declared.final_walks.FinalWalk.{FinalWalk}
use Rattle.scan_state.proofs.Offers.{takes_as, start_admits}

-- the one way to end is all that is offered
pub takes_the_end : {V : Type 0} (rules : Rules V) (tags : Spellings) (last : ℕ) (c : Connection) (q : SetQueryValue)
    (way : Option FinalWalk) (walk : Option Footpath) (value : V) (time : ℕ) (old new : List (Point V)) → IsEnding c q way walk
    → ((other : Option Footpath) → IsEnding c q way other → other ≡ walk)
    → value ≡ started rules walk (rules.arrive time) → time ≡ c.arr + start_secs walk
    → TakesIn rules (one_way 0 value (IsExit tags (Ends last walk))) old new
    → TakesIn rules (endings rules tags last c q way) old new
takes_the_end rules tags last c q way walk value time old new ends only worth at takes =
    let worth_is = worth ∙ ap (λ (n : ℕ). started rules walk (rules.arrive n)) at in
    takes_as rules (one_way 0 value (IsExit tags (Ends last walk))) (endings rules tags last c q way) old new
    (λ _ _. record { there = walk; is_open = ends; departs = refl; worth = worth_is; fits = λ tag h. h })
    (λ other opened. subst (λ (w : Option Footpath).
    Covers rules new 0 (started rules w (rules.arrive (c.arr + start_secs w)))) (sym (only other opened))
    (subst (Covers rules new 0) worth_is (takes.covered tt tt)))
    takes

-- the seconds of a walk to a target are allowed
pub end_secs : (c : Connection) (q : SetQueryValue) (way : Option FinalWalk) (walk : Option Footpath) → IfSome way (λ w. IsSecs w.secs)
    → IsEnding c q way walk → IfSome walk (λ f. IsSecs f.secs)
end_secs c q None walk secs ends = absurd ends
end_secs c q (Some way) None secs ends = tt
end_secs c q (Some way) (Some f) secs ends = subst (λ (w : Footpath). IsSecs w.secs) (sym ends.1) secs

pub end_time : (c : Connection) (q : SetQueryValue) (way : Option FinalWalk) (walk : Option Footpath) → IsTime c.arr → IsTime q.by
    → IsEnding c q way walk → IsTime (c.arr + start_secs walk)
end_time c q None walk arrival by ends = absurd ends
end_time c q (Some way) None arrival by ends = omega arith
end_time c q (Some way) (Some f) arrival by ends = omega (arith, ends.2)

-- the value of an end is admitted
pub end_admits : {V : Type 0} (rules : Rules V) → Laws rules
    → (c : Connection) (q : SetQueryValue) (way : Option FinalWalk) (walk : Option Footpath) → IsTime c.arr → IsTime q.by
    → IfSome way (λ w. IsSecs w.secs) → IsEnding c q way walk
    → Admits rules (started rules walk (rules.arrive (c.arr + start_secs walk)))
end_admits rules laws c q way walk arrival by secs ends =
    start_admits rules laws walk (rules.arrive (c.arr + start_secs walk)) (end_secs c q way walk secs ends)
    (laws.arrive_admits (c.arr + start_secs walk) (end_time c q way walk arrival by ends))
