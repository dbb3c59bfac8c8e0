-- Leaving a trip: the ends and the changes that code takes in are those of the step.
use Rattle.std.proofs.Common.{◌≡◌, ◌⊎◌, ℕ, ◌+◌, ◌≤◌, true, List, Contains, Option, Some, None, IfSome, refl, sym, ap, subst, inl, inr, add-zero, arith}
use Rattle.reasoning.proofs.ListLemmas.{contains_at, at_contains}
use Rattle.criteria.specs.Laws.{Rules, Laws, Admits, IsSecs}
use Rattle.bags.specs.declared.point.Point.{Point}
use Rattle.timetable.specs.declared.network.Connection.{Connection}
use Rattle.timetable.specs.declared.network.Footpath.{Footpath}
use Rattle.timetable.specs.TimetableValue.{TimetableValue}
use Rattle.timetable.specs.Limits.{IsWithinLimits}
use Rattle.timetable.specs.Journeys.{connection_at}
use Rattle.timetable.proofs.LegalLemmas.{walk_limit}
use Rattle.scan_state.specs.SetQuery.{SetQueryValue}
use Rattle.scan_state.specs.Points.{Covers}
use Rattle.scan_state.specs.Matching.{Spellings}
use Rattle.scan_state.specs.Steps.{Offer, TakesInBut, Leaving, ends, ends_after, changes, MayLeave, MayNotChange, leaving_value, leavings}
use Rattle.scan_state.specs.SetQuery.{CanScan}
use Rattle.scan_state.specs.Adding.{NoChange, only_if, endings_and_changes, value_in, departure_in, endings, changes_from}
use Rattle.scan_state.specs.ScanState.{IsNearest, IsFinalWalk}
use Rattle.scan_state.specs.declared.final_walks.FinalWalk.{FinalWalk}
use Rattle.scan_state.proofs.Chains.{step_admits}
use Rattle.scan_state.proofs.Offers.{but_as, sure, IsPart}

-- the seconds of a way are those of a footpath
pub way_within : (t : TimetableValue) → IsWithinLimits t → (targets : List ℕ) (stop : ℕ) (way : Option FinalWalk) → IsFinalWalk t targets stop way
    → IfSome way (λ w. IsSecs w.secs)
way_within t limits targets stop None is = tt
way_within t limits targets stop (Some way) is = walk_limit t limits (record { from = stop; to = way.to; secs = way.secs }) is.is_footpath

module _ {V : Type 0} (rules : Rules V) (laws : Laws rules) (t : TimetableValue) (q : SetQueryValue) (can : CanScan t q) (tags : Spellings) (i : ℕ)
    (bag : List (Point V)) (Excused : V → Type 0) where
  -- the ends and changes that code takes in where a connection ends
  abbrev Taken : Option FinalWalk → Offer (Option Footpath ⊎ Point V) V
  Taken way = only_if ((connection_at t i).alight ≡ true) (endings_and_changes rules tags i (connection_at t i) q way bag)

  -- each is a way to leave
  part : (way : Option FinalWalk) → IsFinalWalk t q.targets (connection_at t i).to way → (w : Option Footpath ⊎ Point V)
      → (Taken way).is_open w → IsPart rules (Taken way) (leavings rules t q tags i bag) w
  part None is (inl walk) opened = absurd opened.1
  part (Some way) is (inl None) opened = record {
    there = ends;
    is_open = (
      opened.0,
      (subst (Contains q.targets) opened.1.0 (contains_at q.targets is.index way.to is.leads), opened.1.1),
    );
    departs = refl;
    worth = ap rules.arrive (add-zero (connection_at t i).arr);
    fits = λ tag h. h;
  }
  part (Some way) is (inl (Some f)) opened = record {
    there = ends_after f;
    is_open = (
      opened.0,
      (
        subst (Contains t.footpaths) (sym opened.1.1) is.is_footpath,
        ap (λ (x : Footpath). x.from) opened.1.1,
        subst (λ (x : Footpath). Contains q.targets x.to) (sym opened.1.1) (contains_at q.targets is.index way.to is.leads),
        (λ here. opened.1.0 (is.own here)),
        opened.1.2,
      ),
    );
    departs = refl;
    worth = refl;
    fits = λ tag h. h;
  }
  part way is (inr p) opened = record {
    there = changes p;
    is_open = (opened.0, (opened.1.0, opened.1.1));
    departs = refl;
    worth = refl;
    fits = λ tag h. h;
  }

  -- ending by the way covers ending by any footpath to a target
  way_covers : (way : FinalWalk) → IsNearest t q.targets (connection_at t i).to way → (new : List (Point V))
      → ((p : Point V) → Contains new p → Admits rules p.value)
      → ((w : Option Footpath ⊎ Point V) → (Taken (Some way)).is_open w
      → Covers rules new 0 (value_in (endings rules tags i (connection_at t i) q (Some way)) (changes_from tags i (connection_at t i).arr bag) w)
      ⊎ NoChange Excused w)
      → (connection_at t i).alight ≡ true → (f : Footpath) → MayLeave t q i bag (ends_after f)
      → Covers rules new 0 (leaving_value rules t i (ends_after f))
  way_covers way is new admitted takes alights f may =
      let arr = (connection_at t i).arr in
      let small = can.in_time in
      let by = may.4 in
      let at = at_contains q.targets f.to may.2 in
      let no_longer : way.secs ≤ f.secs = elim (is.least may.3 at.0 f at.1 may.0 may.1) [
        | inl shorter ↦ omega (arith, shorter)
        | inr same ↦ (let e = same.0 in omega (arith, e))
      ] in
      let near : Footpath = record { from = (connection_at t i).to; to = way.to; secs = way.secs } in
      let is_target : Contains q.targets way.to = contains_at q.targets is.index way.to is.leads in
      let other : way.to ≡ (connection_at t i).to → ⊥ = λ e. may.3 (subst (Contains q.targets) e is_target) in
      let c = sure (takes (inl (Some near)) (alights, (other, refl, omega (arith, no_longer, by)))) in
      let soon = laws.arrive_admits (arr + way.secs) (omega (arith, no_longer, by, small)) in
      let late = laws.arrive_admits (arr + f.secs) (omega (arith, by, small)) in
      let near_admits = step_admits rules laws t can.limits near (rules.arrive (arr + way.secs)) is.is_footpath soon in
      let far_admits = step_admits rules laws t can.limits f (rules.arrive (arr + f.secs)) may.0 late in (
        c.0,
        c.1,
        c.2,
        laws.transitive c.0.value (rules.walk way.secs (rules.arrive (arr + way.secs))) (rules.walk f.secs (rules.arrive (arr + f.secs)))
            (admitted c.0 c.1) near_admits far_admits c.3
            (laws.walk_monotone way.secs f.secs (rules.arrive (arr + way.secs)) (rules.arrive (arr + f.secs))
            (walk_limit t can.limits near is.is_footpath) (walk_limit t can.limits f may.0) soon late no_longer
            (laws.arrive_monotone (arr + way.secs) (arr + f.secs) (omega (arith, no_longer, by, small)) (omega (arith, by, small))
            (omega (arith, no_longer)))),
      )

  covered : (way : Option FinalWalk) → IsFinalWalk t q.targets (connection_at t i).to way → (new : List (Point V))
      → ((p : Point V) → Contains new p → Admits rules p.value)
      → ((w : Option Footpath ⊎ Point V) → (Taken way).is_open w
      → Covers rules new (departure_in (endings rules tags i (connection_at t i) q way) (changes_from tags i (connection_at t i).arr bag) w)
      (value_in (endings rules tags i (connection_at t i) q way) (changes_from tags i (connection_at t i).arr bag) w) ⊎ NoChange Excused w)
      → (l : Leaving V) → (leavings rules t q tags i bag).is_open l → Covers rules new 0 (leaving_value rules t i l) ⊎ MayNotChange Excused l
  covered None is new admitted takes ends opened = absurd (is.0 opened.1.0)
  covered (Some way) is new admitted takes ends opened =
      inl (subst (Covers rules new 0) (ap rules.arrive (add-zero (connection_at t i).arr))
      (sure (takes (inl None) (opened.0, (is.own opened.1.0, opened.1.1)))))
  covered None is new admitted takes (ends_after f) opened = absurd (is.1 f opened.1.0 opened.1.1 opened.1.2)
  covered (Some way) is new admitted takes (ends_after f) opened = inl (way_covers way is new admitted ends_by opened.0 f opened.1)
    where
      ends_by : (w : Option Footpath ⊎ Point V) → (Taken (Some way)).is_open w
          → Covers rules new 0 (value_in (endings rules tags i (connection_at t i) q (Some way)) (changes_from tags i (connection_at t i).arr bag) w)
          ⊎ NoChange Excused w
      ends_by (inl w) o = takes (inl w) o
      ends_by (inr p) o = takes (inr p) o
  covered way is new admitted takes (changes p) opened = takes (inr p) (opened.0, (opened.1.0, opened.1.1))

-- the nearest target is enough: labels that take in these have taken in every way to leave, to any target
pub leavings_taken : {V : Type 0} (rules : Rules V) → Laws rules → (t : TimetableValue) (q : SetQueryValue) → CanScan t q
    → (tags : Spellings) (i : ℕ) (c : Connection) → c ≡ connection_at t i → (way : Option FinalWalk) → IsFinalWalk t q.targets c.to way
    → (bag : List (Point V)) (Excused : V → Type 0) (old new : List (Point V)) → ((p : Point V) → Contains new p → Admits rules p.value)
    → TakesInBut rules (NoChange Excused) (only_if (c.alight ≡ true) (endings_and_changes rules tags i c q way bag)) old new
    → TakesInBut rules (MayNotChange Excused) (leavings rules t q tags i bag) old new
leavings_taken {V} rules laws t q can tags i c is way is_way bag Excused old new admitted takes =
    let way_there : IsFinalWalk t q.targets (connection_at t i).to way = subst (λ (x : Connection). IsFinalWalk t q.targets x.to way) is is_way in
    let here : TakesInBut rules (NoChange Excused) (Taken rules laws t q can tags i bag Excused way) old new =
    subst (λ (x : Connection). TakesInBut rules (NoChange Excused) (only_if (x.alight ≡ true) (endings_and_changes rules tags i x q way bag)) old new)
    is takes in
    but_as rules (NoChange Excused) (MayNotChange Excused) (Taken rules laws t q can tags i bag Excused way) (leavings rules t q tags i bag) old new
    (part rules laws t q can tags i bag Excused way way_there)
    (covered rules laws t q can tags i bag Excused way way_there new admitted here.covered) here
