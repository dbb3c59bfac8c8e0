-- Mapped lists, and items as points.
use Rattle.std.proofs.Common.{◌≡◌, ℕ, ◌<◌, ◌≤◌, true, List, [], ◌∷◌, length, map, Contains, Result, Ok, Err, IfOk, inl, inr}
use Rattle.std.proofs.Common.{sym, subst}
use Rattle.reasoning.proofs.ListLemmas.{contains_cases, contains_first, contains_rest, not_in_nil}
use Rattle.criteria.specs.Laws.{Rules, Laws, Admits}
use Rattle.bags.specs.declared.point.Point.{Point}
use Rattle.bags.specs.Dominance.{IsCovered}
use Rattle.fronts.specs.declared.entry.Boarding.{Boarding}
use Rattle.fronts.specs.declared.entry.Item.{Item}
use Rattle.fronts.specs.declared.entry.FrontEntry.{FrontEntry}
use Rattle.fronts.specs.declared.entry.RiddenLabel.{RiddenLabel}
use Rattle.fronts.specs.declared.entry.Step.{Step}
use Rattle.fronts.specs.Front.{front, points_from, Covers}
use Rattle.fronts.specs.Entries.{AreEntries}
use Rattle.fronts.specs.Putting.{IsLate}
use Rattle.fronts.specs.Walking.{TakesBoardings}
use Rattle.fronts.specs.declared.front_lists.FrontLists.{FrontLists}
use Rattle.fronts.specs.Lists.{point_of, lists_criterion, entries_of, items_of, steps_of, IsBettered, TakesRidden, HasTaken}
use Rattle.fronts.proofs.Points.{front_from, points_admitted}

-- elements of a list that is mapped
pub from_map : {X Y : Type 0} (f : X → Y) (xs : List X) (y : Y) → Contains (map f xs) y → (x : X) × Contains xs x × (f x ≡ y)
from_map f [] y h = absurd (not_in_nil y h)
from_map f (x ∷ xs) y h = elim (contains_cases y (f x) (map f xs) h) [
  | inl e ↦ (x, contains_first x xs, e)
  | inr r ↦ let s = from_map f xs y r in (s.0, contains_rest s.0 x xs s.1, s.2)
]

pub into_map : {X Y : Type 0} (f : X → Y) (xs : List X) (x : X) → Contains xs x → Contains (map f xs) (f x)
into_map f [] x h = absurd (not_in_nil x h)
into_map f (y ∷ ys) x h = elim (contains_cases x y ys h) [
  | inl e ↦ subst (λ z. Contains (map f (y ∷ ys)) (f z)) e (contains_first (f y) (map f ys))
  | inr r ↦ contains_rest (f x) (f y) (map f ys) (into_map f ys x r)
]

module _ {V : Type 0} where
  covered_points : (rules : Rules V) (xs : List (Item V)) (d : ℕ) (v : V) → Covers rules xs d v → IsCovered rules (map point_of xs) d v
  covered_points rules xs d v (x, h, late, w) = (point_of x, into_map point_of xs x h, late, w)

  covered_items : (rules : Rules V) (xs : List (Item V)) (d : ℕ) (v : V) → IsCovered rules (map point_of xs) d v → Covers rules xs d v
  covered_items rules xs d v (p, h, late, w) =
      let x = from_map point_of xs p h in
      (x.0, x.1, subst (λ (z : Point V). d ≤ z.departure) (sym x.2) late, subst (λ (z : Point V). rules.no_worse z.value v ≡ true) (sym x.2) w)

  pub takes_points : (rules : Rules V) (steps : List Step) (boarding : Boarding) (ridden : List (RiddenLabel V))
      (old new : List (Item V)) → TakesBoardings rules steps boarding ridden old new
      → TakesRidden rules steps boarding ridden (map point_of old) (map point_of new)
  takes_points rules steps boarding ridden old new takes = record {
    only = λ p h.
        let x = from_map point_of new p h in
        elim (takes.only x.0 x.1) [
          | inl was ↦ inl (subst (Contains (map point_of old)) x.2 (into_map point_of old x.0 was))
          | inr b ↦ inr (x.0, x.2, b)
        ];
    kept = λ d v a c. covered_points rules new d v (takes.kept d v a (covered_items rules old d v c));
    covered = λ r h. covered_points rules new boarding.departure (rules.walk boarding.secs r.value) (takes.covered r h);
  }

  -- the same, of an insertion that may have run out of memory
  pub taken_if_ok : {K E : Type 0} (rules_of : K → Rules V) (boarding : Boarding) (ridden : List (RiddenLabel V))
      (old new : FrontLists K V) (head : ℕ) (result : Result ℕ E)
      → IfOk result (λ taken. (taken < length (entries_of new)) × TakesBoardings (rules_of (lists_criterion old)) (steps_of new) boarding ridden
      (points_from (entries_of old) (items_of old) head) (points_from (entries_of new) (items_of new) taken))
      → IfOk result (HasTaken rules_of boarding ridden old head new)
  taken_if_ok rules_of boarding ridden old new head (Err e) takes = tt
  taken_if_ok rules_of boarding ridden old new head (Ok taken) takes = record {
    within = takes.0;
    takes = takes_points (rules_of (lists_criterion old)) (steps_of new) boarding ridden
        (points_from (entries_of old) (items_of old) head) (points_from (entries_of new) (items_of new) taken) takes.1;
  }

  pub points_made_of : (rules : Rules V) (laws : Laws rules) (entries : List (FrontEntry V)) (items : List (Item V))
      → AreEntries rules entries items → (head time m : ℕ) → IsLate entries items head time m
      → (p : Point V) → Contains (map point_of (front entries items m)) p
      → Contains (map point_of (points_from entries items head)) p × (time ≤ p.departure) × Admits rules p.value
  points_made_of rules laws entries items are head time m late p h =
      let x = from_map point_of (front entries items m) p h in
      let made = (front_from rules entries items are laws head time m late).0 x.0 x.1 in (
        subst (Contains (map point_of (points_from entries items head))) x.2 (into_map point_of (points_from entries items head) x.0 made.0),
        subst (λ (z : Point V). time ≤ z.departure) x.2 made.1,
        subst (λ (z : Point V). Admits rules z.value) x.2 ((are.each m).admitted x.0 x.1),
      )

  pub points_bettered : (rules : Rules V) (laws : Laws rules) (entries : List (FrontEntry V)) (items : List (Item V))
      → AreEntries rules entries items → (head time m : ℕ) → IsLate entries items head time m
      → (p : Point V) → Contains (map point_of (points_from entries items head)) p → time ≤ p.departure
      → IsBettered rules (map point_of (front entries items m)) p.value
  points_bettered rules laws entries items are head time m late p h after =
      let x = from_map point_of (points_from entries items head) p h in
      let b = (front_from rules entries items are laws head time m late).1 x.0 x.1 (subst (λ (z : Point V). time ≤ z.departure) (sym x.2) after) in
      (point_of b.0, into_map point_of (front entries items m) b.0 b.1, subst (λ (z : Point V). rules.no_worse b.0.value z.value ≡ true) x.2 b.2)

  pub list_admitted : (rules : Rules V) (entries : List (FrontEntry V)) (items : List (Item V))
      → AreEntries rules entries items → (head : ℕ) (p : Point V)
      → Contains (map point_of (points_from entries items head)) p → Admits rules p.value
  list_admitted rules entries items are head p h =
      let x = from_map point_of (points_from entries items head) p h in
      subst (λ (z : Point V). Admits rules z.value) x.2 (points_admitted rules entries items are head x.0 x.1)
