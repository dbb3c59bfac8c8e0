-- Labels' values with the ride, and what boarding with them offers.
use Rattle.std.proofs.Common.{Bool, cond, get_or, map, not, refl, take}
use Rattle.std.proofs.Common.{◌≡◌, true, false, ℕ, ◌+◌, ◌-◌, ◌<◌, ◌≤◌, List, [], ◌∷◌, ◌++◌, length, set, Contains}
use Rattle.std.proofs.Common.{slice_get, slice_index, Some, get_or-set_same, get_or-set_other, sym, ◌∙◌, ap, subst, inl}
use Rattle.std.proofs.Common.{inr, arith}
use Rattle.std.proofs.lemmas.Bool.{cases_eq}
use Rattle.std.proofs.lemmas.List.{map-append, take_more}
use Rattle.std.proofs.lemmas.List.Elements.{filter-append}
use Rattle.std.proofs.lemmas.Option.{same_Some, slice_get-get_or, slice_get_within}
use Rattle.criteria.specs.Laws.{Rules, Laws, Admits}
use Rattle.bags.specs.declared.point.Point.{Point}
use Rattle.timetable.specs.declared.network.Footpath.{Footpath}
use Rattle.timetable.specs.Limits.{IsWithinLimits}
use Rattle.timetable.specs.TimetableValue.{TimetableValue}
use Rattle.timetable.proofs.LegalLemmas.{At-Contains}
use Rattle.fronts.specs.declared.entry.Boarding.{Boarding}
use Rattle.fronts.specs.declared.entry.Step.{Step}
use Rattle.fronts.specs.declared.entry.RiddenLabel.{RiddenLabel}
use Rattle.fronts.specs.Lists.{TakesRidden}
use Rattle.fronts.specs.Front.{Extends}
use Rattle.scan_state.specs.Matching.{from_to}
use Rattle.scan_state.specs.Steps.{TakesIn}
use Rattle.scan_state.specs.Points.{Covers}
use Rattle.scan_state.specs.ScanRecords.{ScanRecords, Grows, spelling_of}
use Rattle.scan_state.specs.Adding.{AreRidden, boardings_after, only_if}
use Rattle.scan_state.specs.Bound.{any_no_worse, carried_on, survivors}
use Rattle.scan_state.proofs.Admitted.{AreAdmitted}
use Rattle.scan_state.proofs.LabelLemmas.{from_map, into_map}
use Rattle.scan_state.proofs.Offers.{takes_if, takes_unless}
use Rattle.scan_state.proofs.ScanRecordLemmas.{stays, step_spelled}

module _ {V : Type 0} (rules : Rules V) (values : List V) where
  -- one label, unless one of the bound's values is no worse
  pub one_carried : (x : Point V) (excluded : Bool) → any_no_worse rules values (rules.ride x.value) ≡ excluded
      → carried_on rules values (x ∷ []) ≡ cond excluded [] (record { value = rules.ride x.value; label = x.tag } ∷ [])
  one_carried x true is = ap (λ b. map (λ (p : Point V). record { value = rules.ride p.value; label = p.tag }) (cond (not b) (x ∷ []) [])) is
  one_carried x false is = ap (λ b. map (λ (p : Point V). record { value = rules.ride p.value; label = p.tag }) (cond (not b) (x ∷ []) [])) is

  -- one label more
  pub carried_more : (labels : List (Point V)) (n : ℕ) (x : Point V) → slice_get labels n ≡ Some x
      → carried_on rules values (take (n + 1) labels) ≡ carried_on rules values (take n labels) ++ carried_on rules values (x ∷ [])
  carried_more labels n x at =
      let lt = slice_get_within labels n x at in
      let is : get_or labels n x ≡ x = same_Some (get_or labels n x) x (sym (slice_get-get_or labels n x lt) ∙ at) in
      ap (carried_on rules values) (take_more labels n x lt ∙ ap (λ y. take n labels ++ y ∷ []) is)
      ∙ ap (map _) (filter-append _ (take n labels) (x ∷ [])) ∙ map-append _ (survivors rules values (take n labels)) (survivors rules values (x ∷ []))

  pub are_ridden : (labels : List (Point V)) (ridden : List (RiddenLabel V)) → ridden ≡ carried_on rules values labels
      → AreRidden rules (survivors rules values labels) ridden
  are_ridden labels ridden e =
      let some = survivors rules values labels in
      let carried : Point V → RiddenLabel V = λ p. record { value = rules.ride p.value; label = p.tag } in
      record {
        of_label = λ r h.
            let l = from_map carried some r (subst (λ rs. Contains rs r) e h) in
            (l.0, l.1, ap (λ (x : RiddenLabel V). x.value) (sym l.2), ap (λ (x : RiddenLabel V). x.label) (sym l.2));
        each = λ l h. (carried l, subst (λ rs. Contains rs (carried l)) (sym e) (into_map carried some l h), refl);
      }

-- boarding connection `first` after the footpath at an index
abbrev pub by_walk : ℕ → ℕ → ℕ → Footpath → Boarding
by_walk departure first place walk = record { departure = departure; first = first; walk = place; secs = walk.secs }

module _ {V : Type 0} (rules : Rules V) (labels : List (Point V)) where
  -- each of them is admitted
  pub ridden_admitted : (laws : Laws rules) → AreAdmitted rules labels → (ridden : List (RiddenLabel V))
      → AreRidden rules labels ridden → (r : RiddenLabel V) → Contains ridden r → Admits rules r.value
  ridden_admitted laws admitted ridden are r h =
      let l = are.of_label r h in
      subst (Admits rules) (sym l.2) (laws.ride_admits l.0.value (admitted l.0 l.1))

  -- and so are their labels, after any footpath
  pub walks_admitted : (laws : Laws rules) (t : TimetableValue) → IsWithinLimits t → (ridden : List (RiddenLabel V)) → AreRidden rules labels ridden
      → ((r : RiddenLabel V) → Contains ridden r → Admits rules r.value)
      → (l : Point V) → Contains labels l → (f : Footpath) → Contains t.footpaths f → Admits rules (rules.walk f.secs (rules.ride l.value))
  walks_admitted laws t limits ridden are admitted l h f is =
      let r = are.each l h in
      let at = At-Contains t.footpaths f is in
      laws.walk_admits f.secs (rules.ride l.value) (limits.walks at.0 f at.1) (subst (Admits rules) r.2 (admitted r.0 r.1))

  -- where there are none, there are no labels
  pub no_ridden : (ridden : List (RiddenLabel V)) → AreRidden rules labels ridden → length ridden ≡ 0 → (l : Point V) → Contains labels l → ⊥
  no_ridden ridden are none l h = let r = are.each l h in omega (arith, r.1.1, none)

  -- a list that takes them in after a footpath takes the labels in
  pub boardings_of_ridden : (walks : List Footpath) (ridden : List (RiddenLabel V)) → AreRidden rules labels ridden
      → (steps : List Step) (departure first place : ℕ) (walk : Footpath) (old new : List (Point V))
      → slice_get walks place ≡ Some walk
      → TakesRidden rules steps (by_walk departure first place walk) ridden old new → (before all : ScanRecords) → Grows before all → Extends steps all.steps
      → TakesIn rules (boardings_after rules (from_to (spelling_of walks before) (spelling_of walks all)) first departure walk labels) old new
  boardings_of_ridden walks ridden are steps departure first place walk old new at takes before all ext more = record {
    only = λ p h. elim (takes.only p h) [
      | inl was ↦ inl was
      | inr (item, same, b) ↦ (
          let l = are.of_label b.by b.is_ridden in
          let here : slice_get all.steps p.tag ≡ Some (record { first = first; label = l.0.tag; walk = place }) =
          subst (λ (n : ℕ). slice_get all.steps n ≡ Some (record { first = first; label = l.0.tag; walk = place })) (ap (λ (z : Point V). z.tag) same)
          (stays steps all.steps more item.tag (step_by b.by.label) b.goes_on ∙ ap (λ (n : ℕ). Some (step_by n)) l.3) in
          inr (record {
            way = l.0;
            is_open = l.1;
            departs = sym (ap (λ (z : Point V). z.departure) same) ∙ b.departs;
            worth = sym (ap (λ (z : Point V). z.value) same) ∙ b.worth ∙ ap (rules.walk walk.secs) l.2;
            fits = λ x e. step_spelled walks before all p.tag first l.0.tag place walk ext here at x e;
          }))
    ];
    kept = takes.kept;
    covered = λ l h.
        let r = are.each l h in
        subst (λ (v : V). Covers rules new departure (rules.walk walk.secs v)) r.2 (takes.covered r.0 r.1);
  }
    where
      step_by : ℕ → Step
      step_by n = record { first = first; label = n; walk = place }

-- the lists of all stops, one of them having taken ridden values in
pub boarded_at : {K V : Type 0} (rules_of : K → Rules V) (a b : K) → a ≡ b
    → (labels : List (Point V)) (walks : List Footpath) (ridden : List (RiddenLabel V))
    → AreRidden (rules_of b) labels ridden
    → (old new : ℕ → List (Point V)) (heads : List ℕ) (bound : ℕ) → ((k : ℕ) → slice_index heads k < bound)
    → ((place : ℕ) → place < bound → new place ≡ old place)
    → (steps : List Step) (walk : Footpath) (place first dep head now : ℕ) → walk.from < length heads → walk.secs ≤ dep
    → slice_get walks place ≡ Some walk → head ≡ slice_index heads walk.from
    → TakesRidden (rules_of a) steps (by_walk (dep - walk.secs) first place walk) ridden (old head) (new now)
    → (stop : ℕ) (before all : ScanRecords) → Grows before all → Extends steps all.steps
    → TakesIn (rules_of b) (only_if ((walk.from ≡ stop)
    × (walk.secs ≤ dep)) (boardings_after (rules_of b) (from_to (spelling_of walks before) (spelling_of walks all)) first
    (dep - walk.secs) walk labels)) (old (slice_index heads stop))
    (new (slice_index (set heads walk.from now) stop))
boarded_at {K} {V} rules_of a b e labels walks ridden are old new heads bound within same steps walk place first dep
    head now inside fits at head_is takes stop before all ext more =
    let rules = rules_of b in
    let offer = boardings_after rules (from_to (spelling_of walks before) (spelling_of walks all)) first (dep - walk.secs) walk labels in
    elim (cases_eq walk.from stop) [
      | inl here ↦
          let taken = boardings_of_ridden rules labels walks ridden are steps (dep - walk.secs) first place walk
          (old head) (new now) at (subst (λ k.
          TakesRidden (rules_of k) steps (by_walk (dep - walk.secs) first place walk) ridden (old head) (new now)) e
          takes) before all ext more in
          let old_is : old head ≡ old (slice_index heads stop) = ap old (head_is ∙ ap (slice_index heads) here) in
          let new_is : new now ≡ new (slice_index (set heads walk.from now) stop) =
          ap new (sym (ap (slice_index (set heads walk.from now)) (sym here)
          ∙ get_or-set_same heads walk.from now 0 inside)) in
          subst (λ (xs : List (Point V)). TakesIn rules (only_if ((walk.from ≡ stop)
          × (walk.secs ≤ dep)) offer) xs (new (slice_index (set heads walk.from now) stop))) old_is
          (subst (λ (xs : List (Point V)). TakesIn rules (only_if ((walk.from ≡ stop) × (walk.secs ≤ dep)) offer) (old head) xs) new_is
          (takes_if rules ((walk.from ≡ stop) × (walk.secs ≤ dep)) offer (old head) (new now) (here, fits) taken))
      | inr other ↦
          let stays_is : old (slice_index heads stop) ≡ new (slice_index (set heads walk.from now) stop) =
          sym (ap new (get_or-set_other heads walk.from stop now 0 (λ f. other (sym f))) ∙ same (slice_index heads stop) (within stop)) in
          subst (λ (xs : List (Point V)). TakesIn rules (only_if ((walk.from ≡ stop) × (walk.secs ≤ dep)) offer) (old (slice_index heads stop)) xs) stays_is
          (takes_unless rules ((walk.from ≡ stop) × (walk.secs ≤ dep)) offer (old (slice_index heads stop)) (λ h. other h.0))
    ]
