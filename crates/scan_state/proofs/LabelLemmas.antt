-- The labels of a trip, and a value offered to them.
use Rattle.std.proofs.Common.{◌≡◌, ℕ, ◌≤◌, Bool, true, false, cond, not, List, [], ◌∷◌, ◌++◌, map, length, Contains, inl, inr, refl, sym, ◌∙◌, ap, subst, arith}
use Rattle.std.proofs.lemmas.Bool.{cases_Bool, true≢false}
use Rattle.std.proofs.lemmas.List.{nil_from_length}
use Rattle.std.proofs.lemmas.List.Elements.{Contains-append_left, Contains-push, Contains-push_cases}
use Rattle.reasoning.proofs.ListLemmas.{contains_cases, contains_first, contains_rest, not_in_nil, from_filter, into_filter, one_passes}
use Rattle.criteria.specs.Laws.{Rules, Laws, Admits}
use Rattle.bags.specs.declared.point.Point.{Point}
use Rattle.fronts.specs.declared.labels.Label.{Label}
use Rattle.fronts.specs.declared.labels.Labels.{Labels}
use Rattle.fronts.specs.Labels.{AreLabels, labels_at}
use Rattle.fronts.specs.Offered.{is_beaten, others}
use Rattle.fronts.proofs.Runs.{labels_admitted}
use Rattle.scan_state.specs.Steps.{TakesIn}
use Rattle.scan_state.specs.Points.{Covers}
use Rattle.scan_state.specs.Adding.{label_points, one_way, trip_points}

-- elements of a list that is mapped
pub into_map : {X Y : Type 0} (f : X → Y) (xs : List X) (x : X) → Contains xs x → Contains (map f xs) (f x)
into_map f [] x h = absurd (not_in_nil x h)
into_map f (y ∷ ys) x h = elim (contains_cases x y ys h) [
  | inl e ↦ subst (λ z. Contains (map f (y ∷ ys)) (f z)) e (contains_first (f y) (map f ys))
  | inr b ↦ contains_rest (f x) (f y) (map f ys) (into_map f ys x b)
]

pub from_map : {X Y : Type 0} (f : X → Y) (xs : List X) (y : Y) → Contains (map f xs) y → (x : X) × Contains xs x × (f x ≡ y)
from_map f [] y h = absurd (not_in_nil y h)
from_map f (x ∷ xs) y h = elim (contains_cases y (f x) (map f xs) h) [
  | inl e ↦ (x, contains_first x xs, e)
  | inr b ↦ let more = from_map f xs y b in (more.0, contains_rest more.0 x xs more.1, more.2)
]

abbrev pub as_point : {V : Type 0} → Label V → Point V
as_point label = record { departure = 0; value = label.value; tag = label.tag }

-- labels of a trip are of values that the laws speak of
pub trip_admitted : {V : Type 0} (rules : Rules V) (labels : Labels V) → AreLabels rules labels → (trip : ℕ) (p : Point V)
    → Contains (trip_points labels trip) p → Admits rules p.value
trip_admitted rules labels are trip p h =
    let l = from_map as_point (labels_at labels trip) p h in
    subst (λ (x : Point _). Admits rules x.value) l.2 (labels_admitted rules labels are trip l.0 l.1)

-- no labels, no points
pub no_trip_points : {V : Type 0} (labels : Labels V) (trip : ℕ) → length (labels_at labels trip) ≡ 0 → (p : Point V) → Contains (trip_points labels trip) p → ⊥
no_trip_points labels trip none p h =
    let l = from_map as_point (labels_at labels trip) p h in
    not_in_nil l.0 (subst (λ (xs : List (Label _)). Contains xs l.0) (nil_from_length (labels_at labels trip) none) l.1)

beaten : (b : Bool) → false ≡ not b → b ≡ true
beaten true e = refl
beaten false e = absurd (true≢false (sym e))

-- a label is no worse than a value
pub beaten_covers : {V : Type 0} (rules : Rules V) (labels : List (Label V)) (v : V) → is_beaten rules labels v ≡ true
    → Covers rules (label_points labels) 0 v
beaten_covers rules labels v above =
    let l = one_passes (λ x. rules.no_worse x.value v) labels above in
    (as_point l.0, into_map as_point labels l.0 l.1, omega arith, l.2)

-- a value offered is one way taken in
module _ {V : Type 0} (rules : Rules V) (laws : Laws rules) (old new : List (Label V)) (v : V) (tag : ℕ) (fits : ℕ → Type 0) where
  abbrev this : Label V
  this = record { value = v; tag = tag }

  stands_takes : ((p : Point V) → Contains (label_points old) p → Admits rules p.value) → Admits rules v → new ≡ others rules v old ++ this ∷ [] → fits tag
      → TakesIn rules (one_way 0 v fits) (label_points old) (label_points new)
  stands_takes admitted fit taken named =
      let into_new : (l : Label V) → Contains (others rules v old ++ this ∷ []) l
      → Contains (label_points new) (as_point l) =
      λ l h. into_map as_point new l (subst (λ (xs : List (Label V)). Contains xs l) (sym taken) h) in
      let here = into_new this (Contains-push (others rules v old) this) in
      record {
        only = λ q h.
            let l = from_map as_point new q h in
            elim (Contains-push_cases (others rules v old) this l.0 (subst (λ (xs : List (Label V)). Contains xs l.0) taken l.1)) [
              | inl stays ↦ inl (subst (Contains (label_points old)) l.2
                  (into_map as_point old l.0 (from_filter (λ x. not (rules.no_worse v x.value)) old l.0 stays).0))
              | inr e ↦
                  let is : as_point this ≡ q = ap as_point e ∙ l.2 in
                  inr (record {
                    way = tt;
                    is_open = tt;
                    departs = ap (λ (x : Point V). x.departure) (sym is);
                    worth = ap (λ (x : Point V). x.value) (sym is);
                    fits = subst (λ (x : Point V). fits x.tag) is named;
                  })
            ];
        kept = λ d w a c.
            let l = from_map as_point old c.0 c.1 in
            let late : d ≤ 0 = subst (λ (x : Point V). d ≤ x.departure) (sym l.2) c.2 in
            let worse = subst (λ (x : Point V). rules.no_worse x.value w ≡ true) (sym l.2) c.3 in
            elim (cases_Bool (rules.no_worse v l.0.value)) [
              | inl better ↦ (
                as_point this,
                here,
                late,
                laws.transitive v l.0.value w fit (admitted (as_point l.0) (into_map as_point old l.0 l.1)) a better
                    worse,
              )
              | inr free ↦ (
                as_point l.0,
                into_new l.0
                    (Contains-append_left (others rules v old) (this
                    ∷ []) l.0 (into_filter (λ x. not (rules.no_worse v x.value)) old l.0 l.1 (ap not free))),
                late,
                worse,
              )
            ];
        covered = λ way opened. (as_point this, here, omega arith, laws.reflexive v fit);
      }

  falls_takes : is_beaten rules old v ≡ true → new ≡ old → TakesIn rules (one_way 0 v fits) (label_points old) (label_points new)
  falls_takes above same = record {
    only = λ q h. inl (subst (λ (xs : List (Label V)). Contains (label_points xs) q) same h);
    kept = λ d w a c. (c.0, subst (λ (xs : List (Label V)). Contains (label_points xs) c.0) (sym same) c.1, c.2, c.3);
    covered = λ way opened. subst (λ (xs : List (Label V)). Covers rules (label_points xs) 0 v) (sym same) (beaten_covers rules old v above);
  }

  pub offered_takes : (stands : Bool) → ((p : Point V) → Contains (label_points old) p → Admits rules p.value) → Admits rules v
      → stands ≡ not (is_beaten rules old v) → new ≡ cond stands (others rules v old ++ this ∷ []) old → (stands ≡ true → fits tag)
      → TakesIn rules (one_way 0 v fits) (label_points old) (label_points new)
  offered_takes true admitted fit is taken named = stands_takes admitted fit taken (named refl)
  offered_takes false admitted fit is taken named = falls_takes (beaten (is_beaten rules old v) is) taken
