-- The shortest of the footpaths between several stops.
use Rattle.std.proofs.Common.{◌≡◌, ◌⊎◌, ℕ, ◌+◌, ◌<◌, ◌≤◌, Bool, Option, Some, None, Contains, slice_get, nat_lt, if◌then◌else◌}
use Rattle.std.proofs.Common.{length, refl, sym, ◌∙◌, ap, subst, inl, inr, arith}
use Rattle.std.proofs.lemmas.Bool.{cases_lt, cases_Bool}
use Rattle.std.proofs.lemmas.Option.{slice_get_within, same_Some}
use Rattle.timetable.specs.TimetableValue.{TimetableValue}
use Rattle.timetable.specs.Legal.{IsLegal}
use Rattle.timetable.specs.declared.network.Footpath.{Footpath}
use Rattle.timetable.proofs.LegalLemmas.{one_footpath}
use Rattle.scan_state.specs.SetQuery.{SetQueryValue, IsDirect, IsDirectWalk}
use Rattle.station_answers.specs.Walks.{InFront, IsFootpathBetween, IsLeastBefore, shorter_of}

-- one index further
front_cases : (i j n m : ℕ) → InFront i j n (m + 1) → InFront i j n m ⊎ ((i ≡ n) × (j ≡ m))
front_cases i j n m (inl before) = inl (inl before)
front_cases i j n m (inr (same, below)) = elim (cases_lt j m) [
  | inl low ↦ inl (inr (same, low))
  | inr high ↦ inr (same, omega arith)
]

front_more : (i j n m : ℕ) → InFront i j n m → InFront i j n (m + 1)
front_more i j n m (inl before) = inl before
front_more i j n m (inr (same, below)) = inr (same, omega arith)

front_no_later : (i j n m : ℕ) → InFront i j n m → (i < n) ⊎ ((i ≡ n) × (j ≤ m))
front_no_later i j n m (inl before) = inl before
front_no_later i j n m (inr (same, below)) = inr (same, omega arith)

module _ (t : TimetableValue) (legal : IsLegal t) (b : SetQueryValue) where
  pub none_before : IsLeastBefore t b 0 0 None
  none_before i j f (inl before) path = absurd (omega arith)
  none_before i j f (inr (same, below)) path = absurd (omega arith)

  -- the footpath at an index is the one between its stops
  is_it : (n m source target : ℕ) (f g : Footpath) → slice_get b.sources n ≡ Some source → slice_get b.targets m ≡ Some target
      → Contains t.footpaths g → g.from ≡ source → g.to ≡ target → IsDirect t b n m f → f ≡ g
  is_it n m source target f g at_n at_m is from to path =
      let leaves : f.from ≡ source = same_Some f.from source (sym path.leaves ∙ at_n) in
      let leads : f.to ≡ target = same_Some f.to target (sym path.leads ∙ at_m) in
      one_footpath t legal f g path.is_footpath is (leaves ∙ sym from) (leads ∙ sym to)

  there : (n m source target : ℕ) (g : Footpath) → slice_get b.sources n ≡ Some source → slice_get b.targets m ≡ Some target
      → Contains t.footpaths g → g.from ≡ source → g.to ≡ target → IsDirect t b n m g
  there n m source target g at_n at_m is from to = record {
    is_footpath = is;
    leaves = at_n ∙ ap Some (sym from);
    leads = at_m ∙ ap Some (sym to);
  }

  module _ (n m source target : ℕ) (at_n : slice_get b.sources n ≡ Some source) (at_m : slice_get b.targets m ≡ Some target) where
    further : (best : Option Footpath) → IsFootpathBetween t source target None → IsLeastBefore t b n m best
        → IsLeastBefore t b n (m + 1) best
    further None none before = λ i j f front path. elim (front_cases i j n m front) [
      | inl early ↦ before i j f early path
      | inr here ↦ absurd (no_path none i j f here path)
    ]
      where
        no_path : IsFootpathBetween t source target None → (i j : ℕ) (f : Footpath) → (i ≡ n) × (j ≡ m) → IsDirect t b i j f → ⊥
        no_path none i j f here path = none f path.is_footpath
            (same_Some f.from source (sym path.leaves ∙ (ap (slice_get b.sources) here.0 ∙ at_n)))
            (same_Some f.to target (sym path.leads ∙ (ap (slice_get b.targets) here.1 ∙ at_m)))
    further (Some walk) none before = record {
      source = before.source;
      target = before.target;
      in_front = front_more before.source before.target n m before.in_front;
      is_path = before.is_path;
      least = λ i j f front path. elim (front_cases i j n m front) [
        | inl early ↦ before.least i j f early path
        | inr here ↦ absurd (none f path.is_footpath
            (same_Some f.from source (sym path.leaves ∙ (ap (slice_get b.sources) here.0 ∙ at_n)))
            (same_Some f.to target (sym path.leads ∙ (ap (slice_get b.targets) here.1 ∙ at_m))))
      ];
    }

    -- the path at (n, m), wherever it is asked for
    at_here : (i j : ℕ) (f g : Footpath) → (i ≡ n) × (j ≡ m) → Contains t.footpaths g → g.from ≡ source → g.to ≡ target
        → IsDirect t b i j f → f ≡ g
    at_here i j f g here is from to path =
        is_it n m source target f g at_n at_m is from to
        (subst (λ (k : ℕ). IsDirect t b k m f) here.0
        (subst (λ (k : ℕ). IsDirect t b i k f) here.1 path))

    first_one : (g : Footpath) → IsFootpathBetween t source target (Some g) → IsLeastBefore t b n m None
        → IsLeastBefore t b n (m + 1) (Some g)
    first_one g is before = record {
      source = n;
      target = m;
      in_front = inr (refl, omega arith);
      is_path = there n m source target g at_n at_m is.0 is.1 is.2;
      least = λ i j f front path. elim (front_cases i j n m front) [
        | inl early ↦ absurd (before i j f early path)
        | inr here ↦ inr (ap (λ (x : Footpath). x.secs) (sym (at_here i j f g here is.0 is.1 is.2 path)), inr (sym here.0, omega (arith, here.1)))
      ];
    }

    shorter : (g walk : Footpath) → IsFootpathBetween t source target (Some g) → IsLeastBefore t b n m (Some walk)
        → g.secs < walk.secs → IsLeastBefore t b n (m + 1) (Some g)
    shorter g walk is before less = record {
      source = n;
      target = m;
      in_front = inr (refl, omega arith);
      is_path = there n m source target g at_n at_m is.0 is.1 is.2;
      least = λ i j f front path. elim (front_cases i j n m front) [
        | inl early ↦ elim (before.least i j f early path) [
          | inl longer ↦ inl (omega (arith, less, longer))
          | inr same ↦ inl (omega (arith, less, same.0))
        ]
        | inr here ↦ inr (ap (λ (x : Footpath). x.secs) (sym (at_here i j f g here is.0 is.1 is.2 path)), inr (sym here.0, omega (arith, here.1)))
      ];
    }

    no_shorter : (g walk : Footpath) → IsFootpathBetween t source target (Some g) → IsLeastBefore t b n m (Some walk)
        → walk.secs ≤ g.secs → IsLeastBefore t b n (m + 1) (Some walk)
    no_shorter g walk is before no_less = record {
      source = before.source;
      target = before.target;
      in_front = front_more before.source before.target n m before.in_front;
      is_path = before.is_path;
      least = λ i j f front path. elim (front_cases i j n m front) [
        | inl early ↦ before.least i j f early path
        | inr here ↦
            let secs : f.secs ≡ g.secs = ap (λ (x : Footpath). x.secs) (at_here i j f g here is.0 is.1 is.2 path) in
            elim (cases_lt walk.secs f.secs) [
              | inl longer ↦ inl longer
              | inr same ↦ inr (
                omega (arith, no_less, secs, same),
                subst (λ (k : ℕ). (before.source < k) ⊎ ((before.source ≡ k) × (before.target ≤ j))) (sym here.0)
                    (subst (λ (k : ℕ). (before.source < n) ⊎ ((before.source ≡ n) × (before.target ≤ k))) (sym here.1) (front_no_later before.source
                    before.target n m before.in_front)),
              )
            ]
      ];
    }

    pub one_further : (best path : Option Footpath) → IsFootpathBetween t source target path → IsLeastBefore t b n m best
        → IsLeastBefore t b n (m + 1) (shorter_of best path)
    one_further best None none before = further best none before
    one_further None (Some g) is before = first_one g is before
    one_further (Some walk) (Some g) is before = elim (cases_Bool (nat_lt g.secs walk.secs)) [
      | inl yes' ↦ subst (λ (c : Bool). IsLeastBefore t b n (m + 1) (if c then Some g else Some walk)) (sym yes')
          (shorter g walk is before (grind (arith, yes')))
      | inr no' ↦ subst (λ (c : Bool). IsLeastBefore t b n (m + 1) (if c then Some g else Some walk)) (sym no')
          (no_shorter g walk is before (grind (arith, no')))
    ]

  -- past the last target the next source follows
  front_back : (i j n : ℕ) (f : Footpath) → IsDirect t b i j f → InFront i j (n + 1) 0 → InFront i j n (length b.targets)
  front_back i j n f path (inr (same, below)) = absurd (omega arith)
  front_back i j n f path (inl before) = elim (cases_lt i n) [
    | inl low ↦ inl low
    | inr high ↦ inr (omega (arith, before, high), slice_get_within b.targets j f.to path.leads)
  ]

  front_on : (i j n m : ℕ) → InFront i j n m → InFront i j (n + 1) 0
  front_on i j n m (inl before) = inl (omega arith)
  front_on i j n m (inr (same, below)) = inl (omega arith)

  pub next_source : (n : ℕ) (best : Option Footpath) → IsLeastBefore t b n (length b.targets) best → IsLeastBefore t b (n + 1) 0 best
  next_source n None before = λ i j f front path. before i j f (front_back i j n f path front) path
  next_source n (Some walk) before = record {
    source = before.source;
    target = before.target;
    in_front = front_on before.source before.target n (length b.targets) before.in_front;
    is_path = before.is_path;
    least = λ i j f front path. before.least i j f (front_back i j n f path front) path;
  }

  front_all : (i j n : ℕ) (f : Footpath) → length b.sources ≤ n → IsDirect t b i j f → InFront i j n 0
  front_all i j n f long path = inl (let within = slice_get_within b.sources i f.from path.leaves in omega (arith, within, long))

  pub least_of_all : (n : ℕ) (best : Option Footpath) → length b.sources ≤ n → IsLeastBefore t b n 0 best → IsDirectWalk t b best
  least_of_all n None long before = λ i j f path. before i j f (front_all i j n f long path) path
  least_of_all n (Some walk) long before =
      (before.source, before.target, before.is_path, λ i j f path. before.least i j f (front_all i j n f long path) path)
