-- How a search changes what is known of the walks into a stop.
use Rattle.std.proofs.Common.{◌≡◌, ◌≢◌, ℕ, ◌+◌, ◌<◌, ◌≤◌, inl, inr, false, List, [], ◌∷◌, ◌++◌, length, Option, Some, None, All, Contains, get_or, set}
use Rattle.std.proofs.Common.{sum_by, is_none, true≢false, refl, sym, subst, ◌∙◌, arith}
use Rattle.std.specs.BinaryHeap.{heap_items, heap_len}
use Rattle.std.specs.List.Sorted.{IsPermutation}
use Rattle.std.proofs.Math.ListN.{length-set}
use Rattle.std.proofs.lemmas.Bool.{cases_eq}
use Rattle.std.proofs.lemmas.Option.{same_Some, none-some}
use Rattle.std.proofs.lemmas.List.{get_or-set_same, get_or-set_other, get_or_default}
use Rattle.std.proofs.lemmas.List.Elements.{All-cons, All-nil, All-push, Contains-push, Contains-append_left}
use Rattle.std.proofs.lemmas.List.Sorted.{Contains-permutation, All-permutation}
use Rattle.std.proofs.lemmas.List.Sums.{sum_by-set}
use Rattle.reasoning.proofs.ListLemmas.{contains_first, contains_rest}
use Rattle.timetable.specs.declared.network.Footpath.{Footpath}
use Rattle.footpaths.specs.declared.search.HeapEntry.{HeapEntry}
use Rattle.footpaths.specs.declared.search.Search.{Search}
use Rattle.footpaths.specs.Search.{time_at, found_at, IsWithin, IsUndercut, IsCappedTime, AreWalked, AreReached, Grows, TakesTime, weight_of, weight}

pub Grows-trans : (a b c : List (Option ℕ)) (p q r : List HeapEntry) → Grows a p b q → Grows b q c r → Grows a p c r
Grows-trans a b c p q r first second = record {
  same_length = second.same_length ∙ first.same_length;
  inside = λ old. second.inside (first.inside old);
  lower = λ stop secs within. second.lower stop secs (first.lower stop secs within);
  kept = λ x in_it. second.kept x (first.kept x in_it);
  fresh = λ stop secs at. elim (second.fresh stop secs at) [
    | inl before ↦ elim (first.fresh stop secs before) [ inl start ↦ inl start | inr in_it ↦ inr (second.kept (found_at secs stop) in_it) ]
    | inr in_it ↦ inr in_it
  ];
}

-- what is pending, and one time more
abbrev pub IsJoinedBy : List HeapEntry → HeapEntry → List HeapEntry → Type 0
IsJoinedBy pending x pending' = IsPermutation (x ∷ pending) pending'

module _ (times : List (Option ℕ)) (pending pending' : List HeapEntry) (stop secs : ℕ) (inside : stop < length times)
    (joined : IsJoinedBy pending (found_at secs stop) pending') where
  time_now : time_at (set times stop (Some secs)) stop ≡ Some secs
  time_now = get_or-set_same times stop (Some secs) None inside

  time_other : (other : ℕ) → other ≢ stop → time_at (set times stop (Some secs)) other ≡ time_at times other
  time_other other differ = get_or-set_other times stop other (Some secs) None differ

  pub Grows-set : IsUndercut times stop secs → Grows times pending (set times stop (Some secs)) pending'
  Grows-set undercut = record {
    same_length = length-set times stop (Some secs);
    inside = λ old.
        let same : length (set times stop (Some secs)) ≡ length times = length-set times stop (Some secs) in
        let all : All (λ x. x.stop < length times) (found_at secs stop ∷ pending) =
        All-cons (λ x. x.stop < length times) (found_at secs stop) pending inside old in
        subst (λ (n : ℕ). All (λ x. x.stop < n) pending') (sym same)
        (All-permutation (λ x. x.stop < length times) (found_at secs stop ∷ pending) pending' joined all);
    lower = λ other d within. elim (cases_eq other stop) [
      | inl same ↦
          let less : secs < within.0 = undercut within.0 (subst (λ (s : ℕ). time_at times s ≡ Some within.0) same within.1) in
          (secs, subst (λ (s : ℕ). time_at (set times stop (Some secs)) s ≡ Some secs) (sym same) time_now, omega (arith, less, within.2))
      | inr differ ↦ (within.0, time_other other differ ∙ within.1, within.2)
    ];
    kept = λ x in_it. Contains-permutation (found_at secs stop ∷ pending) pending' x joined (contains_rest x (found_at secs stop) pending in_it);
    fresh = λ other d at. elim (cases_eq other stop) [
      | inl same ↦
          let now : Some secs ≡ Some d = sym time_now ∙ subst (λ (s : ℕ). time_at (set times stop (Some secs)) s ≡ Some d) same at in
          let equal : secs ≡ d = same_Some secs d now in
          let here : Contains pending' (found_at secs stop) =
          Contains-permutation (found_at secs stop ∷ pending) pending' (found_at secs stop) joined (contains_first (found_at secs stop) pending) in
          let moved : Contains pending' (found_at d stop) = subst (λ (s : ℕ). Contains pending' (found_at s stop)) equal here in
          inr (subst (λ (s : ℕ). Contains pending' (found_at d s)) (sym same) moved)
      | inr differ ↦ inl (sym (time_other other differ) ∙ at)
    ];
  }

  pub AreWalked-set : (listed : List Footpath) (cap target : ℕ) → IsCappedTime listed cap stop target secs → AreWalked listed cap target times
      → AreWalked listed cap target (set times stop (Some secs))
  AreWalked-set listed cap target capped walked = λ other d at. elim (cases_eq other stop) [
    | inl same ↦
        let equal : secs ≡ d = same_Some secs d (sym time_now ∙ subst (λ (s : ℕ). time_at (set times stop (Some secs)) s ≡ Some d) same at) in
        subst (λ (s : ℕ). IsCappedTime listed cap s target d) (sym same) (subst (λ (s : ℕ). IsCappedTime listed cap stop target s) equal capped)
    | inr differ ↦ walked other d (sym (time_other other differ) ∙ at)
  ]

  -- the stop is among those reached already
  pub AreReached-again : (reached : List ℕ) → Contains reached stop → AreReached times reached → AreReached (set times stop (Some secs)) reached
  AreReached-again reached here old = record {
    has = λ other d at. elim (cases_eq other stop) [
      | inl same ↦ subst (λ (s : ℕ). Contains reached s) (sym same) here
      | inr differ ↦ old.has other d (sym (time_other other differ) ∙ at)
    ];
    inside = subst (λ (n : ℕ). All (λ s. s < n) reached) (sym (length-set times stop (Some secs))) old.inside;
  }

  -- the stop is reached now
  pub AreReached-push : (reached : List ℕ) → AreReached times reached → AreReached (set times stop (Some secs)) (reached ++ stop ∷ [])
  AreReached-push reached old = record {
    has = λ other d at. elim (cases_eq other stop) [
      | inl same ↦ subst (λ (s : ℕ). Contains (reached ++ stop ∷ []) s) (sym same) (Contains-push reached stop)
      | inr differ ↦ Contains-append_left reached (stop ∷ []) other (old.has other d (sym (time_other other differ) ∙ at))
    ];
    inside = subst (λ (n : ℕ). All (λ s. s < n) (reached ++ stop ∷ [])) (sym (length-set times stop (Some secs)))
        (All-push (λ s. s < length times) reached stop old.inside inside);
  }

  pub weight-set : (cap : ℕ) → secs ≤ cap → IsUndercut times stop secs → weight cap (set times stop (Some secs)) + 1 ≤ weight cap times
  weight-set cap small undercut =
      let e : sum_by (weight_of cap) (set times stop (Some secs)) + weight_of cap (time_at times stop) ≡ sum_by (weight_of cap) times + secs =
      sum_by-set (weight_of cap) times stop (Some secs) None inside in
      lighter (time_at times stop) refl e
    where
      lighter : (o : Option ℕ) → time_at times stop ≡ o → sum_by (weight_of cap) (set times stop (Some secs)) + weight_of cap o ≡ sum_by (weight_of cap)
          times + secs → weight cap (set times stop (Some secs)) + 1 ≤ weight cap times
      lighter None is e = omega (arith, e, small)
      lighter (Some d) is e = let less : secs < d = undercut d is in omega (arith, e, less)

-- a time that is written down and pending is taken in
pub takes_time : (old new : Search) (stop secs : ℕ) → stop < length old.times.items
    → IsJoinedBy (heap_items old.pending) (found_at secs stop) (heap_items new.pending) → new.times.items ≡ set old.times.items stop (Some secs)
    → heap_len new.pending ≡ heap_len old.pending + 1 → IsUndercut old.times.items stop secs
    → (AreReached old.times.items old.reached.items → AreReached (set old.times.items stop (Some secs)) new.reached.items)
    → TakesTime old stop secs new
takes_time old new stop secs inside joined now longer lower reached = record {
  grows = rw now (Grows-set old.times.items (heap_items old.pending) (heap_items new.pending) stop secs inside joined lower);
  within = rw now (secs, time_now old.times.items (heap_items old.pending) (heap_items new.pending) stop secs inside joined, omega arith);
  walked = rw now (AreWalked-set old.times.items (heap_items old.pending) (heap_items new.pending) stop secs inside joined);
  reached = rw now reached;
  falls = λ cap small.
      let lighter = weight-set old.times.items (heap_items old.pending) (heap_items new.pending) stop secs inside joined cap small lower in
      rw now (omega (arith, lighter, longer));
}

-- a time that is there is known
pub known_time : (o : Option ℕ) → is_none o ≡ false → (d : ℕ) × (o ≡ Some d)
known_time None e = absurd (true≢false e)
known_time (Some d) e = (d, refl)

-- one footpath more is walked, and times only fall
pub all_within_more : (times times' : List (Option ℕ)) (paths : List Footpath) (secs i : ℕ) → i < length paths
    → ((stop d : ℕ) → IsWithin times stop d → IsWithin times' stop d)
    → ((k : ℕ) (d : Footpath) → k < i → IsWithin times (get_or paths k d).from ((get_or paths k d).secs + secs))
    → (e : Footpath) → IsWithin times' (get_or paths i e).from ((get_or paths i e).secs + secs)
    → (k : ℕ) (d : Footpath) → k < i + 1 → IsWithin times' (get_or paths k d).from ((get_or paths k d).secs + secs)
all_within_more times times' paths secs i inside lower before e here k d below = elim (cases_eq k i) [
  | inl same ↦ subst (λ (n : ℕ). IsWithin times' (get_or paths n d).from ((get_or paths n d).secs + secs)) (sym same)
      (subst (λ (f : Footpath). IsWithin times' f.from (f.secs + secs)) (get_or_default paths i e d inside) here)
  | inr differ ↦ lower (get_or paths k d).from ((get_or paths k d).secs + secs) (before k d (omega (arith, below, differ)))
]

-- those reached in another order
pub AreReached-sorted : (times : List (Option ℕ)) (reached reached' : List ℕ) → IsPermutation reached reached' → AreReached times reached
    → AreReached times reached'
AreReached-sorted times reached reached' moved old = record {
  has = λ stop secs at. Contains-permutation reached reached' stop moved (old.has stop secs at);
  inside = All-permutation (λ s. s < length times) reached reached' moved old.inside;
}

-- nothing is reached yet
pub AreReached-none : (times : List (Option ℕ)) (reached : List ℕ) → reached ≡ [] → ((stop : ℕ) → time_at times stop ≡ None) → AreReached times reached
AreReached-none times reached none empty = record {
  has = λ stop secs at. absurd (none-some secs (sym (empty stop) ∙ at));
  inside = subst (λ (xs : List ℕ). All (λ s. s < length times) xs) (sym none) (All-nil (λ s. s < length times));
}
