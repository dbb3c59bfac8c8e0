-- The closure while it is collected, and once it is complete.
use Rattle.std.proofs.Common.{◌≡◌, ◌≢◌, ℕ, ◌+◌, ◌<◌, ◌≤◌, ◌⊎◌, inl, inr, List, [], ◌∷◌, ◌++◌, length, Option, Some, None, All, Contains, get_or, set, take}
use Rattle.std.proofs.Common.{drop, refl, sym, ap, subst, ◌∙◌, arith, length-append}
use Rattle.std.specs.List.Sorted.{IsNonDecreasing}
use Rattle.std.proofs.Math.ListN.{length-set}
use Rattle.std.proofs.lemmas.Bool.{cases_eq}
use Rattle.std.proofs.lemmas.Option.{same_Some, none-some}
use Rattle.std.proofs.lemmas.List.{get_or-set_same, get_or-set_other, get_or_default, append-nil, take_all, drop_all}
use Rattle.std.proofs.lemmas.List.Elements.{All-contains, Contains-push_cases, Contains-append_left}
use Rattle.reasoning.proofs.ListLemmas.{contains_at, at_contains, slice_get-last}
use Rattle.reasoning.proofs.OptionLemmas.{option_cases}
use Rattle.timetable.specs.declared.network.Footpath.{Footpath}
use Rattle.timetable.specs.Journeys.{IsWalk, walk_end}
use Rattle.timetable.specs.Legal.{HasFootpath, IsOrderedBefore, AreInOrder}
use Rattle.footpaths.specs.declared.fault.FootFault.{FootFault}
use Rattle.footpaths.specs.declared.fault.FootFault.TheVariants.{WalkTooLong, TooManyFootpaths, OutOfMemory}
use Rattle.footpaths.specs.Walks.{on_foot, AreJoined}
use Rattle.footpaths.specs.Closure.{IsClosure, HasMorePairs, HasLongerWalk, AreInRange}
use Rattle.footpaths.specs.Search.{time_at, AreReached, IsCappedLeast, AreCappedLeast}
use Rattle.footpaths.specs.Collected.{IsClosedInto, taken, IsTakeFault, IsCountFault}
use Rattle.footpaths.proofs.OrderLemmas.{no_longer}
use Rattle.timetable.proofs.LegalLemmas.{in_order_push}

-- the times of the first stops reached were taken out of the table, and the others stay
pub record AreTaken (start : List (Option ℕ)) (reached : List ℕ) (i : ℕ) (times : List (Option ℕ)) : Type 0 where
  pub same_length : length times ≡ length start
  pub left : (s secs : ℕ) → time_at times s ≡ Some secs → time_at start s ≡ Some secs
  pub gone : (k : ℕ) → k < i → time_at times (get_or reached k 0) ≡ None

-- a stop is one of the first ones reached
abbrev pub IsAmongFirst : List ℕ → ℕ → ℕ → Type 0
IsAmongFirst reached i stop = (k : ℕ) × (k < i) × (get_or reached k 0 ≡ stop)

-- the footpaths of the closure into stops below the target, and those into the target from the first stops reached
pub record IsClosing (listed : List Footpath) (cap target : ℕ) (start : List (Option ℕ)) (reached : List ℕ) (i : ℕ) (times : List (Option ℕ))
    (closed : List Footpath) : Type 0 where
  pub in_order : AreInOrder closed
  pub below : (f : Footpath) → Contains closed f → (f.to < target) ⊎ ((f.to ≡ target) × IsAmongFirst reached i f.from)
  pub least : (f : Footpath) → Contains closed f → IsCappedLeast listed cap f.from f.to (Some f.secs)
  pub whole : (from to : ℕ) → to < target → AreJoined listed from to → (secs : ℕ) × HasFootpath closed from to secs
  pub moved : (s secs : ℕ) → time_at start s ≡ Some secs → (time_at times s ≡ Some secs) ⊎ HasFootpath closed s target secs

pub HasFootpath-append : (xs ys : List Footpath) (a b secs : ℕ) → HasFootpath xs a b secs → HasFootpath (xs ++ ys) a b secs
HasFootpath-append xs ys a b secs (i, at) =
    let has = contains_at {X = Footpath} xs i (record { from = a; to = b; secs = secs }) at in
    at_contains {X = Footpath} (xs ++ ys) (record { from = a; to = b; secs = secs }) (Contains-append_left xs ys (record { from = a; to = b; secs = secs }) has)

pub HasFootpath-push : (xs : List Footpath) (a b secs : ℕ) → HasFootpath (xs ++ record { from = a; to = b; secs = secs } ∷ []) a b secs
HasFootpath-push xs a b secs = (length xs, slice_get-last {X = Footpath} xs (record { from = a; to = b; secs = secs }))

-- a stop's time is taken out
module _ (times : List (Option ℕ)) (stop : ℕ) (inside : stop < length times) where
  time_gone : time_at (set times stop None) stop ≡ None
  time_gone = get_or-set_same times stop None None inside

  time_stays : (s : ℕ) → s ≢ stop → time_at (set times stop None) s ≡ time_at times s
  time_stays s differ = get_or-set_other times stop s None None differ

  time_was : (s secs : ℕ) → time_at (set times stop None) s ≡ Some secs → (s ≢ stop) × (time_at times s ≡ Some secs)
  time_was s secs at = elim (cases_eq s stop) [
    | inl same ↦ absurd (none-some secs (sym time_gone ∙ subst (λ (n : ℕ). time_at (set times stop None) n ≡ Some secs) same at))
    | inr differ ↦ (differ, sym (time_stays s differ) ∙ at)
  ]

  none_stays : (s : ℕ) → time_at times s ≡ None → time_at (set times stop None) s ≡ None
  none_stays s none = elim (cases_eq s stop) [
    | inl same ↦ subst (λ (n : ℕ). time_at (set times stop None) n ≡ None) (sym same) time_gone
    | inr differ ↦ time_stays s differ ∙ none
  ]

pub taken_more : (start : List (Option ℕ)) (reached : List ℕ) (i stop : ℕ) (times : List (Option ℕ)) → stop < length times → stop ≡ get_or reached i 0
    → AreTaken start reached i times → AreTaken start reached (i + 1) (set times stop None)
taken_more start reached i stop times inside is old = record {
  same_length = length-set times stop None ∙ old.same_length;
  left = λ s secs at. old.left s secs (time_was times stop inside s secs at).1;
  gone = λ k below. elim (cases_eq k i) [
    | inl same ↦
        let here : get_or reached k 0 ≡ stop = ap (λ (n : ℕ). get_or reached n 0) same ∙ sym is in
        subst (λ (n : ℕ). time_at (set times stop None) n ≡ None) (sym here) (time_gone times stop inside)
    | inr differ ↦ none_stays times stop inside (get_or reached k 0) (old.gone k (omega (arith, below, differ)))
  ];
}

module _ (listed : List Footpath) (cap target : ℕ) (start : List (Option ℕ)) (reached : List ℕ) (i stop : ℕ) (times : List (Option ℕ)) (closed : List Footpath)
    (inside : stop < length times) (is : stop ≡ get_or reached i 0) (in_reached : i < length reached) (sorted : IsNonDecreasing reached)
    (out : AreTaken start reached i times) (old : IsClosing listed cap target start reached i times closed) where
  one_more_first : (s : ℕ) → IsAmongFirst reached i s → IsAmongFirst reached (i + 1) s
  one_more_first s (k, below, at) = (k, omega (arith, below), at)

  below_more_first : (f : Footpath) → Contains closed f → (f.to < target) ⊎ ((f.to ≡ target) × IsAmongFirst reached (i + 1) f.from)
  below_more_first f in_it = elim (old.below f in_it) [ inl lower ↦ inl lower | inr (to, first) ↦ inr (to, one_more_first f.from first) ]

  -- the stop has no time
  closing_none : time_at times stop ≡ None → IsClosing listed cap target start reached (i + 1) (set times stop None) closed
  closing_none none = record {
    in_order = old.in_order;
    below = below_more_first;
    least = old.least;
    whole = old.whole;
    moved = λ s secs at. elim (old.moved s secs at) [
      | inr has ↦ inr has
      | inl there ↦ elim (cases_eq s stop) [
        | inl same ↦ absurd (none-some secs (sym none ∙ subst (λ (n : ℕ). time_at times n ≡ Some secs) same there))
        | inr differ ↦ inl (time_stays times stop inside s differ ∙ there)
      ]
    ];
  }

  -- the footpath of its time stands behind all that are collected
  behind : (secs : ℕ) → time_at times stop ≡ Some secs → (e : Footpath) → Contains closed e
      → IsOrderedBefore e (record { from = stop; to = target; secs = secs })
  behind secs at e in_it = elim (old.below e in_it) [
    | inl lower ↦ (omega (arith, lower), λ same. absurd (omega (arith, lower, same)))
    | inr (to, first) ↦ (omega (arith, to), λ same. earlier first)
  ]
    where
      earlier : IsAmongFirst reached i e.from → e.from < stop
      earlier (k, below, here) =
          let up : get_or reached k 0 ≤ get_or reached i 0 = sorted k i 0 (omega (arith, below)) in_reached in
          elim (cases_eq e.from stop) [
            | inl same ↦
                let none : time_at times stop ≡ None = subst (λ (n : ℕ). time_at times n ≡ None) (here ∙ same) (out.gone k below) in
                absurd (none-some secs (sym none ∙ at))
            | inr differ ↦ omega (arith, up, here, is, differ)
          ]

  -- the stop has a time
  closing_some : AreCappedLeast listed cap target start → (secs : ℕ) → time_at times stop ≡ Some secs
      → IsClosing listed cap target start reached (i + 1) (set times stop None) (closed ++ record { from = stop; to = target; secs = secs } ∷ [])
  closing_some least secs at = record {
    in_order = in_order_push closed (record { from = stop; to = target; secs = secs }) old.in_order (behind secs at);
    below = λ f in_it. elim (Contains-push_cases closed (record { from = stop; to = target; secs = secs }) f in_it) [
      | inl before ↦ below_more_first f before
      | inr same ↦ inr (sym (ap (λ (g : Footpath). g.to) same), (i, omega arith, sym is ∙ ap (λ (g : Footpath). g.from) same))
    ];
    least = λ f in_it. elim (Contains-push_cases closed (record { from = stop; to = target; secs = secs }) f in_it) [
      | inl before ↦ old.least f before
      | inr same ↦ subst (λ (g : Footpath). IsCappedLeast listed cap g.from g.to (Some g.secs)) same
          (subst (λ (o : Option ℕ). IsCappedLeast listed cap stop target o) (out.left stop secs at) (least stop))
    ];
    whole = λ from to below joined. let (d, has) = old.whole from to below joined in
        (d, HasFootpath-append closed (record { from = stop; to = target; secs = secs } ∷ []) from to d has);
    moved = λ s d known. elim (old.moved s d known) [
      | inr has ↦ inr (HasFootpath-append closed (record { from = stop; to = target; secs = secs } ∷ []) s target d has)
      | inl there ↦ elim (cases_eq s stop) [
        | inl same ↦
            let equal : secs ≡ d = same_Some secs d (sym at ∙ subst (λ (n : ℕ). time_at times n ≡ Some d) same there) in
            inr (subst (λ (n : ℕ). HasFootpath (closed ++ record { from = stop; to = target; secs = secs } ∷ []) n target d) (sym same)
            (subst (λ (n : ℕ). HasFootpath (closed ++ record { from = stop; to = target; secs = secs } ∷ []) stop target n) equal
            (HasFootpath-push closed stop target secs)))
        | inr differ ↦ inl (time_stays times stop inside s differ ∙ there)
      ]
    ];
  }

  pub closing_more : AreCappedLeast listed cap target start → IsClosing listed cap target start reached (i + 1) (set times stop None)
      (closed ++ taken (time_at times stop) stop target)
  closing_more least = elim (option_cases (time_at times stop)) [
    | inl none ↦
        subst (λ (o : Option ℕ). IsClosing listed cap target start reached (i + 1) (set times stop None) (closed ++ taken o stop target)) (sym none)
        (subst (λ (xs : List Footpath). IsClosing listed cap target start reached (i + 1) (set times stop None) xs) (sym (append-nil closed))
        (closing_none none))
    | inr (secs, at) ↦
        subst (λ (o : Option ℕ). IsClosing listed cap target start reached (i + 1) (set times stop None) (closed ++ taken o stop target)) (sym at)
        (closing_some least secs at)
  ]

  -- why it isn't taken
  pub take_fault : AreCappedLeast listed cap target start → (most : ℕ) (fault : FootFault) → IsTakeFault (time_at times stop) (length closed) most fault
      → IsCountFault listed most fault
  take_fault least most TooManyFootpaths (secs, at, full) =
      let more = closing_some least secs at in
      let longer : length (closed ++ record { from = stop; to = target; secs = secs } ∷ []) ≡ length closed + 1 =
      length-append closed (record { from = stop; to = target; secs = secs } ∷ []) in (
        closed ++ record { from = stop; to = target; secs = secs } ∷ [],
        record {
          in_order = more.in_order;
          joined = λ f in_it. let (walk, walks, time) = (more.least f in_it).0 in (walk, walks);
          more = omega (arith, longer, full);
        },
      )
  take_fault least most WalkTooLong impossible = impossible
  take_fault least most OutOfMemory there = tt

-- before any stop is taken
pub closing_start : (listed : List Footpath) (cap target : ℕ) (times : List (Option ℕ)) (reached : List ℕ) (closed : List Footpath)
    → IsClosedInto listed cap target closed → IsClosing listed cap target times reached 0 times closed
closing_start listed cap target times reached closed old = record {
  in_order = old.in_order;
  below = λ f in_it. inl (old.below f in_it);
  least = old.least;
  whole = old.whole;
  moved = λ s secs at. inl at;
}

pub taken_start : (times : List (Option ℕ)) (reached : List ℕ) → AreTaken times reached 0 times
taken_start times reached = record { same_length = refl; left = λ s secs at. at; gone = λ k below. absurd (omega (arith, below)) }

-- once all stops reached are taken, the table is empty
pub all_taken : (start : List (Option ℕ)) (reached : List ℕ) (i : ℕ) (times : List (Option ℕ)) → length reached ≤ i → AreReached start reached
    → AreTaken start reached i times → (stop : ℕ) → time_at times stop ≡ None
all_taken start reached i times all ones out stop = elim (option_cases (time_at times stop)) [
  | inl none ↦ none
  | inr (secs, at) ↦
      let (k, below, is) = ones.has stop secs (out.left stop secs at) in
      let here : get_or reached k 0 ≡ stop = get_or_default reached k 0 stop below ∙ is in
      let none : time_at times stop ≡ None = subst (λ (n : ℕ). time_at times n ≡ None) here (out.gone k (omega (arith, below, all))) in
      absurd (none-some secs (sym none ∙ at))
]

pub closed_more : (listed : List Footpath) (cap target : ℕ) (start : List (Option ℕ)) (reached : List ℕ) (i : ℕ) (times : List (Option ℕ))
    (closed : List Footpath)
    → ((stop : ℕ) → time_at times stop ≡ None) → AreCappedLeast listed cap target start → IsClosing listed cap target start reached i times closed
    → IsClosedInto listed cap (target + 1) closed
closed_more listed cap target start reached i times closed empty least closing = record {
  in_order = closing.in_order;
  below = λ f in_it. elim (closing.below f in_it) [ inl lower ↦ omega (arith, lower) | inr (to, first) ↦ omega (arith, to) ];
  least = closing.least;
  whole = λ from to below joined. elim (cases_eq to target) [
    | inr differ ↦ closing.whole from to (omega (arith, below, differ)) joined
    | inl same ↦ subst (λ (n : ℕ). (secs : ℕ) × HasFootpath closed from n secs) (sym same)
        (into_target from (subst (λ (n : ℕ). AreJoined listed from n) same joined))
  ];
}
  where
    into_target : (from : ℕ) → AreJoined listed from target → (secs : ℕ) × HasFootpath closed from target secs
    into_target from (walk, walks) = elim (option_cases (time_at start from)) [
      | inl none ↦
          let never : IsCappedLeast listed cap from target None = subst (λ (o : Option ℕ). IsCappedLeast listed cap from target o) none (least from) in
          absurd (never walk walks)
      | inr (secs, at) ↦ elim (closing.moved from secs at) [
        | inl there ↦ absurd (none-some secs (sym (empty from) ∙ there))
        | inr has ↦ (secs, has)
      ]
    ]

-- a walk ends at one of the stops
ends_in_range : (listed : List Footpath) (stops : ℕ) → AreInRange listed stops → (walk : List Footpath) (from : ℕ) → IsWalk (on_foot listed) from walk
    → walk ≢ [] → walk_end from walk < stops
ends_in_range listed stops in_range [] from leads some = absurd (some refl)
ends_in_range listed stops in_range (f ∷ []) from (in_list, start, more) some =
    (All-contains (λ (g : Footpath). (g.from < stops) × (g.to < stops)) listed f in_range in_list).1
ends_in_range listed stops in_range (f ∷ g ∷ rest) from (in_list, start, more) some = ends_in_range listed stops in_range (g ∷ rest) f.to more (λ e. cc)

pub joined_in_range : (listed : List Footpath) (stops from to : ℕ) → AreInRange listed stops → AreJoined listed from to → to < stops
joined_in_range listed stops from to in_range (walk, walks) =
    subst (λ (n : ℕ). n < stops) walks.ends (ends_in_range listed stops in_range walk from walks.leads walks.some)

module _ (listed closed : List Footpath) (stops longest : ℕ) (in_range : AreInRange listed stops) (all : IsClosedInto listed (longest + 1) stops closed) where
  -- where no time is the cap, the closure is there
  pub closure_of_capped : All (λ f. f.secs ≤ longest) closed → IsClosure listed closed
  closure_of_capped short = record {
    in_order = all.in_order;
    least = λ f in_it.
        let (capped, none_less) = all.least f in_it in
        let (walk, walks, time) = capped in
        let small : f.secs ≤ longest = All-contains (λ (g : Footpath). g.secs ≤ longest) closed f short in_it in
        record { walked = (walk, walks, omega (arith, time, small)); least = none_less };
    whole = λ from to joined. all.whole from to (joined_in_range listed stops from to in_range joined) joined;
  }

  -- there are no more pairs than footpaths collected
  pub few_pairs : (most : ℕ) → length closed ≤ most → HasMorePairs listed most → ⊥
  few_pairs most few (pairs, is) =
      let bound = no_longer pairs closed is.in_order all.in_order (λ j f at.
      let joined = is.joined f (contains_at pairs j f at) in
      all.whole f.from f.to (joined_in_range listed stops f.from f.to in_range joined) joined) in
      omega (arith, bound, few, is.more)

  -- a time that is the cap is of walks that take longer
  pub longer_walk : (f : Footpath) → Contains closed f → longest < f.secs → HasLongerWalk listed longest
  longer_walk f in_it long =
      let (capped, none_less) = all.least f in_it in
      let (walk, walks, time) = capped in
      (f.from, f.to, record { joined = (walk, walks); longer = λ other is. let least = none_less other is in omega (arith, least, long) })

-- what a slice of the whole table leaves in the vector is what the slice holds
pub written_back : (n : ℕ) (now table : List (Option ℕ)) → length now ≡ length table → n ≡ length table → take n (now ++ drop (length now) table) ≡ now
written_back n now table same count =
    let past : drop (length now) table ≡ [] = drop_all (length now) table (omega (arith, same)) in
    let short : length now ≤ n = omega (arith, same, count) in
    ap (λ (xs : List (Option ℕ)). take n (now ++ xs)) past ∙ ap (λ (xs : List (Option ℕ)). take n xs) (append-nil now) ∙ take_all n now short
