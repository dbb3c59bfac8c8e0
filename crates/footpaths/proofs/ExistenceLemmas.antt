-- Listed footpaths have a closure: the least times are found by letting in one listed footpath after the other; a least walk goes over it at most once.
use Rattle.std.proofs.Common.{◌≡◌, ◌≢◌, ℕ, zero, suc, ◌+◌, ◌<◌, ◌≤◌, ◌⊎◌, inl, inr, List, [], ◌∷◌, ◌++◌, Contains, refl, sym, ap, subst, ◌∙◌, arith}
use Rattle.std.proofs.lemmas.Bool.{cases_eq, cases_lt}
use Rattle.std.proofs.lemmas.List.Elements.{Contains-push_cases}
use Rattle.reasoning.proofs.ListLemmas.{contains_rest, contains_cases}
use Rattle.timetable.specs.declared.network.Footpath.{Footpath}
use Rattle.timetable.specs.Journeys.{IsWalk, walk_end, walk_secs}
use Rattle.timetable.specs.Legal.{HasFootpath, AreInOrder}
use Rattle.footpaths.specs.Walks.{on_foot, IsWalkBetween, AreJoined, IsLeastTime}
use Rattle.footpaths.specs.Closure.{IsClosure, AreInRange}
use Rattle.footpaths.proofs.OrderLemmas.{at_nothing}
use Rattle.footpaths.proofs.ClosureLemmas.{HasFootpath-append, HasFootpath-push, joined_in_range}
use Rattle.footpaths.proofs.LawLemmas.{joined_leads, joined_end, joined_secs, leaves_in_range}
use Rattle.timetable.proofs.LegalLemmas.{in_order_push}

walk_of_more : (f : Footpath) (fs walk : List Footpath) (a : ℕ) → IsWalk (on_foot fs) a walk → IsWalk (on_foot (f ∷ fs)) a walk
walk_of_more f fs [] a leads = tt
walk_of_more f fs (g ∷ rest) a (in_list, start, more) = (contains_rest g f fs in_list, start, walk_of_more f fs rest g.to more)

-- walks over the rest, each perhaps of no footpath: from a stop to where a footpath begins, and from where it ends to another stop
record IsWay (f : Footpath) (fs : List Footpath) (a b : ℕ) (front back : List Footpath) : Type 0 where
  pub leads : IsWalk (on_foot fs) a front
  pub arrives : walk_end a front ≡ f.from
  pub leaves : IsWalk (on_foot fs) f.to back
  pub ends : walk_end f.to back ≡ b

-- a way by the footpath that takes no longer than a walk
abbrev HasWay : Footpath → List Footpath → ℕ → ℕ → ℕ → Type 0
HasWay f fs a b secs = (front : List Footpath) × (back : List Footpath) × IsWay f fs a b front back × (walk_secs front + f.secs + walk_secs back ≤ secs)

-- a walk goes over the rest alone, or there is a way that goes over the footpath once
cut_walk : (f : Footpath) (fs walk : List Footpath) (a b : ℕ) → IsWalk (on_foot (f ∷ fs)) a walk → walk_end a walk ≡ b → IsWalk (on_foot fs) a walk
    ⊎ HasWay f fs a b (walk_secs walk)
cut_walk f fs [] a b leads ends = inl tt
cut_walk f fs (g ∷ rest) a b (in_list, start, more) ends = elim (contains_cases g f fs in_list) [
  | inl same ↦
      let begin : a ≡ f.from = sym start ∙ ap (λ (x : Footpath). x.from) (sym same) in
      let takes : f.secs ≡ g.secs = ap (λ (x : Footpath). x.secs) same in
      elim (cut_walk f fs rest g.to b more ends) [
        | inl over ↦
            let leaves : IsWalk (on_foot fs) f.to rest = subst (λ (x : Footpath). IsWalk (on_foot fs) x.to rest) (sym same) over in
            let there : walk_end f.to rest ≡ b = ap (λ (x : Footpath). walk_end x.to rest) same ∙ ends in
            inr ([], rest, record { leads = tt; arrives = begin; leaves = leaves; ends = there }, omega (arith, takes))
        | inr (front, back, way, short) ↦ inr ([], back, record { leads = tt; arrives = begin; leaves = way.leaves; ends = way.ends }, omega (arith, short))
      ]
  | inr old ↦ elim (cut_walk f fs rest g.to b more ends) [
    | inl over ↦ inl (old, start, over)
    | inr (front, back, way, short) ↦
        inr (g ∷ front, back, record { leads = (old, start, way.leads); arrives = way.arrives; leaves = way.leaves; ends = way.ends }, omega (arith, short))
  ]
]

-- no walk joins the stops, or one of the walks takes the least time
abbrev HasLeastWalk : List Footpath → ℕ → ℕ → Type 0
HasLeastWalk listed a b = (¬ AreJoined listed a b) ⊎ ((secs : ℕ) × IsLeastTime listed a b secs)

abbrev HaveLeastWalks : List Footpath → Type 0
HaveLeastWalks listed = (a b : ℕ) → HasLeastWalk listed a b

-- the least time where a walk may have no footpath
record IsLeastReach (fs : List Footpath) (a b secs : ℕ) : Type 0 where
  pub walked : (walk : List Footpath) × IsWalk (on_foot fs) a walk × (walk_end a walk ≡ b) × (walk_secs walk ≡ secs)
  pub least : (walk : List Footpath) → IsWalk (on_foot fs) a walk → walk_end a walk ≡ b → secs ≤ walk_secs walk

moves : (fs walk : List Footpath) (a b : ℕ) → a ≢ b → IsWalk (on_foot fs) a walk → walk_end a walk ≡ b → IsWalkBetween fs a b walk
moves fs walk a b differ leads ends = record { leads = leads; some = λ none. differ (subst (λ (w : List Footpath). walk_end a w ≡ b) none ends); ends = ends }

reach : (fs : List Footpath) → HaveLeastWalks fs → (a b : ℕ) → ((walk : List Footpath) → IsWalk (on_foot fs) a walk → walk_end a walk ≡ b → ⊥)
    ⊎ ((secs : ℕ) × IsLeastReach fs a b secs)
reach fs capped a b = elim (cases_eq a b) [
  | inl same ↦ inr (0, record { walked = ([], tt, same, refl); least = λ walk leads ends. omega arith })
  | inr differ ↦ elim (capped a b) [
    | inl never ↦ inl (λ walk leads ends. never (walk, moves fs walk a b differ leads ends))
    | inr (secs, is) ↦
        let (walk, walks, time) = is.walked in
        inr (secs, record { walked = (walk, walks.leads, walks.ends, time); least = λ other leads ends. is.least other (moves fs other a b differ leads ends) })
  ]
]

-- one footpath more is let in
module _ (f : Footpath) (fs : List Footpath) (capped : HaveLeastWalks fs) (a b : ℕ) where
  -- the least time of a way by it
  record IsLeastWay (secs : ℕ) : Type 0 where
    pub walked : (walk : List Footpath) × IsWalkBetween (f ∷ fs) a b walk × (walk_secs walk ≡ secs)
    pub least : (front back : List Footpath) → IsWay f fs a b front back → secs ≤ walk_secs front + f.secs + walk_secs back

  abbrev NoWay : Type 0
  NoWay = (front back : List Footpath) → IsWay f fs a b front back → ⊥

  way_walk : (front back : List Footpath) → IsWay f fs a b front back → IsWalkBetween (f ∷ fs) a b (front ++ f ∷ back)
  way_walk front back way = record {
    leads = joined_leads (f ∷ fs) front (f ∷ back) a (walk_of_more f fs front a way.leads)
        ((0, omega arith, refl), sym way.arrives, walk_of_more f fs back f.to way.leaves);
    some = some front;
    ends = joined_end front (f ∷ back) a ∙ way.ends;
  }
    where
      some : (xs : List Footpath) → xs ++ f ∷ back ≢ []
      some [] = λ e. cc
      some (x ∷ xs) = λ e. cc

  by_it : NoWay ⊎ ((secs : ℕ) × IsLeastWay secs)
  by_it = elim (reach fs capped a f.from) [
    | inl never ↦ inl (λ front back way. never front way.leads way.arrives)
    | inr (s, first) ↦ elim (reach fs capped f.to b) [
      | inl never ↦ inl (λ front back way. never back way.leaves way.ends)
      | inr (t, second) ↦
          let (front, leads, arrives, front_time) = first.walked in
          let (back, leaves, ends, back_time) = second.walked in
          let time = joined_secs front (f ∷ back) in
          inr (
            s + f.secs + t,
            record {
              walked = (
                front ++ f ∷ back,
                way_walk front back (record { leads = leads; arrives = arrives; leaves = leaves; ends = ends }),
                omega (arith, time, front_time, back_time),
              );
              least = λ xs ys way.
                  let first_least = first.least xs way.leads way.arrives in
                  let second_least = second.least ys way.leaves way.ends in
                  omega (arith, first_least, second_least);
            },
          )
    ]
  ]

  over : (walk : List Footpath) → IsWalkBetween (f ∷ fs) a b walk → IsWalk (on_foot fs) a walk → IsWalkBetween fs a b walk
  over walk is leads = record { leads = leads; some = is.some; ends = is.ends }

  -- what no walk over the rest and no way undercuts, no walk undercuts
  no_less : (secs : ℕ) → ((walk : List Footpath) → IsWalkBetween fs a b walk → secs ≤ walk_secs walk)
      → ((front back : List Footpath) → IsWay f fs a b front back → secs ≤ walk_secs front + f.secs + walk_secs back)
      → (walk : List Footpath) → IsWalkBetween (f ∷ fs) a b walk → secs ≤ walk_secs walk
  no_less secs below_rest below_ways walk is = elim (cut_walk f fs walk a b is.leads is.ends) [
    | inl leads ↦ below_rest walk (over walk is leads)
    | inr (front, back, way, short) ↦ let bound = below_ways front back way in omega (arith, bound, short)
  ]

  rest_is_least : (d : ℕ) → IsLeastTime fs a b d → ((front back : List Footpath) → IsWay f fs a b front back → d ≤ walk_secs front + f.secs + walk_secs back)
      → IsLeastTime (f ∷ fs) a b d
  rest_is_least d is ways =
      let (walk, walks, time) = is.walked in
      record {
        walked = (walk, record { leads = walk_of_more f fs walk a walks.leads; some = walks.some; ends = walks.ends }, time);
        least =
            no_less d is.least ways;
      }

  one_more : HasLeastWalk (f ∷ fs) a b
  one_more = elim (capped a b) [
    | inl apart ↦ elim by_it [
      | inl never ↦ inl (λ joined.
          let (walk, is) = joined in
          elim (cut_walk f fs walk a b is.leads is.ends) [
            | inl leads ↦ apart (walk, over walk is leads)
            | inr (front, back, way, short) ↦
                never front back way
          ])
      | inr (s, way) ↦ inr (s, record { walked = way.walked; least = no_less s (λ walk walks. absurd (apart (walk, walks))) way.least })
    ]
    | inr (d, is) ↦ elim by_it [
      | inl never ↦ inr (d, rest_is_least d is (λ front back way. absurd (never front back way)))
      | inr (s, way) ↦ elim (cases_lt d s) [
        | inl less ↦ inr (d, rest_is_least d is (λ front back w. let bound = way.least front back w in omega (arith, bound, less)))
        | inr more ↦ inr (
          s,
          record {
            walked = way.walked;
            least =
                no_less s (λ walk walks. let bound = is.least walk walks in omega (arith, bound, more)) way.least;
          },
        )
      ]
    ]
  ]

no_walk : (walk : List Footpath) (a b : ℕ) → IsWalkBetween [] a b walk → ⊥
no_walk [] a b is = is.some refl
no_walk (g ∷ rest) a b is = let (in_list, start, more) = is.leads in absurd (omega (arith, in_list.1))

all_least_walks : (listed : List Footpath) → HaveLeastWalks listed
all_least_walks [] a b = inl (λ joined. no_walk joined.0 a b joined.1)
all_least_walks (f ∷ fs) a b = one_more f fs (λ x y. all_least_walks fs x y) a b

-- a pair stands before an index: it leads into a stop below, or into the same from a stop below
abbrev IsBefore : ℕ → ℕ → ℕ → ℕ → Type 0
IsBefore to from a b = (b < to) ⊎ ((b ≡ to) × (a < from))

-- the closure as far as an index
record IsClosedUpTo (listed : List Footpath) (to from : ℕ) (closed : List Footpath) : Type 0 where
  pub in_order : AreInOrder closed
  pub below : (f : Footpath) → Contains closed f → IsBefore to from f.from f.to
  pub least : (f : Footpath) → Contains closed f → IsLeastTime listed f.from f.to f.secs
  pub whole : (a b : ℕ) → IsBefore to from a b → AreJoined listed a b → (secs : ℕ) × HasFootpath closed a b secs

later : (to from a b : ℕ) → IsBefore to from a b → IsBefore to (suc from) a b
later to from a b before = elim before [ inl lower ↦ inl lower | inr (same, less) ↦ inr (same, omega (arith, less)) ]

pair_or_before : (to from a b : ℕ) → IsBefore to (suc from) a b → IsBefore to from a b ⊎ ((a ≡ from) × (b ≡ to))
pair_or_before to from a b before = elim before [
  | inl lower ↦ inl (inl lower)
  | inr (same, less) ↦ elim (cases_eq a from) [ inl here ↦ inr (here, same) | inr differ ↦ inl (inr (same, omega (arith, less, differ))) ]
]

module _ (listed : List Footpath) (to from : ℕ) (closed : List Footpath) (old : IsClosedUpTo listed to from closed) where
  none_more : (¬ AreJoined listed from to) → IsClosedUpTo listed to (suc from) closed
  none_more apart = record {
    in_order = old.in_order;
    below = λ f in_it. later to from f.from f.to (old.below f in_it);
    least = old.least;
    whole = λ a b before joined. elim (pair_or_before to from a b before) [
      | inl there ↦ old.whole a b there joined
      | inr (here, same) ↦ absurd (apart (subst (λ (n : ℕ). AreJoined listed n to) here (subst (λ (n : ℕ). AreJoined listed a n) same joined)))
    ];
  }

  one_pair_more : (secs : ℕ) → IsLeastTime listed from to secs → IsClosedUpTo listed to (suc from) (closed ++ record { from = from; to = to; secs = secs } ∷ [])
  one_pair_more secs is = record {
    in_order = in_order_push closed (record { from = from; to = to; secs = secs }) old.in_order (λ e in_it. elim (old.below e in_it) [
      | inl lower ↦ (omega (arith, lower), λ same. absurd (omega (arith, lower, same)))
      | inr (same, less) ↦ (omega (arith, same), λ again. less)
    ]);
    below = λ f in_it. elim (Contains-push_cases closed (record { from = from; to = to; secs = secs }) f in_it) [
      | inl before ↦ later to from f.from f.to (old.below f before)
      | inr same ↦ inr (sym (ap (λ (g : Footpath). g.to) same), omega (arith, ap (λ (g : Footpath). g.from) same))
    ];
    least = λ f in_it. elim (Contains-push_cases closed (record { from = from; to = to; secs = secs }) f in_it) [
      | inl before ↦ old.least f before
      | inr same ↦ subst (λ (g : Footpath). IsLeastTime listed g.from g.to g.secs) same is
    ];
    whole = λ a b before joined. elim (pair_or_before to from a b before) [
      | inl there ↦ let (d, has) = old.whole a b there joined in (d, HasFootpath-append closed (record { from = from; to = to; secs = secs } ∷ []) a b d has)
      | inr (here, same) ↦ (
        secs,
        subst (λ (n : ℕ). HasFootpath (closed ++ record { from = from; to = to; secs = secs } ∷ []) n b secs) (sym here)
            (subst (λ (n : ℕ). HasFootpath (closed ++ record { from = from; to = to; secs = secs } ∷ []) from n secs) (sym same)
            (HasFootpath-push closed from to secs)),
      )
    ];
  }

  pair_more : (more : List Footpath) × IsClosedUpTo listed to (suc from) more
  pair_more = elim (all_least_walks listed from to) [
    | inl apart ↦ (closed, none_more apart)
    | inr (secs, is) ↦ (closed ++ record { from = from; to = to; secs = secs } ∷ [], one_pair_more secs is)
  ]

module _ (listed : List Footpath) (stops : ℕ) (in_range : AreInRange listed stops) where
  pairs_into : (to from : ℕ) (closed : List Footpath) → IsClosedUpTo listed to 0 closed → (more : List Footpath) × IsClosedUpTo listed to from more
  pairs_into to zero closed is = (closed, is)
  pairs_into to (suc from) closed is = let (rest, up) = pairs_into to from closed is in pair_more listed to from rest up

  next_stop : (to : ℕ) (closed : List Footpath) → IsClosedUpTo listed to stops closed → IsClosedUpTo listed (suc to) 0 closed
  next_stop to closed is = record {
    in_order = is.in_order;
    below = λ f in_it. elim (is.below f in_it) [ inl lower ↦ inl (omega (arith, lower)) | inr (same, less) ↦ inl (omega (arith, same)) ];
    least = is.least;
    whole = λ a b before joined. elim before [
      | inr (same, none) ↦ absurd (omega (arith, none))
      | inl lower ↦ elim (cases_eq b to) [
        | inl same ↦ is.whole a b (inr (same, leaves_in_range listed stops in_range joined.0 a joined.1.leads joined.1.some)) joined
        | inr differ ↦ is.whole a b (inl (omega (arith, lower, differ))) joined
      ]
    ];
  }

  all_pairs : (to : ℕ) → (closed : List Footpath) × IsClosedUpTo listed to 0 closed
  all_pairs zero = (
    [],
    record {
      in_order = λ i d e at next. absurd (at_nothing i d at);
      below = λ f in_it. absurd (omega (arith, in_it.1));
      least = λ f in_it. absurd (omega (arith, in_it.1));
      whole = λ a b before joined. elim before [ inl lower ↦ absurd (omega (arith, lower)) | inr (same, less) ↦ absurd (omega (arith, less)) ];
    },
  )
  all_pairs (suc to) =
      let (closed, is) = all_pairs to in
      let (more, up) = pairs_into to stops closed is in
      (more, next_stop to more up)

  pub has_closure : (closure : List Footpath) × IsClosure listed closure
  has_closure =
      let (closed, is) = all_pairs stops in (
        closed,
        record {
          in_order = is.in_order;
          least = is.least;
          whole = λ from to joined. is.whole from to (inl (joined_in_range listed stops from to in_range joined)) joined;
        },
      )
