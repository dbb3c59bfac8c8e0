-- The footpaths into the targets, as they are found.
use Rattle.std.proofs.Common.{◌≡◌, ◌≢◌, ◌⊎◌, ℕ, zero, suc, ◌+◌, ◌<◌, ◌≤◌, List, [], ◌∷◌, Contains, length, Option, Some, None, slice_get}
use Rattle.std.proofs.Common.{get_or, set, replicate, get_or-set_same, get_or-set_other, length-set, inl, inr, map}
use Rattle.std.proofs.Common.{refl, sym, ◌∙◌, ap, subst, arith}
use Rattle.std.proofs.lemmas.Bool.{cases_eq, cases_lt, le-leb, ltb-false, ltb-true}
use Rattle.std.proofs.lemmas.List.{length-map, length-replicate, map-set}
use Rattle.std.proofs.lemmas.Option.{none-some, same_Some, slice_get-get_or, slice_get-map, slice_get_read, slice_get_within}
use Rattle.std.specs.Prelude.{option_map, nat_lt, Bool, true, false}
use Rattle.reasoning.proofs.OptionLemmas.{some-none}
use Rattle.reasoning.proofs.ListLemmas.{at_contains, contains_at, contains_only}
use Rattle.timetable.specs.declared.network.Footpath.{Footpath}
use Rattle.timetable.specs.TimetableValue.{TimetableValue}
use Rattle.timetable.specs.declared.limits.TheConstants.{MAX_WALK_SECS}
use Rattle.timetable.specs.Legal.{At, IsLegal}
use Rattle.timetable.proofs.LegalLemmas.{Contains-At, At-Contains}
use Rattle.scan_state.specs.Adding.{StandsBetween}
use Rattle.scan_state.specs.SetQuery.{SetQueryValue, IsDirect, IsDirectWalk, IsTakenBefore, secs_of}
use Rattle.scan_state.specs.FinalWalkEntries.{is_walk}
use Rattle.scan_state.specs.ScanState.{IsNearest, IsDirectSecs, IsFinalWalk, AreFinalWalks, walk_by, final_walk_if, final_walk_in}
use Rattle.scan_state.specs.Nearest.{AreNearest, IsDoneTo, IsDoneWalk, IsInto, IsNearestDone, IsShortestWalk, Replaces, TakesWalk, if_shorter}
use Rattle.scan_state.specs.Nearest.{no_entry, shorter_of, way_by}
use Rattle.scan_state.specs.Origins.{from_stop}
use Rattle.scan_state.specs.declared.final_walks.FinalWalk.{FinalWalk}
use Rattle.scan_state.proofs.BoardLemmas.{between_split}

no_way : (n stop : ℕ) → get_or (replicate {A = Option FinalWalk} n None) stop None ≡ None
no_way zero stop = refl
no_way (suc n) zero = refl
no_way (suc n) (suc stop) = no_way n stop

-- words that say so
no_words : (n : ℕ) → map final_walk_in (replicate n no_entry) ≡ replicate n None
no_words zero = refl
no_words (suc n) = ap (λ (final_walks : List (Option FinalWalk)). None ∷ final_walks) (no_words n)

pub none_in_words : (n : ℕ) (words : List FinalWalk) → words ≡ replicate n no_entry → map final_walk_in words ≡ replicate n None
none_in_words n words e = ap (map final_walk_in) e ∙ no_words n

-- at first there are none
pub none_found : (t : TimetableValue) (targets : List ℕ) (n : ℕ) (final_walks : List (Option FinalWalk)) → n ≡ t.stops → final_walks ≡ replicate n None
    → AreNearest t (IsDoneTo t targets 0) final_walks
none_found t targets n final_walks long e = subst (AreNearest t (IsDoneTo t targets 0)) (sym e) (record {
  long = length-replicate n None ∙ long;
  each = λ stop. subst (IsDoneWalk (IsDoneTo t targets 0) stop) (sym (no_way n stop)) (λ k f done from. omega (arith, done.1));
})

-- one footpath more, to the target at index k; all before it lead to that target or to one named before
module _ (t : TimetableValue) (Was Is : ℕ → Footpath → Type 0) (k : ℕ) (f : Footpath) (here : Is k f)
    (more : (j : ℕ) (g : Footpath) → Was j g → Is j g) (split : (j : ℕ) (g : Footpath) → Is j g → Was j g ⊎ ((j ≡ k) × (g ≡ f)))
    (low : (j : ℕ) (g : Footpath) → Was j g → j ≤ k) where
  -- where another stop's way stays
  other_way : (stop : ℕ) → stop ≢ f.from → (way : Option FinalWalk) → IsDoneWalk Was stop way → IsDoneWalk Is stop way
  other_way stop other None none = λ j g done from. elim (split j g done) [
    | inl was ↦ none j g was from
    | inr same ↦ other (sym from ∙ ap (λ (x : Footpath). x.from) same.1)
  ]
  other_way stop other (Some way) is = record {
    index = is.index;
    done = more is.index (record { from = stop; to = way.to; secs = way.secs }) is.done;
    best = elim is.best [
      | inl loop ↦ inl loop
      | inr least ↦ inr (λ j g done from. elim (split j g done) [
        | inl was ↦ least j g was from
        | inr same ↦ absurd (other (sym from ∙ ap (λ (x : Footpath). x.from) same.1))
      ])
    ];
  }

  -- where the footpath takes the place of a way
  here_first : f.to ≢ f.from → (way : Option FinalWalk) → IsDoneWalk Was f.from way → Replaces way f → (j : ℕ) (g : Footpath) → Was j g → g.from ≡ f.from
      → (g.to ≢ f.from) × (f.secs < g.secs)
  here_first not_loop None none replaces j g was from = absurd (none j g was from)
  here_first not_loop (Some way) is (inl loop) j g was from = absurd (not_loop loop)
  here_first not_loop (Some way) is (inr shorter) j g was from = elim is.best [
    | inl loop ↦ absurd (shorter.0 loop)
    | inr least ↦
        let l = least j g was from in
        (l.0, elim l.1 [ inl lt ↦ omega (arith, lt, shorter.1) | inr same ↦ (let e = same.0 in omega (arith, e, shorter.1)) ])
  ]

  replaced : (way : Option FinalWalk) → IsDoneWalk Was f.from way → Replaces way f → IsNearestDone Is f.from (way_by f)
  replaced way is replaces = record {
    index = k;
    done = here;
    best = elim (cases_eq f.to f.from) [
      | inl loop ↦ inl loop
      | inr not_loop ↦ inr (λ j g done from. elim (split j g done) [
        | inl was ↦ (let l = here_first not_loop way is replaces j g was from in (l.0, inl l.1))
        | inr same ↦
            let to_is : g.to ≡ f.to = ap (λ (x : Footpath). x.to) same.1 in
            let secs_is : g.secs ≡ f.secs = ap (λ (x : Footpath). x.secs) same.1 in
            let place_is : j ≡ k = same.0 in
            ((λ e. not_loop (sym to_is ∙ e)), inr (sym secs_is, omega (arith, place_is)))
      ])
    ];
  }

  -- where it doesn't
  stayed : (way : FinalWalk) → IsNearestDone Was f.from way → (Replaces (Some way) f → ⊥) → IsNearestDone Is f.from way
  stayed way is stays = record {
    index = is.index;
    done = more is.index (record { from = f.from; to = way.to; secs = way.secs }) is.done;
    best = elim is.best [
      | inl loop ↦ inl loop
      | inr least ↦ elim (cases_eq way.to f.from) [
        | inl loop ↦ inl loop
        | inr own ↦ inr (λ j g done from. elim (split j g done) [
          | inl was ↦ least j g was from
          | inr same ↦
              let to_is : g.to ≡ f.to = ap (λ (x : Footpath). x.to) same.1 in
              let secs_is : g.secs ≡ f.secs = ap (λ (x : Footpath). x.secs) same.1 in
              let place_is : j ≡ k = same.0 in
              let before = low is.index (record { from = f.from; to = way.to; secs = way.secs }) is.done in (
                (λ e. stays (inl (sym to_is ∙ e))),
                elim (cases_lt f.secs way.secs) [
                  | inl lt ↦ absurd (stays (inr (own, lt)))
                  | inr ge ↦ elim (cases_eq way.secs f.secs) [
                    | inl e ↦ inr (e ∙ sym secs_is, omega (arith, before, place_is))
                    | inr ne ↦ inl (omega (arith, ge, ne, secs_is))
                  ]
                ],
              )
        ])
      ]
    ];
  }

  -- whether it does
  replaces_or : (way : Option FinalWalk) → Replaces way f ⊎ (Replaces way f → ⊥)
  replaces_or None = inl tt
  replaces_or (Some way) = elim (cases_eq f.to f.from) [
    | inl loop ↦ inl (inl loop)
    | inr not_loop ↦ elim (cases_eq way.to f.from) [
      | inl own ↦ inr (λ r. elim r [ inl loop ↦ not_loop loop | inr shorter ↦ shorter.0 own ])
      | inr other ↦ elim (cases_lt f.secs way.secs) [
        | inl lt ↦ inl (inr (other, lt))
        | inr ge ↦ inr (λ r. elim r [ inl loop ↦ not_loop loop | inr shorter ↦ omega (arith, ge, shorter.1) ])
      ]
    ]
  ]

  stayed_way : (way : Option FinalWalk) → IsDoneWalk Was f.from way → (Replaces way f → ⊥) → IsDoneWalk Is f.from way
  stayed_way None none stays = absurd (stays tt)
  stayed_way (Some way) is stays = stayed way is stays

  pub one_found : (old new : List (Option FinalWalk)) → AreNearest t Was old → TakesWalk f old new → AreNearest t Is new
  one_found old new are takes = record {
    long = takes.long ∙ are.long;
    each = λ stop. elim (cases_eq stop f.from) [
      | inl same ↦ subst (λ (s : ℕ). IsDoneWalk Is s (get_or new s None)) (sym same) (elim (replaces_or (get_or old f.from None)) [
        | inl replaces ↦ subst (IsDoneWalk Is f.from) (sym (takes.taken replaces)) (replaced (get_or old f.from None) (are.each f.from) replaces)
        | inr stays ↦ subst (IsDoneWalk Is f.from) (sym (takes.stays stays)) (stayed_way (get_or old f.from None) (are.each f.from) stays)
      ])
      | inr other ↦ subst (IsDoneWalk Is stop) (sym (takes.others stop other)) (other_way stop other (get_or old stop None) (are.each stop))
    ];
  }

-- of the footpaths into the target at index k those at places from `begin` on, before `end`, and all to the targets before it
abbrev pub IsDonePart : TimetableValue → List ℕ → ℕ → ℕ → ℕ → ℕ → Footpath → Type 0
IsDonePart t targets k begin end j f = IsInto t targets j f × ((j < k) ⊎ ((j ≡ k) × StandsBetween t.footpaths begin end f))

-- ways that are the nearest of some footpaths are those of as many others
pub nearest_as : (t : TimetableValue) (Was Is : ℕ → Footpath → Type 0) → ((j : ℕ) (g : Footpath) → Was j g → Is j g)
    → ((j : ℕ) (g : Footpath) → Is j g → Was j g) → (final_walks : List (Option FinalWalk)) → AreNearest t Was final_walks → AreNearest t Is final_walks
nearest_as t Was Is into back final_walks are = record { long = are.long; each = λ stop. done_as stop (get_or final_walks stop None) (are.each stop) }
  where
    done_as : (stop : ℕ) (way : Option FinalWalk) → IsDoneWalk Was stop way → IsDoneWalk Is stop way
    done_as stop None none = λ j g is from. none j g (back j g is) from
    done_as stop (Some way) near = record {
      index = near.index;
      done = into near.index (record { from = stop; to = way.to; secs = way.secs }) near.done;
      best = elim near.best [ inl loop ↦ inl loop | inr least ↦ inr (λ j g is from. least j g (back j g is) from) ];
    }

-- a target begins
pub target_begins : (t : TimetableValue) (targets : List ℕ) (k begin : ℕ) (final_walks : List (Option FinalWalk))
    → AreNearest t (IsDoneTo t targets k) final_walks → AreNearest t (IsDonePart t targets k begin begin) final_walks
target_begins t targets k begin final_walks =
    nearest_as t (IsDoneTo t targets k) (IsDonePart t targets k begin begin) (λ j g is. (is.0, inl is.1))
    (λ j g is. (is.0, elim is.1 [ inl lt ↦ lt | inr here ↦ (let s = here.1 in absurd (omega (arith, s.1, s.2))) ])) final_walks

-- one of its footpaths more
pub target_goes_on : (t : TimetableValue) (targets : List ℕ) (k begin place : ℕ) (f : Footpath) → begin ≤ place → At t.footpaths place f
    → slice_get targets k ≡ Some f.to → (old new : List (Option FinalWalk)) → AreNearest t (IsDonePart t targets k begin place) old
    → TakesWalk f old new → AreNearest t (IsDonePart t targets k begin (place + 1)) new
target_goes_on t targets k begin place f from at to old new =
    one_found t (IsDonePart t targets k begin place) (IsDonePart t targets k begin (place + 1)) k f
    ((Contains-At t.footpaths place f at, to), inr (refl, (place, from, omega arith, at)))
    (λ j g is. (is.0, elim is.1 [ inl lt ↦ inl lt | inr here ↦ (let s = here.1 in inr (here.0, (s.0, s.1, omega (arith, s.2), s.3))) ]))
    (λ j g is. elim is.1 [
      | inl lt ↦ inl (is.0, inl lt)
      | inr here ↦ elim (between_split t.footpaths begin place f g at here.1) [
        | inl was ↦ inl (is.0, inr (here.0, was))
        | inr same ↦ inr (here.0, same)
      ]
    ])
    (λ j g is. elim is.1 [ inl lt ↦ omega (arith, lt) | inr here ↦ (let e = here.0 in omega (arith, e)) ])
    old new

-- all of its footpaths are done
pub target_ends : (t : TimetableValue) (targets : List ℕ) (k target begin end : ℕ) → slice_get targets k ≡ Some target
    → ((p : ℕ) (f : Footpath) → At t.footpaths p f → f.to ≡ target → (begin ≤ p) × (p < end)) → (final_walks : List (Option FinalWalk))
    → AreNearest t (IsDonePart t targets k begin end) final_walks → AreNearest t (IsDoneTo t targets (k + 1)) final_walks
target_ends t targets k target begin end at into final_walks =
    nearest_as t (IsDonePart t targets k begin end) (IsDoneTo t targets (k + 1))
    (λ j g is. (is.0, elim is.1 [ inl lt ↦ omega (arith, lt) | inr here ↦ (let e = here.0 in omega (arith, e)) ]))
    (λ j g is. (
      is.0,
      elim (cases_eq j k) [
        | inr other ↦ (let lt = is.1 in inl (omega (arith, lt, other)))
        | inl same ↦
            let there = At-Contains t.footpaths g is.0.0 in
            let to : g.to ≡ target = same_Some g.to target (sym is.0.1 ∙ ap (slice_get targets) same ∙ at) in
            let place = into there.0 g there.1 to in
            inr (same, (there.0, place.0, place.1, there.1))
      ],
    )) final_walks

-- where all footpaths into all targets are done
pub all_found : (t : TimetableValue) → IsLegal t → (targets : List ℕ) (final_walks : List (Option FinalWalk))
    → AreNearest t (IsDoneTo t targets (length targets)) final_walks → AreFinalWalks t targets final_walks
all_found t legal targets final_walks are = record { long = are.long; each = λ stop lt. way_to stop lt (get_or final_walks stop None) (are.each stop) }
  where
    done : (f : Footpath) → Contains t.footpaths f → (k : ℕ) → slice_get targets k ≡ Some f.to → IsDoneTo t targets (length targets) k f
    done f in_f k at = ((in_f, at), slice_get_within targets k f.to at)

    -- the loop of a target
    loop_of : (stop : ℕ) → stop < t.stops → Contains targets stop
        → (k : ℕ) × (f : Footpath) × IsDoneTo t targets (length targets) k f × (f.from ≡ stop) × (f.to ≡ stop)
    loop_of stop lt is =
        let at = at_contains targets stop is in
        let loop = legal.loops stop lt in
        let f : Footpath = record { from = stop; to = stop; secs = loop.0 } in
        (at.0, f, done f (Contains-At t.footpaths loop.1.0 f loop.1.1) at.0 at.1, refl, refl)

    way_to : (stop : ℕ) → stop < t.stops → (way : Option FinalWalk) → IsDoneWalk (IsDoneTo t targets (length targets)) stop way → IsFinalWalk t targets stop way
    way_to stop lt None none = (
      (λ is. let loop = loop_of stop lt is in none loop.0 loop.1 loop.2 loop.3),
      (λ f in_f from to. let at = at_contains targets f.to to in none at.0 f (done f in_f at.0 at.1) from),
    )
    way_to stop lt (Some way) is = record {
      index = is.index;
      leads = is.done.0.1;
      is_footpath = is.done.0.0;
      own = λ target. elim is.best [
        | inl loop ↦ loop
        | inr least ↦ (let loop = loop_of stop lt target in absurd ((least loop.0 loop.1 loop.2 loop.3).0 loop.4))
      ];
      least = λ not_target k f at in_f from. elim is.best [
        | inl loop ↦ absurd (not_target (subst (Contains targets) loop (contains_at targets is.index way.to is.done.0.1)))
        | inr least ↦ (least k f (done f in_f k at) from).1
      ];
    }

-- the shortest way from the sources is the direct walk
pub direct_is : (t : TimetableValue) (b : SetQueryValue) (final_walks : List (Option FinalWalk)) → AreFinalWalks t b.targets final_walks
    → ((stop : ℕ) → Contains b.sources stop → stop < t.stops) → ((stop : ℕ) → Contains b.sources stop → Contains b.targets stop → ⊥)
    → (walk : Option Footpath) → IsShortestWalk final_walks b.sources (length b.sources) walk → IsDirectWalk t b walk
direct_is t b final_walks are within differ None none = λ i k f d.
    let way = subst (IsFinalWalk t b.targets f.from) (none i f.from (slice_get_within b.sources i f.from d.leaves) d.leaves)
    (are.each f.from (within f.from (contains_at b.sources i f.from d.leaves))) in
    way.1 f d.is_footpath refl (contains_at b.targets k f.to d.leads)
direct_is t b final_walks are within differ (Some f) is =
    let is_source = contains_at b.sources is.0 f.from is.2 in
    let near : IsNearest t b.targets f.from (way_by f) = subst (IsFinalWalk t b.targets f.from) is.3 (are.each f.from (within f.from is_source)) in (
      is.0,
      near.index,
      record { is_footpath = near.is_footpath; leaves = is.2; leads = near.leads },
      λ m n g d.
          let g_source = contains_at b.sources m g.from d.leaves in
          by_way near m n g d (get_or final_walks g.from None) refl (are.each g.from (within g.from g_source)),
    )
  where
    by_way : (near : IsNearest t b.targets f.from (way_by f)) → (m n : ℕ) (g : Footpath) → IsDirect t b m n g → (way : Option FinalWalk)
        → get_or final_walks g.from None ≡ way
        → IsFinalWalk t b.targets g.from way → IsTakenBefore is.0 near.index f.secs m n g.secs
    by_way near m n g d None e none = absurd (none.1 g d.is_footpath refl (contains_at b.targets n g.to d.leads))
    by_way near m n g d (Some way) e there =
        let shortest = is.4 m g.from way (slice_get_within b.sources m g.from d.leaves) d.leaves e in
        let no_longer : way.secs ≤ g.secs =
        elim (there.least (differ g.from (contains_at b.sources m g.from d.leaves)) n g d.leads d.is_footpath refl) [
          | inl lt ↦ omega (arith, lt)
          | inr same ↦ (let s = same.0 in omega (arith, s))
        ] in
        elim shortest [
          | inl lt ↦ inl (omega (arith, lt, no_longer))
          | inr same ↦
              let same_secs = same.0 in
              let le = same.1 in
              elim (cases_eq is.0 m) [
                | inl here ↦
                    let from : g.from ≡ f.from = same_Some g.from f.from (sym d.leaves ∙ ap (slice_get b.sources) (sym here) ∙ is.2) in
                    elim (near.least (differ f.from (contains_at b.sources is.0 f.from is.2)) n g d.leads d.is_footpath from) [
                      | inl lt ↦ inl lt
                      | inr equal ↦ inr (equal.0, inr (here, equal.1))
                    ]
                | inr other ↦ elim (cases_lt f.secs g.secs) [
                  | inl lt ↦ inl lt
                  | inr ge ↦ inr (omega (arith, ge, same_secs, no_longer), inl (omega (arith, le, other)))
                ]
              ]
        ]

-- the way from a stop that is no target is the direct walk from there
pub nearest_direct : (t : TimetableValue) (b : SetQueryValue) (stop : ℕ) → (Contains b.targets stop → ⊥) → (way : Option FinalWalk)
    → IsFinalWalk t b.targets stop way → IsDirectWalk t (from_stop b stop) (walk_by stop way)
nearest_direct t b stop other None none = λ i k f d.
    none.1 f d.is_footpath (contains_only stop f.from (contains_at (stop ∷ []) i f.from d.leaves)) (contains_at b.targets k f.to d.leads)
nearest_direct t b stop other (Some way) near = (
  0,
  near.index,
  record { is_footpath = near.is_footpath; leaves = refl; leads = near.leads },
  λ m n g d. elim (near.least other n g d.leads d.is_footpath (contains_only stop g.from (contains_at (stop ∷ []) m g.from d.leaves))) [
    | inl lt ↦ inl lt
    | inr same ↦ inr (same.0, elim (cases_eq 0 m) [ inl first ↦ inr (first, same.1) | inr later ↦ inl (omega (arith, later)) ])
  ],
)

-- the way from a target is its loop
pub target_loop : (t : TimetableValue) (targets : List ℕ) (stop : ℕ) → Contains targets stop → (way : Option FinalWalk) → IsFinalWalk t targets stop way
    → IsDirectSecs t stop stop (secs_of (walk_by stop way))
target_loop t targets stop is None none = absurd (none.0 is)
target_loop t targets stop is (Some way) near =
    subst (λ (n : ℕ). Contains t.footpaths (record { from = stop; to = n; secs = way.secs })) (near.own is) near.is_footpath

-- words that say which footpaths are found
pub words_set : (words : List FinalWalk) (stop : ℕ) (way : FinalWalk) → way.secs ≤ MAX_WALK_SECS → map final_walk_in (set words stop way)
    ≡ set (map final_walk_in words) stop (Some way)
words_set words stop way small =
    map-set final_walk_in words stop way ∙ ap (λ (w : Option FinalWalk). set (map final_walk_in words) stop w)
    (ap (λ b. final_walk_if b way) (le-leb way.secs MAX_WALK_SECS small))

-- a footpath takes the place of a way, or it doesn't
pub taken_in : (f : Footpath) (words : List FinalWalk) → f.from < length words → f.secs ≤ MAX_WALK_SECS
    → Replaces (get_or (map final_walk_in words) f.from None) f
    → TakesWalk f (map final_walk_in words) (map final_walk_in (set words f.from (way_by f)))
taken_in f words within small replaces =
    let final_walks = map final_walk_in words in
    let long : length (map final_walk_in words) ≡ length words = length-map words final_walk_in in
    subst (TakesWalk f final_walks) (sym (words_set words f.from (way_by f) small)) (record {
      long = length-set final_walks f.from (Some (way_by f));
      others = λ stop other. get_or-set_other final_walks f.from stop (Some (way_by f)) None other;
      taken = λ _. get_or-set_same final_walks f.from (Some (way_by f)) None (omega (arith, within, long));
      stays = λ stays. absurd (stays replaces);
    })

pub not_taken : (f : Footpath) (final_walks : List (Option FinalWalk)) → (Replaces (get_or final_walks f.from None) f → ⊥) → TakesWalk f final_walks final_walks
not_taken f final_walks stays = record { long = refl; others = λ stop other. refl; taken = λ replaces. absurd (stays replaces); stays = λ _. refl }

-- what the word at an index says
pub word_at : (words : List FinalWalk) (i : ℕ) (word : FinalWalk) → i < length words → word ≡ get_or words i word → get_or (map final_walk_in words) i None
    ≡ final_walk_in word
word_at words i word lt is =
    let long : length (map final_walk_in words) ≡ length words = length-map words final_walk_in in
    let said : slice_get (map final_walk_in words) i ≡ Some (final_walk_in word) =
    slice_get-map final_walk_in words i ∙ ap (option_map final_walk_in) (slice_get_read words (length words) i word refl lt is) in
    same_Some (get_or (map final_walk_in words) i None) (final_walk_in word) (sym (slice_get-get_or (map final_walk_in words) i None (omega (arith, lt, long)))
    ∙ said)

-- one source more: the shortest way is still so
pub shortest_more : (final_walks : List (Option FinalWalk)) (sources : List ℕ) (n stop : ℕ) → slice_get sources n ≡ Some stop → (best : Option Footpath)
    → IsShortestWalk final_walks sources n best → IsShortestWalk final_walks sources (n + 1) (shorter_of best stop (get_or final_walks stop None))
shortest_more final_walks sources n stop at best is = by (get_or final_walks stop None) refl best is
  where
    same_stop : (k other : ℕ) → slice_get sources k ≡ Some other → k ≡ n → other ≡ stop
    same_stop k other there same = same_Some other stop (sym there ∙ ap (slice_get sources) same ∙ at)

    by : (way : Option FinalWalk) → get_or final_walks stop None ≡ way → (was : Option Footpath) → IsShortestWalk final_walks sources n was
        → IsShortestWalk final_walks sources (n + 1) (shorter_of was stop way)
    by None e None none = λ k other lt there. elim (cases_eq k n) [
      | inl same ↦ ap (λ (s : ℕ). get_or final_walks s None) (same_stop k other there same) ∙ e
      | inr before ↦ none k other (omega (arith, lt, before)) there
    ]
    by None e (Some f) was = (
      was.0,
      omega (arith, was.1),
      was.2,
      was.3,
      λ k other way lt there says. elim (cases_eq k n) [
        | inl same ↦ absurd (some-none way (sym says ∙ ap (λ (s : ℕ). get_or final_walks s None) (same_stop k other there same) ∙ e))
        | inr before ↦ was.4 k other way (omega (arith, lt, before)) there says
      ],
    )
    by (Some here) e None none = (
      n,
      omega arith,
      at,
      e,
      λ k other way lt there says. elim (cases_eq k n) [
        | inl same ↦
            let way_is : here ≡ way = same_Some here way (sym e ∙ sym (ap (λ (s : ℕ). get_or final_walks s None) (same_stop k other there same)) ∙ says) in
            inr (ap (λ (w : FinalWalk). w.secs) way_is, omega (arith, same))
        | inr before ↦ absurd (some-none way (sym says ∙ none k other (omega (arith, lt, before)) there))
      ],
    )
    by (Some here) e (Some f) was = choose (nat_lt here.secs f.secs) refl
      where
        choose : (shorter : Bool) → nat_lt here.secs f.secs ≡ shorter → IsShortestWalk final_walks sources (n + 1)
            (if_shorter shorter (record { from = stop; to = here.to; secs = here.secs }) f)
        choose true less =
            let lt = ltb-true here.secs f.secs less in (
              n,
              omega arith,
              at,
              e,
              λ k other way lt_k there says. elim (cases_eq k n) [
                | inl same ↦
                    let way_is : here ≡ way =
                    same_Some here way (sym e ∙ sym (ap (λ (s : ℕ). get_or final_walks s None) (same_stop k other there same)) ∙ says) in
                    inr (ap (λ (w : FinalWalk). w.secs) way_is, omega (arith, same))
                | inr before ↦ inl (elim (was.4 k other way (omega (arith, lt_k, before)) there says) [
                  | inl less_way ↦ omega (arith, lt, less_way)
                  | inr equal ↦ (let secs = equal.0 in omega (arith, lt, secs))
                ])
              ],
            )
        choose false not_less =
            let ge = ltb-false here.secs f.secs not_less in (
              was.0,
              omega (arith, was.1),
              was.2,
              was.3,
              λ k other way lt_k there says. elim (cases_eq k n) [
                | inl same ↦
                    let way_is : here ≡ way =
                    same_Some here way (sym e ∙ sym (ap (λ (s : ℕ). get_or final_walks s None) (same_stop k other there same)) ∙ says) in
                    let secs_is = ap (λ (w : FinalWalk). w.secs) way_is in
                    let place = was.1 in
                    elim (cases_lt f.secs way.secs) [
                      | inl less ↦ inl less
                      | inr no_less ↦ inr (omega (arith, no_less, ge, secs_is), omega (arith, place, same))
                    ]
                | inr before ↦ was.4 k other way (omega (arith, lt_k, before)) there says
              ],
            )

-- a stop that isn't noted has no footpath
pub not_noted : (entries : List FinalWalk) (stop : ℕ) → slice_get (map is_walk entries) stop ≡ Some false
    → get_or (map final_walk_in entries) stop None ≡ None
not_noted [] stop at = absurd (none-some false at)
not_noted (e ∷ es) zero at = ap (λ b. final_walk_if b e) (same_Some (is_walk e) false at)
not_noted (e ∷ es) (suc k) at = not_noted es k at
