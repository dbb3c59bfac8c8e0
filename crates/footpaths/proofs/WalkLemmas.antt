-- A table of times of walks into a stop has the least times if no footpath lowers one.
use Rattle.std.proofs.Common.{◌≡◌, ◌≢◌, ℕ, ◌+◌, inl, inr, List, [], ◌∷◌, length, Option, Some, None, All, Contains, refl, sym, ap, subst, ◌∙◌}
use Rattle.std.proofs.Common.{arith}
use Rattle.std.specs.List.Sorted.{IsPermutation}
use Rattle.std.proofs.lemmas.Option.{same_Some, none-some}
use Rattle.std.proofs.lemmas.List.Elements.{All-contains}
use Rattle.std.proofs.lemmas.List.Sorted.{Contains-permutation}
use Rattle.reasoning.proofs.ListLemmas.{contains_cases}
use Rattle.timetable.specs.declared.network.Footpath.{Footpath}
use Rattle.timetable.specs.Journeys.{IsWalk, walk_end, walk_secs}
use Rattle.footpaths.specs.Walks.{on_foot, IsWalkBetween}
use Rattle.footpaths.specs.Index.{AreThoseInto}
use Rattle.footpaths.specs.declared.search.HeapEntry.{HeapEntry}
use Rattle.footpaths.specs.Search.{time_at, found_at, IsWithin, IsCappedTime, IsBackFrom, AreWalked, Grows, IsFollowed, AreFollowed, ArePendingOrFollowed}
use Rattle.footpaths.specs.Search.{IsCappedLeast, AreCappedLeast}

-- a listed footpath is a walk
pub alone : (listed : List Footpath) (f : Footpath) → Contains listed f → IsWalkBetween listed f.from f.to (f ∷ [])
alone listed f in_list = record { leads = (in_list, refl, tt); some = λ e. cc; ends = refl }

-- and a longer one in front of a walk
pub in_front : (listed : List Footpath) (f : Footpath) (to : ℕ) (walk : List Footpath) → Contains listed f → IsWalkBetween listed f.to to walk
    → IsWalkBetween listed f.from to (f ∷ walk)
in_front listed f to walk in_list is = record { leads = (in_list, refl, is.leads); some = λ e. cc; ends = is.ends }

pub capped_alone : (listed : List Footpath) (cap target : ℕ) (f : Footpath) → Contains listed f → f.to ≡ target → IsBackFrom listed cap target f 0
capped_alone listed cap target f in_list to = (f ∷ [], subst (λ (s : ℕ). IsWalkBetween listed f.from s (f ∷ [])) to (alone listed f in_list), refl)

pub capped_in_front : (listed : List Footpath) (cap target stop secs : ℕ) (f : Footpath) → Contains listed f → f.to ≡ stop
    → IsCappedTime listed cap stop target secs → IsBackFrom listed cap target f secs
capped_in_front listed cap target stop secs f in_list to (walk, is, time) =
    let from_there : IsWalkBetween listed f.to target walk = subst (λ (s : ℕ). IsWalkBetween listed s target walk) (sym to) is in
    (f ∷ walk, in_front listed f target walk in_list from_there, omega (arith, time))

-- all footpaths into a stop were walked
pub followed_those : (listed : List Footpath) (times : List (Option ℕ)) (stop secs : ℕ) (paths : List Footpath) → AreThoseInto listed stop paths
    → All (λ f. IsWithin times f.from (f.secs + secs)) paths → IsFollowed listed times stop secs
followed_those listed times stop secs paths those within f in_list to =
    All-contains (λ (g : Footpath). IsWithin times g.from (g.secs + secs)) paths f within (those.whole f in_list to)

-- a time comes out of those that are pending, and is followed unless it is no longer in the table
pub still_pending_or_followed : (listed : List Footpath) (times times' : List (Option ℕ)) (all pending pending' : List HeapEntry) (next : HeapEntry)
    → IsPermutation all (next ∷ pending) → Grows times pending times' pending'
    → (time_at times' next.stop ≡ Some next.secs.0 → IsFollowed listed times' next.stop next.secs.0)
    → ArePendingOrFollowed listed times all → ArePendingOrFollowed listed times' pending'
still_pending_or_followed listed times times' all pending pending' next moved grows followed old stop secs at =
    elim (grows.fresh stop secs at) [
      | inr in_it ↦ inl in_it
      | inl before ↦ elim (old stop secs before) [
        | inr done ↦ inr (λ f in_list to. grows.lower f.from (f.secs + secs) (done f in_list to))
        | inl in_it ↦ elim (contains_cases (found_at secs stop) next pending (Contains-permutation all (next ∷ pending) (found_at secs stop) moved in_it)) [
          | inr rest ↦ inl (grows.kept (found_at secs stop) rest)
          | inl same ↦
              let its_stop : next.stop ≡ stop = ap (λ (x : HeapEntry). x.stop) same in
              let its_secs : next.secs.0 ≡ secs = ap (λ (x : HeapEntry). x.secs.0) same in
              let now : time_at times' next.stop ≡ Some next.secs.0 =
              subst (λ (s : ℕ). time_at times' s ≡ Some next.secs.0) (sym its_stop) (at ∙ ap (λ (n : ℕ). Some n) (sym its_secs)) in
              let done : IsFollowed listed times' next.stop next.secs.0 = followed now in
              inr (λ f in_list to. subst (λ (n : ℕ). IsWithin times' f.from (f.secs + n)) its_secs (done f in_list (to ∙ sym its_stop)))
        ]
      ]
    ]

-- where none is pending, each was followed
pub all_followed : (listed : List Footpath) (times : List (Option ℕ)) (pending : List HeapEntry) → length pending ≡ 0
    → ArePendingOrFollowed listed times pending
    → AreFollowed listed times
all_followed listed times pending none old stop secs at = elim (old stop secs at) [
  | inr followed ↦ followed
  | inl in_it ↦ absurd (omega (arith, none, in_it.1))
]

-- each walk has its start in the table, at no more than its time
arrives : (listed : List Footpath) (times : List (Option ℕ)) (target : ℕ) → IsFollowed listed times target 0 → AreFollowed listed times
    → (walk : List Footpath) (stop : ℕ) → IsWalk (on_foot listed) stop walk → walk ≢ [] → walk_end stop walk ≡ target → IsWithin times stop (walk_secs walk)
arrives listed times target started followed [] stop leads some ends = absurd (some refl)
arrives listed times target started followed (f ∷ []) stop (in_list, start, more) some ends =
    subst (λ (s : ℕ). IsWithin times s (f.secs + 0)) start (started f in_list ends)
arrives listed times target started followed (f ∷ g ∷ rest) stop (in_list, start, more) some ends =
    let (d, at, le) = arrives listed times target started followed (g ∷ rest) f.to more (λ e. cc) ends in
    let (e, is, less) = followed f.to d at f in_list refl in
    (e, subst (λ (s : ℕ). time_at times s ≡ Some e) start is, omega (arith, le, less))

-- so the table has the least times
pub least : (listed : List Footpath) (cap target : ℕ) (times : List (Option ℕ)) → AreWalked listed cap target times → IsFollowed listed times target 0
    → AreFollowed listed times → AreCappedLeast listed cap target times
least listed cap target times walked started followed stop = by (time_at times stop) refl
  where
    by : (o : Option ℕ) → time_at times stop ≡ o → IsCappedLeast listed cap stop target o
    by None at = λ walk is.
        let (d, known, le) = arrives listed times target started followed walk stop is.leads is.some is.ends in
        none-some d (sym at ∙ known)
    by (Some secs) at = (
      walked stop secs at,
      λ walk is.
          let (d, known, le) = arrives listed times target started followed walk stop is.leads is.some is.ends in
          let same : secs ≡ d = same_Some secs d (sym at ∙ known) in
          omega (arith, same, le),
    )
