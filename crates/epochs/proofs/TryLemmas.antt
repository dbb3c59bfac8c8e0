-- Tries at closing shelves.
use Rattle.std.proofs.Common.{◌≡◌, ◌≢◌, ℕ, zero, suc, ◌+◌, ◌<◌, ◌≤◌, Bool, true, false, List, [], ◌∷◌, ◌++◌, length, set}
use Rattle.std.proofs.Common.{Option, Some, None, slice_get, get_or, refl, ap, sym, ◌∙◌, subst, arith, inl, inr, append_assoc, length-set}
use Rattle.std.proofs.lemmas.Option.{get_or_from_slice_get, slice_get_within}
use mathlib.Core.Logic.{dite}
use native.Mathlib.Decide.{ℕ_discrete}
use Rattle.reasoning.proofs.ListLemmas.{slice_get-set_same, slice_get-set_other}
use Rattle.image_layout.specs.Image.{ImageValue}
use Rattle.version_core.specs.declared.event.Event.{Event}
use Rattle.version_core.specs.declared.event.Reply.{Reply}
use Rattle.version_core.specs.declared.state.Shelf.{Shelf}
use Rattle.version_core.specs.State.{State, most_versions, newest, shelved}
use Rattle.version_core.specs.Steps.{CollectStep, IsClosing, IsUnpublished, MayOpen}
use Rattle.version_core.specs.Runs.{IsRun}
use Rattle.version_core.specs.Invariants.{KeepsInvariants}
use Rattle.version_core.specs.Rest.{IsAtRest, RestIsFull}
use Rattle.version_core.specs.Laws.{RunsJoin}
use Rattle.version_core.proofs.Lists.{slice_get-set}
use Rattle.shelf_steps.specs.declared.edition.Edition.{Edition}
use Rattle.shelves.specs.declared.collected.Collected.{Collected}
use Rattle.epochs.specs.History.{TableValue, AreShelved, StandsOn}
use Rattle.epochs.specs.Publishing.{TriesShelf, TriesClosing, tries, try_at, is_freed, busy_count, shelf_after_try, SomeIsFree, AreAllInUse}

-- a try at a closing shelf: what it finds there, and what is there afterwards, follow from the count
tries_closing : (s t : State) (k v count : ℕ) (freed : Bool) (busy : ℕ) (reply : Reply) (before events : List Event) (images : List ImageValue)
    → IsClosing s k v → get_or s.counts k 0 ≡ count → t ≡ record s { shelves = t.shelves }
    → ((j : ℕ) → j ≢ k → slice_get t.shelves j ≡ slice_get s.shelves j)
    → (freed ≡ is_freed (Shelf.Closing v) count) × (busy ≡ busy_count (Shelf.Closing v) count)
    × (slice_get t.shelves k ≡ Some (shelf_after_try (Shelf.Closing v) count))
    → CollectStep s k reply t → events ≡ before ++ Event.Collect k ∷ []
    → TriesShelf (record { state = s; events = before; images = images }) k freed busy (record { state = t; events = events; images = images })
tries_closing s t k v count freed busy reply before events images closing counted same others found step more =
    let tried : try_at k (slice_get s.shelves k) ≡ Event.Collect k ∷ [] = ap (λ o. try_at k o) closing in
    record {
      run = subst (λ (l : List Event). IsRun s l t) (sym tried) (record { replies = reply ∷ []; run = (t, step, refl) });
      events = more ∙ ap (λ (l : List Event). before ++ l) (sym tried);
      images = refl;
      state = same;
      others = others;
      found = λ shelf here.
          let both : Some (Shelf.Closing v) ≡ Some shelf = sym closing ∙ here in
          let one : Shelf.Closing v ≡ shelf = cc in
          subst (λ (x : Shelf). (freed ≡ is_freed x (get_or s.counts k 0)) × (busy ≡ busy_count x (get_or s.counts k 0))
          × (slice_get t.shelves k ≡ Some (shelf_after_try x (get_or s.counts k 0)))) one
          (subst (λ n. (freed ≡ is_freed (Shelf.Closing v) n) × (busy ≡ busy_count (Shelf.Closing v) n)
          × (slice_get t.shelves k ≡ Some (shelf_after_try (Shelf.Closing v) n))) (sym counted) found);
    }

-- with no worker there it is freed
pub tries_freed : (s t : State) (k v : ℕ) (before events : List Event) (images : List ImageValue) → IsClosing s k v
    → get_or s.counts k 0 ≡ 0 → t ≡ shelved s k Shelf.Free → CollectStep s k Reply.Freed t
    → events ≡ before ++ Event.Collect k ∷ []
    → TriesShelf (record { state = s; events = before; images = images }) k true 0 (record { state = t; events = events; images = images })
tries_freed s t k v before events images closing none is step more =
    tries_closing s t k v 0 true 0 Reply.Freed before events images closing none (subst (λ (x : State). x ≡ record s { shelves = x.shelves }) (sym is) refl)
    (λ j other. ap (λ (x : State). slice_get x.shelves j) is ∙ slice_get-set_other s.shelves k j Shelf.Free other)
    (refl, refl, ap (λ (x : State). slice_get x.shelves k) is ∙ slice_get-set_same s.shelves k Shelf.Free (slice_get_within s.shelves k _ closing)) step more

-- with workers there it stays
pub tries_busy : (s t : State) (k v count : ℕ) (before events : List Event) (images : List ImageValue) → IsClosing s k v
    → get_or s.counts k 0 ≡ count → 0 < count → t ≡ s → CollectStep s k (Reply.Busy count) t
    → events ≡ before ++ Event.Collect k ∷ []
    → TriesShelf (record { state = s; events = before; images = images }) k false count (record { state = t; events = events; images = images })
tries_busy s t k v zero before events images closing some more_than is step more = absurd (omega arith)
tries_busy s t k v (suc n) before events images closing some more_than is step more =
    tries_closing s t k v (suc n) false (suc n) (Reply.Busy (suc n)) before events images closing some
    (subst (λ (x : State). x ≡ record s { shelves = x.shelves }) (sym is) refl) (λ j other. ap (λ (x : State). slice_get x.shelves j) is)
    (refl, refl, ap (λ (x : State). slice_get x.shelves k) is ∙ closing) step more

-- a shelf that is freed lets its edition go
pub free_shelved : (shelves : List Shelf) (editions : List (Option Edition)) (images : List ImageValue) (k : ℕ)
    (was : Shelf) → slice_get shelves k ≡ Some was → k < 8 → AreShelved shelves editions images
    → AreShelved (set shelves k Shelf.Free) (set editions k None) images
free_shelved shelves editions images k was here small h = record {
  eight = length-set editions k None ∙ h.eight;
  each = λ j shelf edition at_shelf at_edition.
      let e = h.eight in
      elim (slice_get-set shelves k j Shelf.Free shelf (slice_get_within shelves k was here) at_shelf) [
        | inl a ↦ elim (slice_get-set editions k j None edition (omega arith) at_edition) [
          | inl b ↦ subst (λ (x : Shelf). StandsOn images x edition) (sym a.1) b.1
          | inr b ↦ absurd (b.0 a.0)
        ]
        | inr a ↦ elim (slice_get-set editions k j None edition (omega arith) at_edition) [
          | inl b ↦ absurd (a.0 b.0)
          | inr b ↦ h.each j shelf edition a.1 b.1
        ]
      ];
}

-- each shelf below n was tried
pub record CollectsBelow (n : ℕ) (a : TableValue) (freed : List Bool) (busy : List ℕ) (b : TableValue) : Type 0 where
  pub most : n ≤ 8
  pub run : IsRun a.state (tries a.state.shelves n) b.state
  pub events : b.events ≡ a.events ++ tries a.state.shelves n
  pub images : b.images ≡ a.images
  pub state : b.state ≡ record a.state { shelves = b.state.shelves }
  pub eight_freed : length freed ≡ 8
  pub eight_busy : length busy ≡ 8
  pub later : (k : ℕ) → n ≤ k → slice_get b.state.shelves k ≡ slice_get a.state.shelves k
  pub each : (k : ℕ) (shelf : Shelf) → slice_get a.state.shelves k ≡ Some shelf → k < n
      → (slice_get freed k ≡ Some (is_freed shelf (get_or a.state.counts k 0)))
      × (slice_get busy k ≡ Some (busy_count shelf (get_or a.state.counts k 0)))
      × (slice_get b.state.shelves k ≡ Some (shelf_after_try shelf (get_or a.state.counts k 0)))

join_runs : (s t u : State) (first second : List Event) → RunsJoin → IsRun s first t → IsRun t second u → IsRun s (first ++ second) u
join_runs s t u first second law a b = record { replies = a.replies ++ b.replies; run = law s t u first second a.replies b.replies a.run b.run }

one_more : (n : ℕ) (a m b : TableValue) (freed : List Bool) (busy : List ℕ) (f : Bool) (c : ℕ) → RunsJoin → n < 8
    → CollectsBelow n a freed busy m → TriesShelf m n f c b
    → CollectsBelow (suc n) a (set freed n f) (set busy n c) b
one_more n a m b freed busy f c law small h t =
    let same : slice_get m.state.shelves n ≡ slice_get a.state.shelves n = h.later n (omega arith) in
    let tried : try_at n (slice_get m.state.shelves n) ≡ try_at n (slice_get a.state.shelves n) = ap (λ o. try_at n o) same in
    let counts : m.state.counts ≡ a.state.counts = ap (λ (x : State). x.counts) h.state in
    let l = h.eight_freed in let q = h.eight_busy in
    record {
      most = omega arith;
      run = join_runs a.state m.state b.state (tries a.state.shelves n) (try_at n (slice_get a.state.shelves n)) law
          h.run (subst (λ (x : List Event). IsRun m.state x b.state) tried t.run);
      events = t.events ∙ (ap (λ (x : List Event). m.events ++ x) tried
          ∙ (ap (λ (x : List Event). x ++ try_at n (slice_get a.state.shelves n)) h.events
          ∙ append_assoc a.events (tries a.state.shelves n) (try_at n (slice_get a.state.shelves n))));
      images = t.images ∙ h.images;
      state = t.state ∙ ap (λ (x : State). record x { shelves = b.state.shelves }) h.state;
      eight_freed = length-set freed n f ∙ h.eight_freed;
      eight_busy = length-set busy n c ∙ h.eight_busy;
      later = λ k more. t.others k (λ e. let z = e in omega arith) ∙ h.later k (omega arith);
      each = λ k shelf here less. dite (ℕ_discrete k n)
          (λ e.
          let at_n : slice_get m.state.shelves n ≡ Some shelf = same ∙ (ap (λ i. slice_get a.state.shelves i) (sym e) ∙ here) in
          let found = t.found shelf at_n in
          let at_count : get_or m.state.counts n 0 ≡ get_or a.state.counts k 0 =
          ap (λ (x : List ℕ). get_or x n 0) counts ∙ ap (λ i. get_or a.state.counts i 0) (sym e) in (
            ap (λ i. slice_get (set freed n f) i) e
                ∙ (slice_get-set_same freed n f (omega arith)
                ∙ (ap (λ (x : Bool). Some x) found.0 ∙ ap (λ i. Some (is_freed shelf i)) at_count)),
            ap (λ i. slice_get (set busy n c) i) e
                ∙ (slice_get-set_same busy n c (omega arith)
                ∙ (ap (λ (x : ℕ). Some x) found.1 ∙ ap (λ i. Some (busy_count shelf i)) at_count)),
            ap (λ i. slice_get b.state.shelves i) e ∙ (found.2 ∙ ap (λ i. Some (shelf_after_try shelf i)) at_count),
          ))
          (λ other.
          let before = h.each k shelf here (omega arith) in (
            slice_get-set_other freed n k f other ∙ before.0,
            slice_get-set_other busy n k c other ∙ before.1,
            t.others k other ∙ before.2,
          ));
    }

pub one_more_tried : (n : ℕ) (a m b : TableValue) (freed : List Bool) (busy : List ℕ) (f : Bool) (c : ℕ) → RunsJoin
    → n < 8 → CollectsBelow n a freed busy m → TriesShelf m n f c b
    → CollectsBelow (n + 1) a (set freed n f) (set busy n c) b
one_more_tried n a m b freed busy f c law small h t =
    let e : suc n ≡ n + 1 = omega arith in
    subst (λ i. CollectsBelow i a (set freed n f) (set busy n c) b) e (one_more n a m b freed busy f c law small h t)

pub all_tried : (n : ℕ) (a : TableValue) (found : Collected) (b : TableValue) → KeepsInvariants a.state → 8 ≤ n
    → CollectsBelow n a found.freed found.busy b → TriesClosing a found b
all_tried n a found b kept done h =
    let most = h.most in
    let eight : n ≡ 8 = omega arith in
    record {
      run = subst (λ i. IsRun a.state (tries a.state.shelves i) b.state) eight h.run;
      events = subst (λ i. b.events ≡ a.events ++ tries a.state.shelves i) eight h.events;
      images = h.images;
      state = h.state;
      each = λ k shelf here. let l = slice_get_within a.state.shelves k shelf here in let e = kept.shelves.eight in h.each k shelf here (omega arith);
    }

nothing_waits : (s : State) → IsAtRest s → (k v : ℕ) → ¬ (IsUnpublished s k v)
nothing_waits s rest k v new = let e = rest.one_open k v new.0 in let l = new.1 in omega arith

left_busy : (count : ℕ) (v : ℕ) (b : TableValue) (k : ℕ) → ¬ (SomeIsFree b.state)
    → slice_get b.state.shelves k ≡ Some (shelf_after_try (Shelf.Closing v) count) → 0 < count
left_busy zero v b k none here = absurd (none (k, here))
left_busy (suc n) v b k none here = omega arith

-- where no shelf is free after all tries, workers are at each but the current one
pub full_after : (a : TableValue) (found : Collected) (b : TableValue) → RestIsFull → KeepsInvariants a.state → IsAtRest a.state
    → newest a.state < most_versions → ¬ (SomeIsFree a.state) → ¬ (SomeIsFree b.state) → TriesClosing a found b
    → AreAllInUse a.state found.busy
full_after a found b law kept rest left none still h = record {
  current =
      let f = h.each a.state.current_shelf (Shelf.Open a.state.current) kept.shelves.current_open in
      get_or_from_slice_get found.busy a.state.current_shelf _ 0 f.1;
  others = λ k small other.
      let may : MayOpen a.state = (nothing_waits a.state rest, left) in
      let closing = law a.state a.state 0 k a.state.counts kept rest (may, (λ j free. none (j, free)), refl, refl) small other in
      let f = h.each k (Shelf.Closing closing.0) closing.1 in
      let some = left_busy (get_or a.state.counts k 0) closing.0 b k still f.2 in
      let e = get_or_from_slice_get found.busy k _ 0 f.1 in
      omega arith;
}
