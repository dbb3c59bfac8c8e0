-- The rule, part by part.
use Rattle.image_layout.specs.Image.{ImageValue}
use Rattle.std.proofs.Common.{◌≡◌, ℕ, length, ◌+◌, ◌*◌, ◌<◌, ◌≤◌, List, Option, Some, slice_get, get_or, ap, sym, ◌∙◌, subst, arith, inl, inr, lt_of_not-le}
use mathlib.Core.Logic.{dite}
use mathlib.Core.Option.{some, none}
use native.Mathlib.Decide.{dec_le}
use lib.ListN.{get_elem?}
use Rattle.std.proofs.lemmas.Option.{slice_get_within}
use Rattle.version_core.specs.declared.state.Shelf.{Shelf}
use Rattle.version_core.specs.declared.state.Worker.{Worker}
use Rattle.version_core.specs.State.{State, newest}
use Rattle.version_core.specs.Invariants.{KeepsInvariants, Fits, version_on}
use Rattle.version_core.proofs.Keeps.{held_known, looked_fits}
use Rattle.shelf_steps.specs.declared.edition.Edition.{Edition}
use Rattle.shelf_steps.specs.declared.views.LoaderView.{LoaderView}
use Rattle.shelf_steps.specs.declared.views.View.{View}
use Rattle.shelf_steps.specs.EventHistory.{IsEdition}
use Rattle.version_core.specs.Shown.{shelf_word}
use Rattle.shelf_steps.specs.Seats.{WorkerFits, LoaderFits, HasEdition}
use Rattle.shelf_steps.specs.Plays.{newest_of}
use Rattle.shelf_steps.specs.Slots.{SlotsFit, IsFilled}
use Rattle.shelf_steps.specs.Rule.{KeepsRule}
use Rattle.shelf_steps.specs.Laws.{Shelved, IsLoader, WordsAreTheLoaders, WordsCountWorkers, NumbersDiffer, HeldHaveEditions, SlotsOutAreHeld}
use Rattle.shelf_steps.specs.Laws.{SlotsAtHomeAreFilled, LooksAreSo, OneSeatLoads, NoticesAreNoNewer}
use Rattle.shelf_steps.proofs.Courses.{kept_of}
use Rattle.shelf_steps.proofs.SlotsAfter.{slot_filled}
use Rattle.shelf_steps.proofs.WordsAfter.{few_counted}
use Rattle.version_core.proofs.Rising.{rise_at}
use Rattle.shelf_steps.proofs.NoteLists.{notices_there}
use Rattle.shelf_steps.proofs.Works.{held_on}

-- what the loader knows, at whichever seat it is
module _ (table : Shelved) (r : KeepsRule table) (id : ℕ) (l : LoaderView) (at : get_elem? table.views id ≡ some (View.Loading l)) where
  pub is_loader : l ≡ r.loader
  is_loader = (r.seats.each id (View.Loading l) at).1

  pub loader_knows : LoaderFits r.history l
  loader_knows = subst (λ (x : LoaderView). LoaderFits r.history x) (sym is_loader) r.seats.loads

  pub loader_slots : SlotsFit table.homes r.history.state.shelves r.history.state.workers r.history.images l.hand
  loader_slots = subst (λ (x : LoaderView). SlotsFit table.homes r.history.state.shelves r.history.state.workers r.history.images x.hand) (sym is_loader)
      r.slots

  pub shelf_is : (k : ℕ) (x : Shelf) → slice_get l.shelves k ≡ Some x → slice_get r.history.state.shelves k ≡ Some x
  shelf_is k x e = ap (λ (xs : List Shelf). slice_get xs k) (sym loader_knows.shows.shelves) ∙ e

  pub newest_is : newest_of l ≡ newest r.history.state
  newest_is = ap (λ (xs : List ImageValue). length xs) loader_knows.images ∙ r.goes.as_many

pub words_are : WordsAreTheLoaders
words_are table l r at =
    let k = loader_knows table r 0 l at in let kept : KeepsInvariants r.history.state = kept_of r.history r.goes in (
      r.words.cur ∙ (λ i. 8 * sym k.shows.current i + sym k.shows.current_shelf i),
      (λ i. slice_get (k.shows.shelves i) (k.shows.current_shelf i)) ∙ (kept.shelves.current_open ∙ ap (λ n. Some (Shelf.Open n)) (sym k.shows.current)),
      λ j x e. let s = shelf_is table r 0 l at j x e in let within = slice_get_within r.history.state.shelves j _ s in let eight = kept.shelves.eight in
          (get_or r.history.state.counts j 0, few_counted r.history.state j kept (omega arith), r.words.each j x s),
    )

pub counts_are : WordsCountWorkers
counts_are table l r at =
    let kept : KeepsInvariants r.history.state = kept_of r.history r.goes in let is = is_loader table r 0 l at in
    let same : l.handed ≡ r.loader.handed = ap (λ (x : LoaderView). x.handed) is in (
      r.history.state.workers,
      kept.workers.sixteen,
      (λ i v there. (r.seats.each i (View.Working v) there).2.shows.now),
      (λ w less. let n = r.seats.every w (subst (λ x. w < x) same less) in (r.seats.owner w, n.0, n.2, n.1)),
      (λ w past small. (r.seats.unseated w (subst (λ x. x ≤ w) same past) small).0),
      λ k x e. let s = shelf_is table r 0 l at k x e in let within = slice_get_within r.history.state.shelves k _ s in let eight = kept.shelves.eight in
          r.words.each k x s ∙ ap (λ n. shelf_word x n) (kept.counts.each k (omega arith)),
    )

pub numbers_differ : NumbersDiffer
numbers_differ table i j v w r at at' =
    let a = r.seats.each i (View.Working v) at in let b = r.seats.each j (View.Working w) at' in
    ((let few = r.seats.few in let less = a.0 in omega arith), (λ e. sym a.1 ∙ (ap r.seats.owner e ∙ b.1)))

pub held_have : HeldHaveEditions
held_have table l i k v w r loads at now =
    let a = r.seats.each i (View.Working w) at in let f : WorkerFits r.history w = a.2 in let kn = loader_knows table r 0 l loads in
    let kept : KeepsInvariants r.history.state = kept_of r.history r.goes in
    let here : slice_get r.history.state.workers w.number ≡ Some (Worker.Holding k v) = f.shows.now ∙ ap (λ (x : Worker). Some x) now in (
      ap (λ (xs : List Shelf). version_on xs k) kn.shows.shelves ∙ (held_known r.history.state w.number k v kept here).0,
      subst (λ (x : List ImageValue). IsEdition x v w.edition) (sym kn.images) (subst (λ (x : Worker). HasEdition r.history.images x w.edition) now f.edition),
    )

slot_of : (table : Shelved) (l : LoaderView) (k w v : ℕ) (r : KeepsRule table) → IsLoader table l
    → version_on l.shelves k ≡ Some v → w < 16
    → IsFilled r.history.images (slice_get r.history.state.workers w) k v (get_elem? table.homes (16 * k + w))
slot_of table l k w v r at is less =
    let y = held_on l.shelves k v is in
    (slot_filled r.history.images r.history.state.workers r.loader.hand y.0 k w v (get_elem? table.homes (16 * k + w)) y.2
    (r.slots k w y.0 (shelf_is table r 0 l at k y.0 y.1) less)).1

pub slots_out : SlotsOutAreHeld
slots_out table l k w v r at is less out =
    let s = r.history.state in
    let here : slice_get s.workers w ≡ Some (Worker.Holding k v) =
    elim (slot_of table l k w v r at is less) [
      | inl a ↦
          absurd (let z : some none ≡ some (some a.0) = sym out ∙ a.1 in cc)
      | inr b ↦ b.1
    ] in
    let seated : w < r.loader.handed = dite (dec_le r.loader.handed w) (λ past. absurd (let u =
    r.seats.unseated w past
    less in let z : Some
    Worker.Idle
    ≡ Some (Worker.Holding k v) = sym u.0 ∙ here in cc)) (λ not. lt_of_not-le not) in
    let n = r.seats.every w seated in
    let f : WorkerFits r.history n.0 = (r.seats.each (r.seats.owner w) (View.Working n.0) n.2).2 in
    let z : Some n.0.now ≡ Some (Worker.Holding k v) = sym f.shows.now ∙ (ap (λ m. slice_get s.workers m) n.1 ∙ here) in
    (r.seats.owner w, n.0, n.2, n.1, cc)

pub slots_home : SlotsAtHomeAreFilled
slots_home table l k w v x r at is less home =
    let kn = loader_knows table r 0 l at in
    subst (λ (xs : List ImageValue). IsEdition xs v x) (sym kn.images)
    (elim (slot_of table l k w v r at is less) [
      | inl a ↦ (let z : some (some x) ≡ some (some a.0) = sym home ∙ a.1 in let same : x ≡ a.0 =
          cc in subst (λ (o : Option Edition).
          IsEdition r.history.images v o)
          (sym same) a.2)
      | inr b ↦ absurd (let z : some (some x) ≡ some none = sym home ∙ b.0 in cc)
    ])

seen_fits : (current shelf seen : ℕ) (shelves : List Shelf) (worker : Worker) → Fits current shelf shelves worker seen → seen ≤ current
seen_fits current shelf seen shelves Worker.Idle f = f
seen_fits current shelf seen shelves (Worker.Looked v k) f = let a = f.1 in let b = f.2 in omega arith
seen_fits current shelf seen shelves (Worker.Late k) f = let a = f.1 in omega arith
seen_fits current shelf seen shelves (Worker.Holding k v) f = f.3

-- nobody has seen a version newer than the current one
seen_small : (s : State) (w : ℕ) (worker : Worker) → KeepsInvariants s → slice_get s.workers w ≡ Some worker → get_or s.seen w 0 ≤ s.current
seen_small s w worker kept here = seen_fits s.current s.current_shelf (get_or s.seen w 0) s.shelves worker (kept.workers.each w worker here)

pub one_loads : OneSeatLoads
one_loads table r = ((r.loader, r.seats.loader_seat), (λ i l at. (r.seats.each i (View.Loading l) at).0))

pub looks_are : LooksAreSo
looks_are table l i w r loads at =
    let f : WorkerFits r.history w = (r.seats.each i (View.Working w) at).2 in let kn =
    loader_knows table r 0 l loads in
    let kept : KeepsInvariants r.history.state =
    kept_of r.history r.goes in
    let c = kn.shows.current in (
      (let a = seen_small r.history.state w.number w.now kept f.shows.now in let b = f.shows.seen in omega arith),
      (let a = f.last.0 in omega arith),
      (λ p. let a = f.passed p in omega arith),
      λ v k now. let q = looked_fits r.history.state w.number v k kept (f.shows.now ∙ ap (λ (x : Worker). Some x) now) in
          ((let a = q.3 in omega arith), (λ e. q.4 (e ∙ c) ∙ sym kn.shows.current_shelf)),
    )

pub notices_old : NoticesAreNoNewer
notices_old table l i v r loads at =
    let kept : KeepsInvariants r.history.state = kept_of r.history r.goes in let c = (loader_knows table r 0 l loads).shows.current in
    let n = notices_there table.views i v at in
    let most = rise_at 0 r.history.state.notices r.history.state.current n.0 v kept.notices (ap (λ (xs : List ℕ). slice_get xs n.0) (sym r.notices) ∙ n.1) in
    let m = most.1 in omega arith
