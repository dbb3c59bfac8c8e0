-- Each step is one event of the table of versions.
use Rattle.std.proofs.Common.{◌≡◌, ℕ, ◌+◌, ◌/◌, ◌%◌, ◌<◌, ◌⊎◌, Bool, true, false, List, Option, refl, sym, subst, inl, inr}
use mathlib.Core.Option.{some}
use lib.ListN.{get_elem?}
use Rattle.version_core.specs.declared.event.Event.{Event}
use Rattle.version_core.specs.declared.event.Reply.{Reply}
use Rattle.version_core.specs.declared.state.Worker.{Worker}
use Rattle.shelf_steps.specs.declared.edition.Edition.{Edition}
use Rattle.shelf_steps.specs.declared.views.WorkerView.{WorkerView}
use Rattle.shelf_steps.specs.declared.views.LoaderView.{LoaderView}
use Rattle.shelf_steps.specs.declared.views.View.{View}
use Rattle.shelf_steps.specs.Rule.{KeepsRule}
use Rattle.shelf_steps.specs.Plays.{OfWorker, SeatAndSlots, Looks, Takes, TakesFound, TakesAs, Leaves}
use Rattle.shelf_steps.specs.Plays.{CollectsFound, ShowsLate}
use Rattle.shelf_steps.specs.Plays.{looked_at, is_open, newest_of}
use Rattle.shelf_steps.specs.Laws.{Shelved, IsLoader}
use Rattle.shelf_steps.specs.Events.{IsEvent, IsWorkers, LooksAreEvents, TakesAreEvents, DropsAreEvents, OpensAreEvents}
use Rattle.shelf_steps.specs.Events.{PublishesAreEvents, ClosesAreEvents, CollectsAreEvents, SpareTriesAreEvents}
use Rattle.shelf_steps.specs.Events.{LateTakesTell, LateTakesRise}
use Rattle.shelf_steps.proofs.Says.{looks_are}

pub looks_events : LooksAreEvents
looks_events (View.Working v, c) m' n h = subst
    (λ (m : SeatAndSlots). IsWorkers Event.Look (Reply.Looked (n / 8) (n % 8)) (View.Working v) m.0) (sym h.1) (
      v.number,
      refl,
      refl,
      h.2,
    )
looks_events (_, c) m' n h = absurd h

takes_found_so : (v : WorkerView) (c : List (ℕ × Option Edition)) (version k n : ℕ) (b : Bool) (m' : SeatAndSlots)
    → TakesFound (v, c) (version, k) n b m'
    → ((held : ℕ) × IsWorkers Event.Take (Reply.Holds held) (View.Working v) m'.0) ⊎ IsWorkers Event.Take Reply.Late (View.Working v) m'.0
takes_found_so v c version k n true m' h =
    inl (version, subst (λ (m : SeatAndSlots). IsWorkers Event.Take (Reply.Holds version) (View.Working v) m.0) (sym h.2) (v.number, refl, refl, h.3))
takes_found_so v c version k n false m' h =
    inr (subst (λ (m : SeatAndSlots). IsWorkers Event.Take Reply.Late (View.Working v) m.0) (sym h.1) (v.number, refl, refl, h.2))

takes_as_so : (v : WorkerView) (c : List (ℕ × Option Edition)) (now : Worker) (n : ℕ) (m' : SeatAndSlots) → TakesAs v c now n m'
    → ((held : ℕ) × IsWorkers Event.Take (Reply.Holds held) (View.Working v) m'.0) ⊎ IsWorkers Event.Take Reply.Late (View.Working v) m'.0
takes_as_so v c (Worker.Looked version k) n m' h = takes_found_so v c version k n (is_open n version) m' h
takes_as_so v c _ n m' h = absurd h

pub takes_events : TakesAreEvents
takes_events (View.Working v, c) m' n h = takes_as_so v c v.now n m' h
takes_events (_, c) m' n h = absurd h

pub drops_events : DropsAreEvents
drops_events (View.Working v, c) m' h = elim h [
  | inl a ↦ subst (λ (m : SeatAndSlots). IsWorkers Event.Drop Reply.Dropped (View.Working v) m.0) (sym a.1) (v.number, refl, refl, a.2)
  | inr b ↦ subst (λ (m : SeatAndSlots). IsWorkers Event.Drop Reply.Dropped (View.Working v) m.0) (sym b.1) (v.number, refl, refl, b.2)
]
drops_events (_, c) m' h = elim h [ inl a ↦ absurd a | inr b ↦ absurd b ]

pub opens_events : OpensAreEvents
opens_events (View.Loading l, c) m' k h = (
  newest_of l,
  newest_of l + 1,
  subst (λ (m : SeatAndSlots).
      IsEvent (View.Loading l) (Event.Open (newest_of l)) (Reply.Opened (newest_of l + 1) k) m.0) (sym h.5) h.6,
)
opens_events (_, c) m' k h = absurd h

pub publishes_events : PublishesAreEvents
publishes_events (View.Loading l, c) m' version k h =
    subst (λ (m : SeatAndSlots). IsEvent (View.Loading l) Event.Publish (Reply.Published version) m.0) (sym h.1) h.2.0
publishes_events (_, c) m' version k h = absurd h

pub closes_events : ClosesAreEvents
closes_events (View.Loading l, c) m' k h = subst (λ (m : SeatAndSlots). IsEvent (View.Loading l) (Event.Close k) Reply.Closing m.0) (sym h.3) h.4.0
closes_events (_, c) m' k h = absurd h

collects_found_so : (l : LoaderView) (m' : SeatAndSlots) (k version n : ℕ) (b : Bool) → CollectsFound l k n b m'
    → IsEvent (View.Loading l) (Event.Collect k) Reply.Freed m'.0 ⊎ IsEvent (View.Loading l) (Event.Collect k) (Reply.Busy (n % 256)) m'.0
collects_found_so l m' k version n true h = inl (subst (λ (m : SeatAndSlots). IsEvent (View.Loading l) (Event.Collect k) Reply.Freed m.0) (sym h.2) h.3.0)
collects_found_so l m' k version n false h = inr (subst (λ (m : SeatAndSlots). IsEvent (View.Loading l) (Event.Collect k) (Reply.Busy (n % 256)) m.0) (sym h.1)
    h.2.0)

pub collects_events : CollectsAreEvents
collects_events (View.Loading l, c) m' k version n h = collects_found_so l m' k version n _ h
collects_events (_, c) m' k version n h = absurd h

pub spares_events : SpareTriesAreEvents
spares_events (View.Loading l, c) m' k h = elim h [
  | inl a ↦ subst (λ (m : SeatAndSlots). IsEvent (View.Loading l) (Event.Collect k) Reply.NotNow m.0) (sym a.1) a.2.0
  | inr b ↦ subst (λ (m : SeatAndSlots). IsEvent (View.Loading l) (Event.Collect k) Reply.NotNow m.0) (sym b.1) b.2.0
]
spares_events (_, c) m' k h = elim h [ inl a ↦ absurd a | inr b ↦ absurd b ]

-- what a late worker knows of its look
abbrev Passed : ℕ → View → Type 0
Passed version u = OfWorker u (λ v. (v.last ≡ version) × (v.passed ≡ true))

late_found : (v : WorkerView) (c : List (ℕ × Option Edition)) (version k n : ℕ) (b : Bool) (m' : SeatAndSlots)
    → TakesFound (v, c) (version, k) n b m' → ShowsLate k m'.0 → OfWorker m'.0 (λ x. (x.last ≡ v.last) × (x.passed ≡ true))
late_found v c version k n true m' h late = absurd (let z = subst (λ (m : SeatAndSlots). ShowsLate k m.0) h.2 late in cc)
late_found v c version k n false m' h late = subst (λ (m : SeatAndSlots). OfWorker m.0 (λ x. (x.last ≡ v.last) × (x.passed ≡ true))) (sym h.1) (refl, refl)

late_so : (u : View) (c : List (ℕ × Option Edition)) (m1 m2 : SeatAndSlots) (n word : ℕ) → Looks (u, c) n m1 → Takes m1 word m2
    → ShowsLate (n % 8) m2.0 → Passed (n / 8) m2.0
late_so (View.Working v) c m1 m2 n word look take late =
    let t : TakesFound (looked_at v n look.0, c) (n / 8, n % 8) word (is_open word (n / 8)) m2 =
    subst (λ (m : SeatAndSlots). Takes m word m2) look.1 take in
    late_found (looked_at v n look.0) c (n / 8) (n % 8) word (is_open word (n / 8)) m2 t late
late_so _ c m1 m2 n word look take late = absurd look

tells_so : (u : View) (version : ℕ) → Passed version u → (table : Shelved) (l : LoaderView) (i : ℕ) → KeepsRule table
    → IsLoader table l → get_elem? table.views i ≡ some u → version < l.current
tells_so (View.Working v) version p table l i r loads at = subst (λ n. n < l.current) p.0 ((looks_are table l i v r loads at).2 p.1)
tells_so _ version p table l i r loads at = absurd p

pub late_tells : LateTakesTell
late_tells m m1 m2 n word look take late table l i r loads at = tells_so m2.0 (n / 8) (late_so m.0 m.1 m1 m2 n word look take late) table l i r loads at

left_so : (u : View) (c : List (ℕ × Option Edition)) (version : ℕ) (m' : SeatAndSlots) → Passed version u → Leaves (u, c) m' → Passed version m'.0
left_so (View.Working v) c version m' p h = subst (λ (m : SeatAndSlots). Passed version m.0) (sym h.1) p
left_so _ c version m' p h = absurd p

rises_so : (u : View) (c : List (ℕ × Option Edition)) (version n : ℕ) (m' : SeatAndSlots) → Passed version u → Looks (u, c) n m' → version < n / 8
rises_so (View.Working v) c version n m' p h = subst (λ x. x < n / 8) p.0 (h.4 p.1)
rises_so _ c version n m' p h = absurd p

pub late_rises : LateTakesRise
late_rises m m1 m2 m3 m4 n word n' look take late leave again =
    rises_so m3.0 m3.1 (n / 8) n' m4 (left_so m2.0 m2.1 (n / 8) m3 (late_so m.0 m.1 m1 m2 n word look take late) leave) again
