-- What a worker holds stays: its slot is out, its shelf in use, and no event frees it.
use Rattle.std.proofs.Common.{◌≡◌, ◌≢◌, ℕ, suc, ◌+◌, ◌*◌, ◌<◌, ◌≤◌, List, [], ◌∷◌, length, set, Option, Some, slice_get, get_or, ap, sym, ◌∙◌}
use Rattle.std.proofs.Common.{subst, arith, refl, inl, inr}
use mathlib.Core.Option.{some, none}
use lib.ListN.{get_elem?}
use Rattle.reasoning.proofs.ListLemmas.{slice_get-set_other}
use Rattle.version_core.specs.declared.event.Event.{Event}
use Rattle.version_core.specs.declared.event.Reply.{Reply}
use Rattle.version_core.specs.declared.state.Shelf.{Shelf}
use Rattle.version_core.specs.declared.state.Worker.{Worker}
use Rattle.version_core.specs.Actors.{actor, NoneOf}
use Rattle.version_core.specs.State.{State, start}
use Rattle.version_core.specs.Steps.{Step, Holds}
use Rattle.version_core.specs.Runs.{Run}
use Rattle.version_core.specs.Invariants.{KeepsInvariants, version_of}
use Rattle.version_core.specs.Shown.{shelf_word}
use Rattle.version_core.proofs.Keeps.{start_kept, step_kept, held_known, stays_fits}
use Rattle.version_core.proofs.Runs.{run_kept, runs_part}
use Rattle.shelf_steps.specs.declared.views.WorkerView.{WorkerView}
use Rattle.shelf_steps.specs.declared.views.LoaderView.{LoaderView}
use Rattle.shelf_steps.specs.declared.views.View.{View}
use Rattle.shelf_steps.specs.EventHistory.{IsKnownBeginning, NeverFreed}
use Rattle.shelf_steps.specs.Seats.{WorkerFits}
use Rattle.shelf_steps.specs.Rule.{KeepsRule}
use Rattle.shelf_steps.specs.Laws.{Shelved, HoldersSlotsAreOut, FreeSlotsAreTheLoaders, HeldShelvesAreInUse, HeldShelvesStay}
use Rattle.shelf_steps.proofs.Courses.{kept_of}
use Rattle.shelf_steps.proofs.Works.{held_on}
use Rattle.shelf_steps.proofs.SlotsAfter.{slot_filled}
use Rattle.shelf_steps.proofs.WordsAfter.{few_counted}
use Rattle.shelf_steps.proofs.Says.{is_loader, loader_slots, shelf_is}

module _ (table : Shelved) (i k v : ℕ) (w : WorkerView) (r : KeepsRule table)
    (at : get_elem? table.views i ≡ some (View.Working w)) (now : w.now ≡ Worker.Holding k v) where
  fits : WorkerFits r.history w
  fits = (r.seats.each i (View.Working w) at).2

  kept : KeepsInvariants r.history.state
  kept = kept_of r.history r.goes

  here : slice_get r.history.state.workers w.number ≡ Some (Worker.Holding k v)
  here = fits.shows.now ∙ ap (λ (x : Worker). Some x) now

  stays : (w.number < 16) × (k < 8) × (1 ≤ get_or r.history.state.counts k 0)
  stays = stays_fits r.history.state w.number k kept (inr (v, here))

  stands : (y : Shelf) × (slice_get r.history.state.shelves k ≡ Some y) × (version_of y ≡ Some v)
  stands = held_on r.history.state.shelves k v (held_known r.history.state w.number k v kept here).0

  out_here : (get_elem? table.homes (16 * k + w.number) ≡ some none) × (r.loader.hand ≢ Some k)
  out_here =
      let f = slot_filled r.history.images r.history.state.workers r.loader.hand stands.0 k w.number v
      (get_elem? table.homes (16 * k + w.number)) stands.2 (r.slots k w.number stands.0 stands.1 stays.0) in
      (elim f.1 [ inl a ↦ absurd (a.3 here) | inr b ↦ b.0 ], f.0)

pub slots_are_out : HoldersSlotsAreOut
slots_are_out table l i k v w r loads at now =
    let z = out_here table i k v w r at now in
    (z.0, (λ q. z.1 (ap (λ (x : LoaderView). x.hand) (sym (is_loader table r 0 l loads)) ∙ q)))

pub spares_are : FreeSlotsAreTheLoaders
spares_are table l k w r loads free small = loader_slots table r 0 l loads k w Shelf.Free (shelf_is table r 0 l loads k Shelf.Free free) small

-- a word with a count is none that a collection expects
counted : (y : Shelf) (count version : ℕ) → 1 ≤ count → count ≤ 16 → shelf_word y count ≢ 512 + 65536 * version
counted Shelf.Free count version least few q = omega arith
counted _ count version least few q = omega arith

pub in_use : HeldShelvesAreInUse
in_use table l i k v version w r loads at now q =
    let s = stays table i k v w r at now in let y = stands table i k v w r at now in
    counted y.0 (get_or r.history.state.counts k 0) version s.2
    (few_counted r.history.state k (kept table i k v w r at now) s.1) (sym (r.words.each k y.0 y.1) ∙ q)

-- what another worker does is left alone
other_stays : (s : State) (u w : ℕ) (now : Worker) → Some u ≢ Some w → slice_get (set s.workers u now) w ≡ slice_get s.workers w
other_stays s u w now ne = slice_get-set_other s.workers u w now (λ q. ne (ap (λ n. Some n) (sym q)))

abbrev worker_in : ℕ → State → Option Worker
worker_in w s = slice_get s.workers w

step_others : (s t : State) (e : Event) (r : Reply) (w : ℕ) → actor e ≢ Some w → Step s e r t → slice_get t.workers w ≡ slice_get s.workers w
step_others s t (Event.Look u) (Reply.Looked v k) w ne h = ap (worker_in w) h.3 ∙ other_stays s u w _ ne
step_others s t (Event.Take u) (Reply.Holds v) w ne h = ap (worker_in w) h.3 ∙ other_stays s u w _ ne
step_others s t (Event.Take u) Reply.Late w ne h = ap (worker_in w) h.4 ∙ other_stays s u w _ ne
step_others s t (Event.Drop u) Reply.Dropped w ne h = ap (worker_in w) h.2 ∙ other_stays s u w _ ne
step_others s t (Event.Open i) (Reply.Opened v k) w ne h = ap (worker_in w) h.3
step_others s t (Event.Open i) (Reply.NoRoom counts) w ne h = ap (worker_in w) h.3
step_others s t Event.Publish (Reply.Published v) w ne h = ap (worker_in w) h.2
step_others s t (Event.Close k) Reply.Closing w ne h = ap (worker_in w) h.2
step_others s t (Event.Collect k) Reply.Freed w ne h = ap (worker_in w) h.3
step_others s t (Event.Collect k) (Reply.Busy count) w ne h = ap (worker_in w) h.4
step_others s t (Event.Ask u) (Reply.From v i) w ne h = ap (worker_in w) h.3
step_others s t Event.Note (Reply.Noted v) w ne h = ap (worker_in w) h.1
step_others s t (Event.Join u v) (Reply.Joined seen) w ne h = ap (worker_in w) h.2.2
step_others s t Event.Note Reply.NotNow w ne h = absurd h
step_others s t _ Reply.NotNow w ne h = ap (worker_in w) h.1
step_others s t _ _ w ne h = absurd h

-- one event more in front, which frees no shelf that a worker holds
step_busy : (s t : State) (e : Event) (k v w : ℕ) (r : Reply) (es : List Event) (rs : List Reply) → KeepsInvariants s → Holds s w k v
    → Step s e r t → NeverFreed k es rs → NeverFreed k (e ∷ es) (r ∷ rs)
step_busy s t (Event.Collect j) k v w Reply.Freed es rs fit holds h never = (
  (λ e. let a = (stays_fits s w k fit (inr (v, holds))).2 in let b = h.2 in
      let c : get_or s.counts k 0 ≡ 0 = ap (λ n. get_or s.counts n 0) (sym e) ∙ b in omega arith),
  never,
)
step_busy s t _ k v w _ es rs fit holds h never = never

-- who holds a shelf at the end of events of others held it all along, and nothing freed it
held_along : (s t : State) (es : List Event) (rs : List Reply) (w k v : ℕ) → KeepsInvariants s → Run s es rs t → NoneOf (Some w) es → Holds t w k v
    → Holds s w k v × NeverFreed k es rs × (length rs ≡ length es)
held_along s t [] [] w k v fit run apart' holds = (ap (λ (x : State). slice_get x.workers w) (sym run) ∙ holds, tt, refl)
held_along s t (e ∷ es) (r ∷ rs) w k v fit run apart' holds =
    let z = held_along run.0 t es rs w k v (step_kept s e r run.0 fit run.1) run.2 apart'.1 holds in
    let before : Holds s w k v = sym (step_others s run.0 e r w apart'.0 run.1) ∙ z.0 in
    (before, step_busy s run.0 e k v w r es rs fit before run.1 z.1, ap (λ n. suc n) z.2)
held_along s t _ _ w k v fit run apart' holds = absurd run

pub held_stay : HeldShelvesStay
held_stay table i k v w r at now =
    let c = r.history in
    let b : IsKnownBeginning w.known (Some w.number) c = (fits table i k v w r at now).known in
    let rest = b.events.0 in
    let p = runs_part start c.state w.known.events rest c.replies
    (subst (λ (es : List Event). Run start es c.replies c.state) (sym b.events.1) r.goes.run) in
    let z = held_along p.0 c.state rest p.2 w.number k v (run_kept start w.known.events p.1 p.0 start_kept p.4) p.5
    b.events.2 (here table i k v w r at now) in
    record {
      events = rest;
      replies = p.2;
      first = p.1;
      since = b.events.1;
      answered = sym p.3;
      as_many = z.2;
      never = z.1;
    }
