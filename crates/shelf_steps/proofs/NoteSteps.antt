-- A notice that goes out, and one that is taken in, keep the rule, and each is one event.
use Rattle.std.proofs.Common.{◌≡◌, ◌≢◌, ℕ, ◌+◌, ◌<◌, ◌==◌, true, false}
use Rattle.std.proofs.Common.{max, List, [], ◌∷◌, ◌++◌, length, set, get_or, remove, Some, None, slice_get, refl, ap, sym, ◌∙◌}
use Rattle.std.proofs.Common.{subst, arith, get_or-set_same, get_or-set_other, inl, inr, ⊎_elim}
use Rattle.std.proofs.lemmas.Bool.Decides.{nat_tests}
use Rattle.std.proofs.lemmas.Option.{slice_get_within}
use mathlib.Core.Option.{some}
use lib.ListN.{get_elem?}
use Rattle.atomic_table.specs.Table.{Splits, Joins}
use Rattle.atomic_table.proofs.Lists.{at_set, set_else, at_longer}
use Rattle.version_core.specs.Actors.{no_actor, actor}
use Rattle.version_core.specs.declared.event.Event.{Event}
use Rattle.version_core.specs.declared.event.Reply.{Reply}
use Rattle.version_core.specs.declared.state.Worker.{Worker}
use Rattle.version_core.specs.State.{State, noted, joined}
use Rattle.version_core.specs.Steps.{Step, IsSettled}
use Rattle.version_core.specs.Invariants.{KeepsInvariants}
use Rattle.version_core.proofs.Rising.{most_left}
use Rattle.shelf_steps.specs.declared.views.WorkerView.{WorkerView}
use Rattle.shelf_steps.specs.declared.views.LoaderView.{LoaderView}
use Rattle.shelf_steps.specs.declared.views.View.{View}
use Rattle.shelf_steps.specs.EventHistory.{EventHistory, extended, IsKnownBeginning, note_of, join_of, joined_by, HasDoneNothing}
use Rattle.shelf_steps.specs.Seats.{WorkerFits, LoaderFits, SeatFits, SeatsFit}
use Rattle.shelf_steps.specs.Rule.{KeepsRule, notices_of}
use Rattle.shelf_steps.specs.Laws.{Shelved}
use Rattle.shelf_steps.specs.Plays.{SeatAndSlots, with_note, gives_notice, new_notice, with_seen, joins_notice, IsLoading, ShowsSettled, IsNotice}
use Rattle.shelf_steps.specs.Events.{NotesAreEvents, JoinsAreEvents}
use Rattle.shelf_steps.proofs.Courses.{kept_of, joined_snoc, joined_same, nothing_snoc, begins_longer, goes_same, prefix_same, loader_apart, other_fits}
use Rattle.shelf_steps.proofs.Frames.{seats_differ, worker_moves, loader_moves}
use Rattle.shelf_steps.proofs.Says.{loader_knows, loader_slots}
use Rattle.shelf_steps.proofs.NoteLists.{notices_worker, notices_loader, notices_more, notices_less}
use Rattle.shelf_steps.proofs.Opens.{at_end}

-- an event that is nobody's
module _ (table : Shelved) (r : KeepsRule table) (e : Event) (reply : Reply) (t : State) (whose : actor e ≡ no_actor)
    (current : t.current ≡ r.history.state.current) (current_shelf : t.current_shelf ≡ r.history.state.current_shelf)
    (shelves : t.shelves ≡ r.history.state.shelves) (editions : t.editions ≡ r.history.state.editions) where
  not_loaders : actor e ≢ None
  not_loaders q = let z : Some 16 ≡ None = sym whose ∙ q in cc

  not_of : (u : ℕ) → u < 16 → actor e ≢ Some u
  not_of u small q = let z : Some 16 ≡ Some u = sym whose ∙ q in let same : 16 ≡ u = cc in omega arith

  number_small : (u : WorkerView) → WorkerFits r.history u → u.number < 16
  number_small u f = let l = slice_get_within r.history.state.workers u.number u.now f.shows.now in let z = (kept_of r.history r.goes).workers.sixteen in
      omega arith

  known_on : (u : WorkerView) → WorkerFits r.history u → IsKnownBeginning u.known (Some u.number) (extended r.history e reply t r.history.images)
  known_on u f = begins_longer r.history e reply t r.history.images u.known (Some u.number) (not_of u.number (number_small u f))
      (prefix_same r.history.images) f.known

  loader_on : (l : LoaderView) (count : ℕ) → count ≡ l.notes + note_of e → LoaderFits r.history l
      → LoaderFits (extended r.history e reply t r.history.images) (record l { notes = count })
  loader_on l count counted f = loader_apart r.history e reply t l count not_loaders current current_shelf shelves editions counted f

  worker_on : (u : WorkerView) → slice_get t.workers u.number ≡ slice_get r.history.state.workers u.number
      → get_or t.seen u.number 0 ≡ get_or r.history.state.seen u.number 0 → join_of u.number e ≡ [] → WorkerFits r.history u
      → WorkerFits (extended r.history e reply t r.history.images) u
  worker_on u now seen none f = other_fits r.history (extended r.history e reply t r.history.images) u now seen (omega arith) (prefix_same r.history.images)
      (known_on u f) (joined_same u.number r.history.events e none) f

  unmoved_on : (w : ℕ) → w < 16 → join_of w e ≡ [] → HasDoneNothing w r.history.events → HasDoneNothing w (extended r.history e reply t r.history.images).events
  unmoved_on w small none h = nothing_snoc w r.history.events e (not_of w small) none h

-- a seat more, which is a notice's
seat_more : (c : EventHistory) (views : List View) (loader : LoaderView) (n : ℕ) → SeatsFit c views loader → SeatsFit c (views ++ View.Noting n ∷ []) loader
seat_more c views loader n fit = record {
  owner = fit.owner;
  loader_seat = at_longer views (View.Noting n ∷ []) 0 (View.Loading loader) fit.loader_seat;
  loads = fit.loads;
  few = fit.few;
  each = λ seat u e. ⊎_elim
      (λ (old : get_elem? views seat ≡ some u). fit.each seat u old)
      (λ (q : (seat ≡ length views) × (View.Noting n ≡ u)). subst (λ (x : View). SeatFits c loader fit.owner seat x) q.1 tt)
      (at_end views (View.Noting n) u seat e);
  every = λ w less. let o = fit.every w less in (o.0, o.1, at_longer views (View.Noting n ∷ []) (fit.owner w) (View.Working o.0) o.2);
  unseated = fit.unseated;
}

-- a notice's seat is left spent
seat_spent : (c : EventHistory) (views : List View) (loader : LoaderView) (other n : ℕ) → get_elem? views other ≡ some (View.Noting n) → SeatsFit c views loader
    → SeatsFit c (set views other View.Spent) loader
seat_spent c views loader other n at fit = record {
  owner = fit.owner;
  loader_seat = set_else views other 0 View.Spent (seats_differ views 0 other (View.Loading loader) (View.Noting n) fit.loader_seat at (λ q. cc))
      ∙ fit.loader_seat;
  loads = fit.loads;
  few = fit.few;
  each = λ seat u e. ⊎_elim
      (λ (q : (seat ≡ other) × (View.Spent ≡ u)). subst (λ (x : View). SeatFits c loader fit.owner seat x) q.1 tt)
      (λ (q : (seat ≢ other) × (get_elem? views seat ≡ some u)). fit.each seat u q.1)
      (at_set views other seat View.Spent u e);
  every = λ w less. let o = fit.every w less in (
    o.0,
    o.1,
    set_else views other (fit.owner w) View.Spent
        (seats_differ views (fit.owner w) other (View.Working o.0) (View.Noting n) o.2 at (λ q. cc)) ∙ o.2,
  );
  unseated = fit.unseated;
}

pub notes_events : NotesAreEvents
notes_events table id l r at =
    let s : State = r.history.state in
    let knows = loader_knows table r id l at in
    let e : Event = Event.Note in let reply : Reply = Reply.Noted l.current in let t : State = noted s in
    let is_step : Step s e reply t = (knows.shows.current, refl) in
    let d : EventHistory = extended r.history e reply t r.history.images in
    let l' : LoaderView = with_note l in
    let views : List View = set table.views id (View.Loading l') in
    let moved : SeatsFit d views l' = loader_moves r.history d table.views r.loader r.seats id l l' at refl (λ u f.
    worker_on table r e reply t refl refl refl refl refl u refl refl refl f)
    (loader_on table r e reply t refl refl refl refl refl l (l.notes + 1) refl knows) refl refl (λ w small h.
    unmoved_on table r e reply t refl refl refl refl refl w small refl h) in (
      record {
        history = d;
        loader = l';
        goes = goes_same r.history e reply t r.goes is_step tt refl;
        words = record { nine = r.words.nine; cur = r.words.cur; each = r.words.each };
        seats = seat_more d views l' l.current moved;
        notices = notices_more views (View.Noting l.current) ∙ (λ i. (notices_loader table.views id l l' at ∙ r.notices) i ++ knows.shows.current i ∷ []);
        slots = loader_slots table r id l at;
      },
      refl,
    )

-- a settled worker, as the state has it
settled_so : (s : State) (v : WorkerView) → slice_get s.workers v.number ≡ Some v.now → ShowsSettled (View.Working v) → IsSettled s v.number
settled_so s v here settled = elim settled [
  | inl a ↦ inl (here ∙ ap (λ (x : Worker). Some x) a)
  | inr b ↦ inr (b.0, b.1, here ∙ ap (λ (x : Worker). Some x) b.2)
]

-- a join is of its own worker alone
own_join : (w n : ℕ) → join_of w (Event.Join w n) ≡ n ∷ []
own_join w n = let t : (w == w) ≡ true = grind (arith, nat_tests) in rw t refl

others_join : (w u n : ℕ) → u ≢ w → join_of u (Event.Join w n) ≡ []
others_join w u n ne = let t : (w == u) ≡ false = grind (arith, nat_tests) in rw t refl

pub joins_events : JoinsAreEvents
joins_events table id other n v r at settled at' =
    let s : State = r.history.state in let w = v.number in
    let kept : KeepsInvariants s = kept_of r.history r.goes in
    let f : WorkerFits r.history v = (r.seats.each id (View.Working v) at).2 in
    let v' : WorkerView = with_seen v n in
    let views : List View = set table.views id (View.Working v') in
    let there : get_elem? views other ≡ some (View.Noting n) = set_else table.views id other (View.Working v')
    (seats_differ table.views other id (View.Noting n) (View.Working v) at' at (λ q. cc)) ∙ at' in
    let same : notices_of views ≡ s.notices = notices_worker table.views id v v' at ∙ r.notices in
    let less = notices_less views other n there in let index = less.0 in
    let is_noted : slice_get s.notices index ≡ Some n = ap (λ (xs : List ℕ). slice_get xs index) (sym same) ∙ less.1 in
    let more : max (get_or s.seen w 0) n ≡ max v.seen n = ap (λ m. max m n) f.shows.seen in
    let e : Event = Event.Join w n in let reply : Reply = Reply.Joined (max v.seen n) in let t : State = joined s w n index in
    let is_step : Step s e reply t = (settled_so s v f.shows.now settled, sym more, (index, is_noted, refl)) in
    let d : EventHistory = extended r.history e reply t r.history.images in
    let within = slice_get_within s.workers w v.now f.shows.now in let many = kept.workers.sixteen in let many' = kept.workers.sixteen_seen in
    let low : w < 16 = omega arith in
    let fits : WorkerFits d v' = record {
      shows = record { now = f.shows.now; seen = get_or-set_same s.seen w (max (get_or s.seen w 0) n) 0 (omega arith) ∙ more };
      last = (f.last.0, (let a = f.last.1 in let b = most_left v.seen n in omega arith));
      passed = f.passed;
      edition = f.edition;
      known = known_on table r e reply t refl refl refl refl refl v f;
      joined = (λ i. f.joined i ++ n ∷ []) ∙ sym (joined_snoc w r.history.events e ∙ ap (λ (l : List ℕ). joined_by w r.history.events ++ l) (own_join w n));
    } in
    let rest : (j : ℕ) → j ≢ w → (slice_get t.workers j ≡ slice_get s.workers j)
    × (get_or t.seen j 0 ≡ get_or s.seen j 0) = λ j ne. (refl, get_or-set_other s.seen w j (max (get_or s.seen w 0) n) 0 ne) in
    let moved : SeatsFit d views r.loader = worker_moves r.history d table.views r.loader r.seats id v v' at refl
    (λ u ne g. worker_on table r e reply t refl refl refl refl refl u refl (rest u.number ne).1 (others_join w u.number n ne) g)
    (loader_on table r e reply t refl refl refl refl refl r.loader r.loader.notes (omega arith) r.seats.loads) rest (λ j small ne h.
    unmoved_on table r e reply t refl refl refl refl refl j small (others_join w j n ne) h) fits in (
      record {
        history = d;
        loader = r.loader;
        goes = goes_same r.history e reply t r.goes is_step low refl;
        words = record { nine = r.words.nine; cur = r.words.cur; each = r.words.each };
        seats = seat_spent d views r.loader other n there moved;
        notices = less.2 ∙ ap (λ (xs : List ℕ). remove xs index) same;
        slots = r.slots;
      },
      (index, refl),
    )

pub note_splits : (id : ℕ) (u : View) → IsLoading u → Splits KeepsRule id u (gives_notice u) (new_notice u)
note_splits id (View.Loading l) loads table r at = (notes_events table id l r at).0
note_splits id _ loads table r at = absurd loads

joins_as : (id other n : ℕ) (u : View) → ShowsSettled u → Joins KeepsRule id u other (View.Noting n) (joins_notice u (View.Noting n)) View.Spent
joins_as id other n (View.Working v) settled table r at apart there =
    (joins_events table id other n v r at settled (sym (set_else table.views id other (View.Working (with_seen v n)) apart) ∙ there)).0
joins_as id other n _ settled table r at apart there = absurd settled

pub note_joins : (id other n : ℕ) (u : View) (m : SeatAndSlots) → ShowsSettled u → IsNotice n m → Joins KeepsRule id u other m.0 (joins_notice u m.0) View.Spent
note_joins id other n u m settled is = subst (λ (x : SeatAndSlots). Joins KeepsRule id u other x.0 (joins_notice u x.0) View.Spent) (sym is)
    (joins_as id other n u settled)
