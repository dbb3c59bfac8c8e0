-- Each step keeps what holds in every state.
use Rattle.std.proofs.Common.{◌≡◌, ◌≢◌, ℕ, ◌+◌, ◌<◌, ◌≤◌, ◌==◌, Bool, true, false, MatchBool, length, ◌++◌, ◌∷◌, [], get_or, Some, slice_get, refl, ap, sym}
use Rattle.std.proofs.Common.{◌∙◌, subst, arith, rules, ◌⊎◌, inl, inr, length-append}
use Rattle.std.proofs.lemmas.Option.{slice_get_within}
use Rattle.reasoning.proofs.OrderLemmas.{own_equal}
use Rattle.version_core.specs.declared.state.Shelf.{Shelf}
use Rattle.version_core.specs.declared.state.Worker.{Worker}
use Rattle.version_core.specs.declared.event.Event.{Event}
use Rattle.version_core.specs.declared.event.Reply.{Reply}
use Rattle.version_core.specs.State.{State, most_versions, start, newest, looked, arrived, departed, opened, published, shelved, noted, joined}
use Rattle.version_core.specs.Steps.{IsIdle, HasLooked, Holds, StaysAt, IsFree, IsOpen, IsClosing, IsUnpublished, IsOutdated, MayOpen, Step, LookStep}
use Rattle.version_core.specs.Steps.{TakeStep, DropStep, OpenStep, PublishStep, CloseStep, CollectStep, AskStep, NoteStep, JoinStep, IsSettled}
use Rattle.version_core.specs.Invariants.{KeepsInvariants, Fits, is_at, version_on}
use Rattle.version_core.proofs.Shelves.{version_at, shelves_open, opening_stays, shelves_publish, shelves_close, closing_stays, shelves_free, none_unpublished}
use Rattle.version_core.proofs.Counts.{counts_stay, counts_rise, counts_fall, counted_at, no_one_at}
use Rattle.version_core.proofs.Workers.{workers_go_on, workers_look, workers_stay, workers_later, workers_away, workers_see}
use Rattle.version_core.proofs.Rising.{most_left, most_least, rise_later, rise_more, rise_less, rise_at}

pub start_kept : KeepsInvariants start
start_kept = search rules

pub look_kept : (s : State) (w : ℕ) → KeepsInvariants s → IsIdle s w → KeepsInvariants (looked s w)
look_kept s w kept idle =
    let within = slice_get_within s.shelves s.current_shelf _ kept.shelves.current_open in let l = kept.shelves.eight in
    record {
      room = kept.room;
      shelves = kept.shelves;
      counts = counts_stay s.counts s.workers w Worker.Idle (Worker.Looked s.current s.current_shelf) kept.counts idle (λ i. refl) (λ i. refl);
      workers = workers_look s.current s.current_shelf s.shelves s.workers s.seen w kept.workers idle (omega arith);
      notices = kept.notices;
    }

-- what is known of a worker that has looked
pub looked_fits : (s : State) (w v k : ℕ) → KeepsInvariants s → HasLooked s w v k
    → (w < 16) × (k < 8) × (get_or s.seen w 0 ≡ v) × (v ≤ s.current) × (v ≡ s.current → k ≡ s.current_shelf)
looked_fits s w v k kept has =
    let f = kept.workers.each w (Worker.Looked v k) has in let l = slice_get_within s.workers w _ has in let e = kept.workers.sixteen in
    (omega arith, f.0, f.1, f.2, f.3)

arrived_kept : (s : State) (w v k : ℕ) (now : Worker) → KeepsInvariants s → HasLooked s w v k → ((i : ℕ) → is_at i now ≡ (k == i))
    → Fits s.current s.current_shelf s.shelves now (get_or s.seen w 0) → KeepsInvariants (arrived s w k now)
arrived_kept s w v k now kept has there fits = record {
  room = kept.room;
  shelves = kept.shelves;
  counts = counts_rise s.counts s.workers w k (Worker.Looked v k) now kept.counts (looked_fits s w v k kept has).1 has (λ i. refl) there;
  workers = workers_go_on s.current s.current_shelf s.shelves s.workers s.seen w (Worker.Looked v k) now kept.workers has fits;
  notices = kept.notices;
}

pub arrive_in_time_kept : (s : State) (w v k : ℕ) → KeepsInvariants s → HasLooked s w v k → IsOpen s k v → KeepsInvariants (arrived s w k (Worker.Holding k v))
arrive_in_time_kept s w v k kept has stands =
    let f = looked_fits s w v k kept has in let a = f.2 in let b = f.3 in
    arrived_kept s w v k (Worker.Holding k v) kept has (λ i. refl) (f.1, version_at s.shelves k (Shelf.Open v) stands, (omega arith), (omega arith))

-- the current version is always there, so that who is late has seen an older one
pub arrive_late_kept : (s : State) (w v k : ℕ) → KeepsInvariants s → HasLooked s w v k → ¬ (IsOpen s k v) → KeepsInvariants (arrived s w k (Worker.Late k))
arrive_late_kept s w v k kept has gone =
    let f = looked_fits s w v k kept has in let a = f.2 in let b = f.3 in
    let never : v ≢ s.current = λ e. gone (ap (λ n. slice_get s.shelves n) (f.4 e) ∙ (kept.shelves.current_open ∙ ap (λ n. Some (Shelf.Open n)) (sym e))) in
    arrived_kept s w v k (Worker.Late k) kept has (λ i. refl) (f.1, (omega arith))

-- what is known of a worker that is at a shelf
pub stays_fits : (s : State) (w k : ℕ) → KeepsInvariants s → StaysAt s w k → (w < 16) × (k < 8) × (1 ≤ get_or s.counts k 0)
stays_fits s w k kept stays =
    let e = kept.workers.sixteen in
    elim stays [
      | inl a ↦ (let l = slice_get_within s.workers w _ a in let f =
          kept.workers.each w (Worker.Late k) a in (
            omega arith,
            f.0,
            counted_at s.counts s.workers w k (Worker.Late k)
                kept.counts f.0 a (own_equal k),
          ))
      | inr b ↦ (let v = b.0 in let l = slice_get_within s.workers w _ b.1 in let f =
          kept.workers.each w
          (Worker.Holding k v) b.1 in (
            omega arith,
            f.0,
            counted_at s.counts s.workers w k
                (Worker.Holding k v) kept.counts f.0
                b.1 (own_equal k),
          ))
    ]

departed_kept : (s : State) (w k : ℕ) (was : Worker) → KeepsInvariants s → k < 8 → slice_get s.workers w ≡ Some was
    → ((i : ℕ) → is_at i was ≡ (k == i)) → get_or s.seen w 0 ≤ s.current → KeepsInvariants (departed s w k)
departed_kept s w k was kept small here there seen = record {
  room = kept.room;
  shelves = kept.shelves;
  counts = counts_fall s.counts s.workers w k was kept.counts small here there;
  workers = workers_go_on s.current s.current_shelf s.shelves s.workers s.seen w was Worker.Idle kept.workers here seen;
  notices = kept.notices;
}

pub depart_kept : (s : State) (w k : ℕ) → KeepsInvariants s → StaysAt s w k → KeepsInvariants (departed s w k)
depart_kept s w k kept stays =
    elim stays [
      | inl a ↦ (let f = kept.workers.each w (Worker.Late k) a in let q = f.1 in departed_kept s w k (Worker.Late k) kept f.0 a (λ i. refl) (omega arith))
      | inr b ↦ (let f = kept.workers.each w (Worker.Holding k b.0) b.1 in departed_kept s w k (Worker.Holding k b.0) kept f.0 b.1 (λ i. refl) f.3)
    ]

-- nothing waits to be published exactly where the newest version is current
pub none_waits : (s : State) → KeepsInvariants s → newest s ≡ s.current → (k v : ℕ) → ¬ (IsUnpublished s k v)
none_waits s kept rest k v new = none_unpublished s.current s.current_shelf (newest s) s.shelves kept.shelves rest k v new.0 new.1

pub newest_is_current : (s : State) → KeepsInvariants s → ((k v : ℕ) → ¬ (IsUnpublished s k v)) → newest s ≡ s.current
newest_is_current s kept none = elim kept.shelves.newest_open [ inl a ↦ a | inr b ↦ absurd (none b.1.0 (newest s) (b.1.1, (let q = b.0 in omega arith))) ]

pub may_open_where : (s : State) (few : Bool) → KeepsInvariants s → newest s ≡ s.current → (few ≡ true → newest s < most_versions)
    → (few ≡ false → ¬ (newest s < most_versions)) → MatchBool few (MayOpen s) (¬ (MayOpen s))
may_open_where s true kept rest fewer more = (none_waits s kept rest, fewer refl)
may_open_where s false kept rest fewer more = λ may. more refl may.1

pub open_kept : (s : State) (k e : ℕ) → KeepsInvariants s → MayOpen s → IsFree s k → KeepsInvariants (opened s k e)
open_kept s k e kept may free =
    let few = may.1 in
    let longer : length (s.editions ++ e ∷ []) ≡ newest s + 1 = omega (arith, length-append s.editions (e ∷ [])) in
    record {
      room = omega arith;
      shelves = rw longer (shelves_open s.current s.current_shelf (newest s) k s.shelves kept.shelves (newest_is_current s kept may.0) free);
      counts = kept.counts;
      workers = workers_stay s.current s.current_shelf s.shelves _ s.workers s.seen
          (λ j v has. opening_stays s.shelves k (newest s + 1) j v free has) kept.workers;
      notices = kept.notices;
    }

pub publish_kept : (s : State) (k v : ℕ) → KeepsInvariants s → IsUnpublished s k v → KeepsInvariants (published s k v)
publish_kept s k v kept new = record {
  room = kept.room;
  shelves = shelves_publish s.current s.current_shelf (newest s) k v s.shelves kept.shelves new.0 new.1;
  counts = kept.counts;
  workers = workers_later s.current s.current_shelf v k s.shelves s.workers s.seen new.1 kept.workers;
  notices = rise_later 0 s.notices s.current v kept.notices (let up = new.1 in omega arith);
}

below : (v n : ℕ) → v ≢ n → ¬ (n < v) → v < n
below v n other not = omega arith

pub close_kept : (s : State) (k v : ℕ) → KeepsInvariants s → IsOutdated s k v → KeepsInvariants (shelved s k (Shelf.Closing v))
close_kept s k v kept outdated =
    let not = outdated.1 in
    let old : v < s.current = below v s.current not (λ later. outdated.2 (outdated.0, later)) in
    record {
      room = kept.room;
      shelves = shelves_close s.current s.current_shelf (newest s) k v s.shelves kept.shelves outdated.0 old;
      counts = kept.counts;
      workers = workers_stay s.current s.current_shelf s.shelves _ s.workers s.seen (λ j x has. closing_stays s.shelves k v j x outdated.0 has) kept.workers;
      notices = kept.notices;
    }

pub free_kept : (s : State) (k v : ℕ) → KeepsInvariants s → IsClosing s k v → get_or s.counts k 0 ≡ 0 → KeepsInvariants (shelved s k Shelf.Free)
free_kept s k v kept closing none =
    let within = slice_get_within s.shelves k _ closing in let l = kept.shelves.eight in
    record {
      room = kept.room;
      shelves = shelves_free s.current s.current_shelf (newest s) k v s.shelves kept.shelves closing;
      counts = kept.counts;
      workers = workers_away s.current s.current_shelf k s.shelves Shelf.Free s.workers s.seen
          (no_one_at s.counts s.workers k kept.counts (omega arith) none) kept.workers;
      notices = kept.notices;
    }

pub note_kept : (s : State) → KeepsInvariants s → KeepsInvariants (noted s)
note_kept s kept = record {
  room = kept.room;
  shelves = kept.shelves;
  counts = kept.counts;
  workers = kept.workers;
  notices = rise_more 0 s.notices s.current
      kept.notices;
}

see_kept : (s : State) (w v index : ℕ) (was : Worker) → KeepsInvariants s → slice_get s.workers w ≡ Some was → (was ≡ Worker.Idle) ⊎ ((k x : ℕ)
    × (was ≡ Worker.Holding k x)) → get_or s.seen w 0 ≤ s.current
    → slice_get s.notices index ≡ Some v → KeepsInvariants (joined s w v index)
see_kept s w v index was kept here so seen there = record {
  room = kept.room;
  shelves = kept.shelves;
  counts = kept.counts;
  workers = workers_see s.current s.current_shelf s.shelves s.workers s.seen w _ was kept.workers here so (most_left _ v) (most_least _ v s.current seen
      (rise_at 0 s.notices s.current index v kept.notices there).1);
  notices = rise_less 0 s.notices s.current index v kept.notices there;
}

pub join_kept : (s : State) (w v index : ℕ) → KeepsInvariants s → IsSettled s w → slice_get s.notices index ≡ Some v → KeepsInvariants (joined s w v index)
join_kept s w v index kept settled there =
    elim settled [
      | inl a ↦ see_kept s w v index Worker.Idle kept a (inl refl) (kept.workers.each w Worker.Idle a) there
      | inr b ↦ see_kept s w v index (Worker.Holding b.0 b.1) kept b.2 (inr (b.0, b.1, refl)) (kept.workers.each w (Worker.Holding b.0 b.1) b.2).3 there
    ]

-- a worker that is idle or holds a version has its place
pub settled_small : (s : State) (w : ℕ) → KeepsInvariants s → IsSettled s w → w < 16
settled_small s w kept settled =
    let e = kept.workers.sixteen in
    elim settled [ inl a ↦ (let l = slice_get_within s.workers w _ a in omega arith) | inr b ↦ (let l = slice_get_within s.workers w _ b.2 in omega arith) ]

look_step_kept : (s : State) (w : ℕ) (r : Reply) (t : State) → KeepsInvariants s → LookStep s w r t → KeepsInvariants t
look_step_kept s w (Reply.Looked v k) t kept h = subst KeepsInvariants (sym h.3) (look_kept s w kept h.0)
look_step_kept s w Reply.NotNow t kept h = subst KeepsInvariants (sym h.1) kept
look_step_kept s w _ t kept h = absurd h

take_step_kept : (s : State) (w : ℕ) (r : Reply) (t : State) → KeepsInvariants s → TakeStep s w r t → KeepsInvariants t
take_step_kept s w (Reply.Holds v) t kept h = subst KeepsInvariants (sym h.3) (arrive_in_time_kept s w v h.0 kept h.1 h.2)
take_step_kept s w Reply.Late t kept h = subst KeepsInvariants (sym h.4) (arrive_late_kept s w h.0 h.1 kept h.2 h.3)
take_step_kept s w Reply.NotNow t kept h = subst KeepsInvariants (sym h.1) kept
take_step_kept s w _ t kept h = absurd h

drop_step_kept : (s : State) (w : ℕ) (r : Reply) (t : State) → KeepsInvariants s → DropStep s w r t → KeepsInvariants t
drop_step_kept s w Reply.Dropped t kept h = subst KeepsInvariants (sym h.2) (depart_kept s w h.0 kept h.1)
drop_step_kept s w Reply.NotNow t kept h = subst KeepsInvariants (sym h.1) kept
drop_step_kept s w _ t kept h = absurd h

open_step_kept : (s : State) (e : ℕ) (r : Reply) (t : State) → KeepsInvariants s → OpenStep s e r t → KeepsInvariants t
open_step_kept s e (Reply.Opened v k) t kept h = subst KeepsInvariants (sym h.3) (open_kept s k e kept h.0 h.1)
open_step_kept s e (Reply.NoRoom counts) t kept h = subst KeepsInvariants (sym h.3) kept
open_step_kept s e Reply.NotNow t kept h = subst KeepsInvariants (sym h.1) kept
open_step_kept s e _ t kept h = absurd h

publish_step_kept : (s : State) (r : Reply) (t : State) → KeepsInvariants s → PublishStep s r t → KeepsInvariants t
publish_step_kept s (Reply.Published v) t kept h = subst KeepsInvariants (sym h.2) (publish_kept s h.0 v kept h.1)
publish_step_kept s Reply.NotNow t kept h = subst KeepsInvariants (sym h.1) kept
publish_step_kept s _ t kept h = absurd h

close_step_kept : (s : State) (k : ℕ) (r : Reply) (t : State) → KeepsInvariants s → CloseStep s k r t → KeepsInvariants t
close_step_kept s k Reply.Closing t kept h = subst KeepsInvariants (sym h.2) (close_kept s k h.0 kept h.1)
close_step_kept s k Reply.NotNow t kept h = subst KeepsInvariants (sym h.1) kept
close_step_kept s k _ t kept h = absurd h

collect_step_kept : (s : State) (k : ℕ) (r : Reply) (t : State) → KeepsInvariants s → CollectStep s k r t → KeepsInvariants t
collect_step_kept s k Reply.Freed t kept h = subst KeepsInvariants (sym h.3) (free_kept s k h.0 kept h.1 h.2)
collect_step_kept s k (Reply.Busy count) t kept h = subst KeepsInvariants (sym h.4) kept
collect_step_kept s k Reply.NotNow t kept h = subst KeepsInvariants (sym h.1) kept
collect_step_kept s k _ t kept h = absurd h

ask_step_kept : (s : State) (w : ℕ) (r : Reply) (t : State) → KeepsInvariants s → AskStep s w r t → KeepsInvariants t
ask_step_kept s w (Reply.From v e) t kept h = subst KeepsInvariants (sym h.3) kept
ask_step_kept s w Reply.NotNow t kept h = subst KeepsInvariants (sym h.1) kept
ask_step_kept s w _ t kept h = absurd h

note_step_kept : (s : State) (r : Reply) (t : State) → KeepsInvariants s → NoteStep s r t → KeepsInvariants t
note_step_kept s (Reply.Noted v) t kept h = subst KeepsInvariants (sym h.1) (note_kept s kept)
note_step_kept s _ t kept h = absurd h

join_step_kept : (s : State) (w v : ℕ) (r : Reply) (t : State) → KeepsInvariants s → JoinStep s w v r t → KeepsInvariants t
join_step_kept s w v (Reply.Joined n) t kept h = subst KeepsInvariants (sym h.2.2) (join_kept s w v h.2.0 kept h.0 h.2.1)
join_step_kept s w v Reply.NotNow t kept h = subst KeepsInvariants (sym h.1) kept
join_step_kept s w v _ t kept h = absurd h

pub step_kept : (s : State) (e : Event) (r : Reply) (t : State) → KeepsInvariants s → Step s e r t → KeepsInvariants t
step_kept s (Event.Look w) r t kept h = look_step_kept s w r t kept h
step_kept s (Event.Take w) r t kept h = take_step_kept s w r t kept h
step_kept s (Event.Drop w) r t kept h = drop_step_kept s w r t kept h
step_kept s (Event.Open e) r t kept h = open_step_kept s e r t kept h
step_kept s Event.Publish r t kept h = publish_step_kept s r t kept h
step_kept s (Event.Close k) r t kept h = close_step_kept s k r t kept h
step_kept s (Event.Collect k) r t kept h = collect_step_kept s k r t kept h
step_kept s (Event.Ask w) r t kept h = ask_step_kept s w r t kept h
step_kept s Event.Note r t kept h = note_step_kept s r t kept h
step_kept s (Event.Join w v) r t kept h = join_step_kept s w v r t kept h

-- the version that a worker holds is one that was opened
pub held_known : (s : State) (w k v : ℕ) → KeepsInvariants s → Holds s w k v → (version_on s.shelves k ≡ Some v) × (0 < v) × (v ≤ newest s)
held_known s w k v kept holds =
    let f = kept.workers.each w (Worker.Holding k v) holds in let q = kept.shelves.known k v f.1 in
    (f.1, q.0, q.1)

-- what no shelf below eight is, none is
pub on_none : (s : State) (x : Shelf) → KeepsInvariants s → ((j : ℕ) → j < 8 → slice_get s.shelves j ≢ Some x) → (j : ℕ) → slice_get s.shelves j ≢ Some x
on_none s x kept none j is = let l = slice_get_within s.shelves j x is in let e = kept.shelves.eight in none j (omega arith) is
