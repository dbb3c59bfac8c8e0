-- What runs keep, and how they are put together.
use Rattle.std.proofs.Common.{◌≡◌, ℕ, zero, suc, ◌+◌, ◌-◌, ◌<◌, ◌≤◌, max, List, [], ◌∷◌, ◌++◌, length, set, get_or, take, Some, slice_get, refl, ap, sym, ◌∙◌}
use Rattle.std.proofs.Common.{subst, arith, append_assoc, length-append, inr, get_or-set_same, get_or-set_other}
use Rattle.std.proofs.lemmas.List.{append-nil, take_more}
use Rattle.std.proofs.lemmas.Option.{slice_get_within, slice_get-get_or}
use mathlib.Core.Logic.{dite}
use native.Mathlib.Decide.{ℕ_discrete}
use Rattle.reasoning.proofs.ListLemmas.{slice_get-append, slice_get-last, slice_get-set_same}
use Rattle.version_core.specs.declared.state.Shelf.{Shelf}
use Rattle.version_core.specs.declared.state.Worker.{Worker}
use Rattle.version_core.specs.declared.event.Event.{Event}
use Rattle.version_core.specs.declared.event.Reply.{Reply}
use Rattle.version_core.specs.State.{State, start, newest, edition_of, looked, arrived, departed, opened, published, shelved, noted, joined}
use Rattle.version_core.specs.Steps.{IsIdle, IsOpen, Holds, IsSettled, Grows, OpensLeast, Step, LookStep, TakeStep, DropStep, OpenStep, PublishStep}
use Rattle.version_core.specs.Steps.{CloseStep, CollectStep, AskStep, NoteStep, JoinStep}
use Rattle.version_core.specs.Runs.{Run, LeastRun, IsRun, IsReached, IsLater, IsStopped}
use Rattle.version_core.specs.Invariants.{KeepsInvariants}
use Rattle.version_core.proofs.Rising.{most_left, most_right}
use Rattle.version_core.proofs.Keeps.{start_kept, step_kept, held_known, settled_small}
use Rattle.version_core.proofs.Replies.{one_reply}

pub run_kept : (s : State) (es : List Event) (rs : List Reply) (t : State) → KeepsInvariants s → Run s es rs t → KeepsInvariants t
run_kept s [] [] t kept h = subst KeepsInvariants (sym h) kept
run_kept s (e ∷ es) (r ∷ rs) t kept h = run_kept h.0 es rs t (step_kept s e r h.0 kept h.1) h.2
run_kept s [] (r ∷ rs) t kept h = absurd h
run_kept s (e ∷ es) [] t kept h = absurd h

pub reached_kept : (s : State) → IsReached s → KeepsInvariants s
reached_kept s h = run_kept start h.0 h.1.replies s start_kept h.1.run

pub runs_join : (s t u : State) (before after : List Event) (first second : List Reply) → Run s before first t
    → Run t after second u → Run s (before ++ after) (first ++ second) u
runs_join s t u [] after [] second h next = subst (λ (x : State). Run x after second u) h next
runs_join s t u (e ∷ es) after (r ∷ rs) second h next = (h.0, h.1, runs_join h.0 t u es after rs second h.2 next)
runs_join s t u [] after (r ∷ rs) second h next = absurd h
runs_join s t u (e ∷ es) after [] second h next = absurd h

pub runs_part : (s u : State) (before after : List Event) (replies : List Reply) → Run s (before ++ after) replies u
    → (t : State) × (first : List Reply) × (second : List Reply) × (replies ≡ first ++ second) × Run s before first t × Run t after second u
runs_part s u [] after replies h = (s, [], replies, refl, refl, h)
runs_part s u (e ∷ es) after (r ∷ rs) h = let p = runs_part h.0 u es after rs h.2 in (p.0, r ∷ p.1, p.2, ap (λ l. r ∷ l) p.3, (h.0, h.1, p.4), p.5)
runs_part s u (e ∷ es) after [] h = absurd h

-- the list of events grows by the event of a step
pub runs_grow : (s t u : State) (before : List Event) (replies : List Reply) (e : Event) (r : Reply)
    → Run s before replies t → Step t e r u → Run s (before ++ e ∷ []) (replies ++ r ∷ []) u
runs_grow s t u before replies e r h step = runs_join s t u before (e ∷ []) replies (r ∷ []) h (u, step, refl)

-- so does a list that is kept, with the replies or without
pub list_grows_with_replies : (s t u : State) (before events : List Event) (e : Event) (first replies : List Reply)
    (r : Reply) → Run s before first t → events ≡ before ++ e ∷ [] → replies ≡ first ++ r ∷ [] → Step t e r u
    → Run s events replies u
list_grows_with_replies s t u before events e first replies r h is all step = rw is (rw all (runs_grow s t u before first e r h step))

pub list_grows_by_run : (s t u : State) (before added events : List Event) (replies : List Reply) → IsRun s before t
    → events ≡ before ++ added → Run t added replies u → IsRun s events u
list_grows_by_run s t u before added events replies h is more =
    record { replies = h.replies ++ replies; run = rw is (runs_join s t u before added h.replies replies h.run more) }

pub list_grows : (s t u : State) (before events : List Event) (e : Event) (r : Reply) → IsRun s before t
    → events ≡ before ++ e ∷ [] → Step t e r u → IsRun s events u
list_grows s t u before events e r h is step = list_grows_by_run s t u before (e ∷ []) events (r ∷ []) h is (u, step, refl)

-- a run goes on by the next event of a list
pub run_take : (s : State) (xs : List Event) (i : ℕ) (d : Event) (rs : List Reply) (t u : State) (r : Reply)
    → i < length xs → Run s (take i xs) rs t → Step t (get_or xs i d) r u → Run s (take (i + 1) xs) (rs ++ r ∷ []) u
run_take s xs i d rs t u r less h step = rw (take_more xs i d less) (runs_grow s t u (take i xs) rs (get_or xs i d) r h step)

least_join : (s t u : State) (before after : List Event) (first second : List Reply) → LeastRun s before first t
    → LeastRun t after second u → LeastRun s (before ++ after) (first ++ second) u
least_join s t u [] after [] second h next = subst (λ (x : State). LeastRun x after second u) h next
least_join s t u (e ∷ es) after (r ∷ rs) second h next = (h.0, h.1, h.2, least_join h.0 t u es after rs second h.3 next)
least_join s t u [] after (r ∷ rs) second h next = absurd h
least_join s t u (e ∷ es) after [] second h next = absurd h

pub least_take : (s : State) (xs : List Event) (i : ℕ) (d : Event) (rs : List Reply) (t u : State) (r : Reply)
    → i < length xs → LeastRun s (take i xs) rs t → Step t (get_or xs i d) r u → OpensLeast t (get_or xs i d) r
    → LeastRun s (take (i + 1) xs) (rs ++ r ∷ []) u
least_take s xs i d rs t u r less h step least =
    rw (take_more xs i d less) (least_join s t u (take i xs) (get_or xs i d ∷ []) rs (r ∷ []) h (u, step, least, refl))

pub one_run : (s t u : State) (es : List Event) (rs qs : List Reply) → KeepsInvariants s → LeastRun s es rs t → LeastRun s es qs u → (qs ≡ rs) × (u ≡ t)
one_run s t u [] [] [] kept a b = (refl, b ∙ sym a)
one_run s t u (e ∷ es) (r ∷ rs) (q ∷ qs) kept a b =
    let now = one_reply s a.0 b.0 e r q kept a.1 a.2 b.1 b.2 in
    let rest = one_run a.0 t u es rs qs (step_kept s e r a.0 kept a.1) a.3 (subst (λ (x : State). LeastRun x es qs u) now.1 b.3) in
    (ap (λ x. x ∷ qs) now.0 ∙ ap (λ l. r ∷ l) rest.0, rest.1)
one_run s t u [] (r ∷ rs) qs kept a b = absurd a
one_run s t u [] [] (q ∷ qs) kept a b = absurd b
one_run s t u (e ∷ es) [] qs kept a b = absurd a
one_run s t u (e ∷ es) (r ∷ rs) [] kept a b = absurd b

-- a run that ended before the event at a place, which was about to take memory
pub stopped_at : (s t u : State) (events : List Event) (i : ℕ) (d : Event) (replies : List Reply) → i < length events → Run s (take i events) replies t
    → LeastRun s (take i events) replies t → Grows t (get_or events i d) → u ≡ t → IsStopped s events u
stopped_at s t u events i d replies less h least opens same = subst (λ x. IsStopped s events x) (sym same) (record {
  done = i;
  replies = replies;
  within = omega arith;
  run = h;
  least = least;
  there = inr (get_or events i d, slice_get-get_or events i d less, opens);
})

stays_later : (s t : State) → t.current ≡ s.current → t.seen ≡ s.seen → t.editions ≡ s.editions → IsLater s t
stays_later s t c n e = record {
  current = omega arith;
  seen = λ w. let z = ap (λ l. get_or l w 0) n in omega arith;
  editions = ([], e ∙ sym (append-nil s.editions));
}

same_later : (s t : State) → t ≡ s → IsLater s t
same_later s t e = subst (λ x. IsLater s x) (sym e) (stays_later s s refl refl refl)

later_later : (s t u : State) → IsLater s t → IsLater t u → IsLater s u
later_later s t u one two = record {
  current = (let a = one.current in let b = two.current in omega arith);
  seen = λ w. let a = one.seen w in let b = two.seen w in omega arith;
  editions = (
    one.editions.0 ++ two.editions.0,
    two.editions.1 ∙ (ap (λ l. l ++ two.editions.0) one.editions.1
        ∙ append_assoc s.editions one.editions.0 two.editions.0),
  );
}

looked_later : (s : State) (w : ℕ) → KeepsInvariants s → IsIdle s w → IsLater s (looked s w)
looked_later s w kept idle = record {
  current = omega arith;
  seen = λ j. dite (ℕ_discrete j w)
      (λ e. let f = kept.workers.each w Worker.Idle idle in let l = slice_get_within s.workers w _ idle in let z =
      kept.workers.sixteen in let z' = kept.workers.sixteen_seen in
      subst (λ n. get_or s.seen n 0 ≤ get_or (set s.seen w s.current) n 0) (sym e) (let g = get_or-set_same s.seen w s.current 0 (omega arith) in omega arith))
      (λ e. let g = get_or-set_other s.seen w j s.current 0 e in omega arith);
  editions = ([], sym (append-nil s.editions));
}

look_later : (s : State) (w : ℕ) (r : Reply) (t : State) → KeepsInvariants s → LookStep s w r t → IsLater s t
look_later s w (Reply.Looked v k) t kept h = subst (λ x. IsLater s x) (sym h.3) (looked_later s w kept h.0)
look_later s w Reply.NotNow t kept h = same_later s t h.1
look_later s w _ t kept h = absurd h

take_later : (s : State) (w : ℕ) (r : Reply) (t : State) → TakeStep s w r t → IsLater s t
take_later s w (Reply.Holds v) t h = subst (λ x. IsLater s x) (sym h.3) (stays_later s (arrived s w h.0 (Worker.Holding h.0 v)) refl refl refl)
take_later s w Reply.Late t h = subst (λ x. IsLater s x) (sym h.4) (stays_later s (arrived s w h.1 (Worker.Late h.1)) refl refl refl)
take_later s w Reply.NotNow t h = same_later s t h.1
take_later s w _ t h = absurd h

drop_later : (s : State) (w : ℕ) (r : Reply) (t : State) → DropStep s w r t → IsLater s t
drop_later s w Reply.Dropped t h = subst (λ x. IsLater s x) (sym h.2) (stays_later s (departed s w h.0) refl refl refl)
drop_later s w Reply.NotNow t h = same_later s t h.1
drop_later s w _ t h = absurd h

opened_later : (s : State) (k e : ℕ) → IsLater s (opened s k e)
opened_later s k e = record { current = omega arith; seen = λ w. omega arith; editions = (e ∷ [], refl) }

open_later : (s : State) (e : ℕ) (r : Reply) (t : State) → OpenStep s e r t → IsLater s t
open_later s e (Reply.Opened v k) t h = subst (λ x. IsLater s x) (sym h.3) (opened_later s k e)
open_later s e (Reply.NoRoom counts) t h = same_later s t h.3
open_later s e Reply.NotNow t h = same_later s t h.1
open_later s e _ t h = absurd h

published_later : (s : State) (k v : ℕ) → s.current < v → IsLater s (published s k v)
published_later s k v up = record { current = omega arith; seen = λ w. omega arith; editions = ([], sym (append-nil s.editions)) }

publish_later : (s : State) (r : Reply) (t : State) → PublishStep s r t → IsLater s t
publish_later s (Reply.Published v) t h = subst (λ x. IsLater s x) (sym h.2) (published_later s h.0 v h.1.1)
publish_later s Reply.NotNow t h = same_later s t h.1
publish_later s _ t h = absurd h

close_later : (s : State) (k : ℕ) (r : Reply) (t : State) → CloseStep s k r t → IsLater s t
close_later s k Reply.Closing t h = subst (λ x. IsLater s x) (sym h.2) (stays_later s (shelved s k (Shelf.Closing h.0)) refl refl refl)
close_later s k Reply.NotNow t h = same_later s t h.1
close_later s k _ t h = absurd h

collect_later : (s : State) (k : ℕ) (r : Reply) (t : State) → CollectStep s k r t → IsLater s t
collect_later s k Reply.Freed t h = subst (λ x. IsLater s x) (sym h.3) (stays_later s (shelved s k Shelf.Free) refl refl refl)
collect_later s k (Reply.Busy count) t h = same_later s t h.4
collect_later s k Reply.NotNow t h = same_later s t h.1
collect_later s k _ t h = absurd h

ask_later : (s : State) (w : ℕ) (r : Reply) (t : State) → AskStep s w r t → IsLater s t
ask_later s w (Reply.From v e) t h = same_later s t h.3
ask_later s w Reply.NotNow t h = same_later s t h.1
ask_later s w _ t h = absurd h

note_later : (s : State) (r : Reply) (t : State) → NoteStep s r t → IsLater s t
note_later s (Reply.Noted v) t h = subst (λ x. IsLater s x) (sym h.1) (stays_later s (noted s) refl refl refl)
note_later s _ t h = absurd h

-- what a worker has seen after a join
pub joined_seen : (s : State) (w v index : ℕ) → KeepsInvariants s → IsSettled s w → get_or (joined s w v index).seen w 0 ≡ max (get_or s.seen w 0) v
joined_seen s w v index kept settled = let small = settled_small s w kept settled in let l = kept.workers.sixteen_seen in
    get_or-set_same s.seen w _ 0 (omega arith)

joined_later : (s : State) (w v index : ℕ) → KeepsInvariants s → IsSettled s w → IsLater s (joined s w v index)
joined_later s w v index kept settled = record {
  current = omega arith;
  seen = λ j. dite (ℕ_discrete j w)
      (λ e. let g = joined_seen s w v index kept settled in let up = most_left (get_or s.seen w 0) v in
      subst (λ n. get_or s.seen n 0 ≤ get_or (joined s w v index).seen n 0) (sym e) (omega arith))
      (λ e. let g = get_or-set_other s.seen w j (max (get_or s.seen w 0) v) 0 e in omega arith);
  editions = ([], sym (append-nil s.editions));
}

join_later : (s : State) (w v : ℕ) (r : Reply) (t : State) → KeepsInvariants s → JoinStep s w v r t → IsLater s t
join_later s w v (Reply.Joined n) t kept h = subst (λ x. IsLater s x) (sym h.2.2) (joined_later s w v h.2.0 kept h.0)
join_later s w v Reply.NotNow t kept h = same_later s t h.1
join_later s w v _ t kept h = absurd h

pub step_later : (s : State) (e : Event) (r : Reply) (t : State) → KeepsInvariants s → Step s e r t → IsLater s t
step_later s (Event.Look w) r t kept h = look_later s w r t kept h
step_later s (Event.Take w) r t kept h = take_later s w r t h
step_later s (Event.Drop w) r t kept h = drop_later s w r t h
step_later s (Event.Open e) r t kept h = open_later s e r t h
step_later s Event.Publish r t kept h = publish_later s r t h
step_later s (Event.Close k) r t kept h = close_later s k r t h
step_later s (Event.Collect k) r t kept h = collect_later s k r t h
step_later s (Event.Ask w) r t kept h = ask_later s w r t h
step_later s Event.Note r t kept h = note_later s r t h
step_later s (Event.Join w v) r t kept h = join_later s w v r t kept h

pub run_later : (s : State) (es : List Event) (rs : List Reply) (t : State) → KeepsInvariants s → Run s es rs t → IsLater s t
run_later s [] [] t kept h = same_later s t h
run_later s (e ∷ es) (r ∷ rs) t kept h = later_later s h.0 t (step_later s e r h.0 kept h.1) (run_later h.0 es rs t (step_kept s e r h.0 kept h.1) h.2)
run_later s [] (r ∷ rs) t kept h = absurd h
run_later s (e ∷ es) [] t kept h = absurd h

-- each look finds what was joined or a newer version
pub looks_after : (s t u x : State) (w v seen found k : ℕ) (es : List Event) (rs : List Reply) → KeepsInvariants s → Step s (Event.Join w v)
    (Reply.Joined seen) t
    → Run t es rs u → Step u (Event.Look w) (Reply.Looked found k) x
    → (v ≤ seen) × (seen ≤ found)
looks_after s t u x w v seen found k es rs kept join run look =
    let kept' = step_kept s (Event.Join w v) (Reply.Joined seen) t kept join in
    let there : get_or t.seen w 0 ≡ seen = ap (λ (y : State). get_or y.seen w 0) join.2.2 ∙ (joined_seen s w v join.2.0 kept join.0 ∙ sym join.1) in
    let later = (run_later t es rs u kept' run).seen w in
    let most = (run_kept t es rs u kept' run).workers.each w Worker.Idle look.0 in
    let is = look.1 in let n = join.1 in let up = most_right (get_or s.seen w 0) v in
    (omega arith, omega arith)

pub edition_later : (s t : State) (v e : ℕ) → IsLater s t → edition_of s.editions v ≡ Some e → edition_of t.editions v ≡ Some e
edition_later s t zero e later is = absurd (cc)
edition_later s t (suc n) e later is = subst (λ l. slice_get l n ≡ Some e) (sym later.editions.1) (slice_get-append s.editions later.editions.0 n e is)

-- the edition of a version stands at its place, counted from 1
pub edition_of-index : (editions : List ℕ) (v e : ℕ) → 0 < v → slice_get editions (v - 1) ≡ Some e → edition_of editions v ≡ Some e
edition_of-index editions zero e some is = absurd (omega arith)
edition_of-index editions (suc n) e some is = let index : suc n - 1 ≡ n = omega arith in rw index at is

pub opens_with_edition : (s t : State) (e v k : ℕ) → Step s (Event.Open e) (Reply.Opened v k) t
    → IsOpen t k v × (v ≡ newest t) × (edition_of t.editions v ≡ Some e)
opens_with_edition s t e v k h =
    let longer : length (s.editions ++ e ∷ []) ≡ newest s + 1 = omega (arith, length-append s.editions (e ∷ [])) in
    let there : slice_get (s.editions ++ e ∷ []) (newest s + 1 - 1) ≡ Some e =
    (let same : newest s + 1 - 1 ≡ newest s = omega arith in rw same (slice_get-last s.editions e)) in
    let new = opened s k e in
    let all : IsOpen new k (newest s + 1) × (newest s + 1 ≡ newest new) × (edition_of new.editions (newest s + 1) ≡ Some e) = (
      slice_get-set_same s.shelves k (Shelf.Open (newest s + 1)) (slice_get_within s.shelves k Shelf.Free h.1),
      sym longer,
      edition_of-index new.editions (newest s + 1) e (omega arith) there,
    ) in
    subst (λ x. IsOpen x k v × (v ≡ newest x)
    × (edition_of x.editions v ≡ Some e)) (sym h.3) (subst (λ n. IsOpen new k n × (n ≡ newest new)
    × (edition_of new.editions n ≡ Some e)) (sym h.2) all)

index_of : (s : State) (v : ℕ) → 0 < v → v ≤ newest s → (e : ℕ) × (edition_of s.editions v ≡ Some e)
index_of s v some most = (get_or s.editions (v - 1) 0, edition_of-index s.editions v _ some (slice_get-get_or s.editions (v - 1) 0 (omega arith)))

answered : (s : State) (w k v e : ℕ) (r : Reply) (t : State) → Holds s w k v → edition_of s.editions v ≡ Some e
    → AskStep s w r t → (r ≡ Reply.From v e) × (t ≡ s)
answered s w k v e (Reply.From x y) t holds is h =
    let one : Some (Worker.Holding k v) ≡ Some (Worker.Holding h.0 x) = sym holds ∙ h.1 in
    let same : v ≡ x = cc in
    let two : Some e ≡ Some y = sym is ∙ (ap (λ n. edition_of s.editions n) same ∙ h.2) in
    ((cc), h.3)
answered s w k v e Reply.NotNow t holds is h = absurd (h.0 k v holds)
answered s w k v e _ t holds is h = absurd h

pub asked : (s : State) (w k v : ℕ) → KeepsInvariants s → Holds s w k v
    → (e : ℕ) × (edition_of s.editions v ≡ Some e)
    × ((reply : Reply) (t : State) → Step s (Event.Ask w) reply t → (reply ≡ Reply.From v e) × (t ≡ s))
asked s w k v kept holds =
    let known = held_known s w k v kept holds in
    let index = index_of s v known.1 known.2 in
    (index.0, index.1, λ r t h. answered s w k v index.0 r t holds index.1 h)
