-- How the table comes to rest.
use Rattle.std.proofs.Common.{◌≡◌, ◌≢◌, ℕ, zero, suc, ◌+◌, ◌<◌, [], ◌∷◌, ◌++◌, length, set, Some, slice_get, refl, ap}
use Rattle.std.proofs.Common.{sym, ◌∙◌, subst, arith, inl, inr, length-append}
use Rattle.std.proofs.lemmas.Option.{slice_get_within, slice_get-get_or}
use mathlib.Core.Logic.{dite}
use native.Mathlib.Decide.{ℕ_discrete}
use Rattle.reasoning.proofs.ListLemmas.{slice_get-replicate-is, slice_get-set_same, slice_get-set_other}
use Rattle.version_core.specs.declared.state.Shelf.{Shelf}
use Rattle.version_core.specs.declared.event.Event.{Event}
use Rattle.version_core.specs.declared.event.Reply.{Reply}
use Rattle.version_core.specs.State.{State, most_versions, start, newest, opened, published, shelved}
use Rattle.version_core.specs.Steps.{IsFree, IsOpen, IsClosing, MayOpen, Step, LookStep, TakeStep, DropStep, PublishStep, CloseStep, CollectStep, AskStep}
use Rattle.version_core.specs.Steps.{NoteStep, JoinStep}
use Rattle.version_core.specs.Runs.{Run}
use Rattle.version_core.specs.Invariants.{KeepsInvariants}
use Rattle.version_core.specs.Rest.{IsAtRest, IsNoLoad, loaded}
use Rattle.version_core.proofs.Lists.{slice_get-set}
use Rattle.version_core.proofs.Shelves.{version_at}
use Rattle.version_core.proofs.Keeps.{none_waits, open_kept}

first_open : (k v : ℕ) → IsOpen start k v → v ≡ 1
first_open zero v is = cc
first_open (suc k) v is = let free = slice_get-replicate-is 7 k Shelf.Free (Shelf.Open v) is in absurd (cc)

pub start_rests : IsAtRest start
start_rests = record { published = refl; one_open = first_open }

same_rests : (s t : State) → t ≡ s → IsAtRest s → IsAtRest t
same_rests s t e rest = subst IsAtRest (sym e) rest

look_rests : (s : State) (w : ℕ) (r : Reply) (t : State) → IsAtRest s → LookStep s w r t → IsAtRest t
look_rests s w (Reply.Looked v k) t rest h = subst IsAtRest (sym h.3) (record { published = rest.published; one_open = rest.one_open })
look_rests s w Reply.NotNow t rest h = same_rests s t h.1 rest
look_rests s w _ t rest h = absurd h

take_rests : (s : State) (w : ℕ) (r : Reply) (t : State) → IsAtRest s → TakeStep s w r t → IsAtRest t
take_rests s w (Reply.Holds v) t rest h = subst IsAtRest (sym h.3) (record { published = rest.published; one_open = rest.one_open })
take_rests s w Reply.Late t rest h = subst IsAtRest (sym h.4) (record { published = rest.published; one_open = rest.one_open })
take_rests s w Reply.NotNow t rest h = same_rests s t h.1 rest
take_rests s w _ t rest h = absurd h

drop_rests : (s : State) (w : ℕ) (r : Reply) (t : State) → IsAtRest s → DropStep s w r t → IsAtRest t
drop_rests s w Reply.Dropped t rest h = subst IsAtRest (sym h.2) (record { published = rest.published; one_open = rest.one_open })
drop_rests s w Reply.NotNow t rest h = same_rests s t h.1 rest
drop_rests s w _ t rest h = absurd h

freed_rests : (s : State) (k v : ℕ) → IsAtRest s → IsClosing s k v → IsAtRest (shelved s k Shelf.Free)
freed_rests s k v rest closing = record {
  published = rest.published;
  one_open = λ j x is. elim (slice_get-set s.shelves k j Shelf.Free (Shelf.Open x)
      (slice_get_within s.shelves k _ closing) is) [
        | inl a ↦ absurd (let e = a.1 in cc)
        | inr b ↦
            rest.one_open j x b.1
      ];
}

collect_rests : (s : State) (k : ℕ) (r : Reply) (t : State) → IsAtRest s → CollectStep s k r t → IsAtRest t
collect_rests s k Reply.Freed t rest h = subst IsAtRest (sym h.3) (freed_rests s k h.0 rest h.1)
collect_rests s k (Reply.Busy count) t rest h = same_rests s t h.4 rest
collect_rests s k Reply.NotNow t rest h = same_rests s t h.1 rest
collect_rests s k _ t rest h = absurd h

ask_rests : (s : State) (w : ℕ) (r : Reply) (t : State) → IsAtRest s → AskStep s w r t → IsAtRest t
ask_rests s w (Reply.From v e) t rest h = same_rests s t h.3 rest
ask_rests s w Reply.NotNow t rest h = same_rests s t h.1 rest
ask_rests s w _ t rest h = absurd h

note_rests : (s : State) (r : Reply) (t : State) → IsAtRest s → NoteStep s r t → IsAtRest t
note_rests s (Reply.Noted v) t rest h = subst IsAtRest (sym h.1) (record { published = rest.published; one_open = rest.one_open })
note_rests s _ t rest h = absurd h

join_rests : (s : State) (w v : ℕ) (r : Reply) (t : State) → IsAtRest s → JoinStep s w v r t → IsAtRest t
join_rests s w v (Reply.Joined n) t rest h = subst IsAtRest (sym h.2.2) (record { published = rest.published; one_open = rest.one_open })
join_rests s w v Reply.NotNow t rest h = same_rests s t h.1 rest
join_rests s w v _ t rest h = absurd h

pub rest_stays : (s t : State) (event : Event) (r : Reply) → IsAtRest s → IsNoLoad event → Step s event r t → IsAtRest t
rest_stays s t (Event.Look w) r rest no_load h = look_rests s w r t rest h
rest_stays s t (Event.Take w) r rest no_load h = take_rests s w r t rest h
rest_stays s t (Event.Drop w) r rest no_load h = drop_rests s w r t rest h
rest_stays s t (Event.Collect k) r rest no_load h = collect_rests s k r t rest h
rest_stays s t (Event.Ask w) r rest no_load h = ask_rests s w r t rest h
rest_stays s t Event.Note r rest no_load h = note_rests s r t rest h
rest_stays s t (Event.Join w v) r rest no_load h = join_rests s w v r t rest h
rest_stays s t (Event.Open e) r rest no_load h = absurd no_load
rest_stays s t Event.Publish r rest no_load h = absurd no_load
rest_stays s t (Event.Close k) r rest no_load h = absurd no_load

-- the shelf that was opened has the one version that waits to be published
opened_is_open : (s : State) (k e : ℕ) → IsFree s k → IsOpen (opened s k e) k (newest s + 1)
opened_is_open s k e free = slice_get-set_same s.shelves k (Shelf.Open (newest s + 1)) (slice_get_within s.shelves k _ free)

-- after an opening at rest, Publish can only publish what was opened
published_is : (s : State) (k e : ℕ) (r : Reply) (t : State) → KeepsInvariants s → IsAtRest s → MayOpen s → IsFree s k
    → PublishStep (opened s k e) r t → (r ≡ Reply.Published (newest s + 1))
    × (t ≡ published (opened s k e) k (newest s + 1))
published_is s k e (Reply.Published v) t kept rest may free h =
    let after = open_kept s k e kept may free in
    let longer : length (s.editions ++ e ∷ []) ≡ newest s + 1 = omega (arith, length-append s.editions (e ∷ [])) in
    let known = after.shelves.known h.0 v (version_at _ h.0 (Shelf.Open v) h.1.0) in
    let most = known.1 in let later = h.1.1 in let p = rest.published in
    let same : v ≡ newest s + 1 = omega arith in
    let here : h.0 ≡ k = after.shelves.apart h.0 k v (version_at _ h.0 (Shelf.Open v) h.1.0)
    (version_at _ k (Shelf.Open (newest s + 1)) (opened_is_open s k e free) ∙ ap (λ n. Some n) (sym same)) in
    (ap (λ n. Reply.Published n) same, h.2 ∙ (ap (λ j. published (opened s k e) j v) here ∙ ap (λ n. published (opened s k e) k n) same))
published_is s k e Reply.NotNow t kept rest may free h = let p = rest.published in absurd (h.0 k (newest s + 1) (opened_is_open s k e free, (omega arith)))
published_is s k e _ t kept rest may free h = absurd h

current_stays : (s : State) (k e : ℕ) → KeepsInvariants s → IsFree s k → IsOpen (opened s k e) s.current_shelf s.current
current_stays s k e kept free =
    slice_get-set_other s.shelves k s.current_shelf (Shelf.Open (newest s + 1))
    (λ q. let two : Some (Shelf.Open s.current) ≡ Some Shelf.Free =
    sym kept.shelves.current_open ∙ (ap (λ n. slice_get s.shelves n) q ∙ free) in (cc))
    ∙ kept.shelves.current_open

-- then Close of the shelf that was current can only close it
closed_is : (s : State) (k e : ℕ) (r : Reply) (t : State) → KeepsInvariants s → IsAtRest s → IsFree s k
    → CloseStep (published (opened s k e) k (newest s + 1)) s.current_shelf r t
    → (r ≡ Reply.Closing) × (t ≡ loaded s k e)
closed_is s k e Reply.Closing t kept rest free h =
    let two : Some (Shelf.Open h.0) ≡ Some (Shelf.Open s.current) = sym h.1.0 ∙ current_stays s k e kept free in
    let same : h.0 ≡ s.current = cc in
    (refl, h.2 ∙ ap (λ n. shelved (published (opened s k e) k (newest s + 1)) s.current_shelf (Shelf.Closing n)) same)
closed_is s k e Reply.NotNow t kept rest free h = let p =
    rest.published in absurd
    (h.0 s.current (
      current_stays s k e kept free,
      (λ q. (omega arith)),
      (λ new. let later =
          new.1 in (omega arith)),
    ))
closed_is s k e _ t kept rest free h = absurd h

loaded_rests : (s : State) (k e : ℕ) → KeepsInvariants s → IsAtRest s → IsFree s k → IsAtRest (loaded s k e)
loaded_rests s k e kept rest free =
    let n = newest s + 1 in
    let xs = set s.shelves k (Shelf.Open n) in
    record {
      published = omega (arith, length-append s.editions (e ∷ []));
      one_open = λ j x is. elim (slice_get-set xs s.current_shelf j (Shelf.Closing s.current) (Shelf.Open x)
          (slice_get_within xs s.current_shelf _ (current_stays s k e kept free)) is) [
            | inl a ↦ absurd (let q = a.1 in cc)
            | inr b ↦ elim (slice_get-set s.shelves k j (Shelf.Open n) (Shelf.Open x) (slice_get_within s.shelves k _ free) b.1) [
              | inl c ↦ (let q = c.1 in cc)
              | inr d ↦ absurd (b.0 (kept.shelves.apart j s.current_shelf x (version_at s.shelves j (Shelf.Open x) d.1)
                  (version_at s.shelves s.current_shelf (Shelf.Open s.current) kept.shelves.current_open
                  ∙ ap (λ m. Some m) (sym (rest.one_open j x d.1)))))
            ]
          ];
    }

pub loads_rest : (s t : State) (e v k : ℕ) (second third : Reply) → KeepsInvariants s → IsAtRest s
    → Run s (Event.Open e ∷ Event.Publish ∷ Event.Close s.current_shelf ∷ []) (Reply.Opened v k ∷ second ∷ third ∷ []) t
    → (v ≡ newest s + 1) × (second ≡ Reply.Published v) × (third ≡ Reply.Closing) × (t ≡ loaded s k e) × IsAtRest t
loads_rest s t e v k second third kept rest h =
    let first = h.1 in
    let publish = published_is s k e second h.2.0 kept rest first.0 first.1 (subst (λ x. PublishStep x second h.2.0) first.3 h.2.1) in
    let close = closed_is s k e third h.2.2.0 kept rest first.1 (subst (λ x. CloseStep x s.current_shelf third h.2.2.0) publish.1 h.2.2.1) in
    let last : t ≡ loaded s k e = h.2.2.2 ∙ close.1 in
    (first.2, publish.0 ∙ ap (λ n. Reply.Published n) (sym first.2), close.0, last, subst IsAtRest (sym last) (loaded_rests s k e kept rest first.1))

pub rest_is_spent : (s : State) → KeepsInvariants s → IsAtRest s → ¬ (MayOpen s) → newest s ≡ most_versions
rest_is_spent s kept rest not =
    dite (ℕ_discrete (newest s) most_versions) (λ e. e) (λ e. let most = kept.room in absurd (not (none_waits s kept rest.published, (omega arith))))

closing_here : (s : State) (k : ℕ) (shelf : Shelf) → KeepsInvariants s → IsAtRest s → slice_get s.shelves k ≡ Some shelf
    → ¬ (IsFree s k) → k ≢ s.current_shelf → (v : ℕ) × IsClosing s k v
closing_here s k (Shelf.Closing v) kept rest is not other = (v, is)
closing_here s k Shelf.Free kept rest is not other = absurd (not is)
closing_here s k (Shelf.Open v) kept rest is not other =
    absurd (other (kept.shelves.apart k s.current_shelf v (version_at s.shelves k (Shelf.Open v) is)
    (version_at s.shelves s.current_shelf (Shelf.Open s.current) kept.shelves.current_open
    ∙ ap (λ m. Some m) (sym (rest.one_open k v is)))))

pub rest_is_full : (s : State) (k : ℕ) → KeepsInvariants s → IsAtRest s → ((j : ℕ) → ¬ (IsFree s j)) → k < 8 → k ≢ s.current_shelf → (v : ℕ) × IsClosing s k v
rest_is_full s k kept rest none small other =
    closing_here s k _ kept rest (slice_get-get_or s.shelves k Shelf.Free (let e = kept.shelves.eight in omega arith)) (none k) other
