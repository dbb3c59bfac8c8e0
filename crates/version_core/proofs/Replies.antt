-- A state and an event have one reply and one next state, except for which free shelf is opened.
use Rattle.std.proofs.Common.{◌≡◌, ◌⊎◌, ℕ, ◌<◌, Some, slice_get, refl, ap, sym, ◌∙◌, arith, inl, inr}
use Rattle.version_core.specs.declared.state.Shelf.{Shelf}
use Rattle.version_core.specs.declared.state.Worker.{Worker}
use Rattle.version_core.specs.declared.event.Event.{Event}
use Rattle.version_core.specs.declared.event.Reply.{Reply}
use Rattle.version_core.specs.State.{State, newest, edition_of, arrived, departed, opened, published, shelved, joined}
use Rattle.version_core.specs.Steps.{OpensLeast, Step, LookStep, TakeStep, DropStep, OpenStep, PublishStep, CloseStep, CollectStep, AskStep}
use Rattle.version_core.specs.Steps.{StaysAt, IsUnpublished, IsOutdated, NoteStep, JoinStep}
use Rattle.version_core.specs.Invariants.{KeepsInvariants}
use Rattle.version_core.proofs.Shelves.{version_at}
use Rattle.version_core.proofs.Pins.{stays_once}
use Rattle.version_core.proofs.Rising.{remove_one}

look_one : (s t u : State) (w : ℕ) (r q : Reply) → LookStep s w r t → LookStep s w q u → (q ≡ r) × (u ≡ t)
look_one s t u w (Reply.Looked v k) (Reply.Looked x j) a b =
    (ap (λ n. Reply.Looked n j) (b.1 ∙ sym a.1) ∙ ap (λ n. Reply.Looked v n) (b.2 ∙ sym a.2), b.3 ∙ sym a.3)
look_one s t u w (Reply.Looked v k) Reply.NotNow a b = absurd (b.0 a.0)
look_one s t u w (Reply.Looked v k) _ a b = absurd b
look_one s t u w Reply.NotNow (Reply.Looked x j) a b = absurd (a.0 b.0)
look_one s t u w Reply.NotNow Reply.NotNow a b = (refl, b.1 ∙ sym a.1)
look_one s t u w Reply.NotNow _ a b = absurd b
look_one s t u w _ q a b = absurd a

take_one : (s t u : State) (w : ℕ) (r q : Reply) → TakeStep s w r t → TakeStep s w q u → (q ≡ r) × (u ≡ t)
take_one s t u w (Reply.Holds v) (Reply.Holds x) a b =
    let e : Some (Worker.Looked v a.0) ≡ Some (Worker.Looked x b.0) = sym a.1 ∙ b.1 in
    let p : x ≡ v = cc in
    let q : b.0 ≡ a.0 = cc in
    (ap (λ n. Reply.Holds n) p, b.3 ∙ (ap (λ n. arrived s w b.0 (Worker.Holding b.0 n)) p ∙ (ap (λ n. arrived s w n (Worker.Holding n v)) q ∙ sym a.3)))
take_one s t u w (Reply.Holds v) Reply.Late a b =
    let e : Some (Worker.Looked v a.0) ≡ Some (Worker.Looked b.0 b.1) = sym a.1 ∙ b.2 in
    let p : b.0 ≡ v = cc in
    let q : b.1 ≡ a.0 = cc in
    absurd (b.3 (ap (λ n. slice_get s.shelves n) q ∙ (a.2 ∙ ap (λ n. Some (Shelf.Open n)) (sym p))))
take_one s t u w (Reply.Holds v) Reply.NotNow a b = absurd (b.0 v a.0 a.1)
take_one s t u w (Reply.Holds v) _ a b = absurd b
take_one s t u w Reply.Late (Reply.Holds x) a b =
    let e : Some (Worker.Looked a.0 a.1) ≡ Some (Worker.Looked x b.0) = sym a.2 ∙ b.1 in
    let p : a.0 ≡ x = cc in
    let q : a.1 ≡ b.0 = cc in
    absurd (a.3 (ap (λ n. slice_get s.shelves n) q ∙ (b.2 ∙ ap (λ n. Some (Shelf.Open n)) (sym p))))
take_one s t u w Reply.Late Reply.Late a b =
    let e : Some (Worker.Looked a.0 a.1) ≡ Some (Worker.Looked b.0 b.1) = sym a.2 ∙ b.2 in
    let q : b.1 ≡ a.1 = cc in
    (refl, b.4 ∙ (ap (λ n. arrived s w n (Worker.Late n)) q ∙ sym a.4))
take_one s t u w Reply.Late Reply.NotNow a b = absurd (b.0 a.0 a.1 a.2)
take_one s t u w Reply.Late _ a b = absurd b
take_one s t u w Reply.NotNow (Reply.Holds x) a b = absurd (a.0 x b.0 b.1)
take_one s t u w Reply.NotNow Reply.Late a b = absurd (a.0 b.0 b.1 b.2)
take_one s t u w Reply.NotNow Reply.NotNow a b = (refl, b.1 ∙ sym a.1)
take_one s t u w Reply.NotNow _ a b = absurd b
take_one s t u w _ q a b = absurd a

-- a step that is done in one of these ways, with its reply and its next state, or has no place where there is none
abbrev DoneOr : State → (Way : Type 0) → (Way → Reply) → (Way → State) → Reply → State → Type 0
DoneOr s Way shown after r t = ((a : Way) × (r ≡ shown a) × (t ≡ after a)) ⊎ ((¬ Way) × (r ≡ Reply.NotNow) × (t ≡ s))

-- where all ways have one reply and lead to one state, so do two such steps
done_alike : (s t u : State) (r q : Reply) (Way : Type 0) (shown : Way → Reply) (after : Way → State)
    → ((a b : Way) → (shown b ≡ shown a) × (after b ≡ after a)) → DoneOr s Way shown after r t → DoneOr s Way shown after q u → (q ≡ r) × (u ≡ t)
done_alike s t u r q Way shown after alike (inl a) (inl b) = let same = alike a.0 b.0 in (b.1 ∙ (same.0 ∙ sym a.1), b.2 ∙ (same.1 ∙ sym a.2))
done_alike s t u r q Way shown after alike (inl a) (inr b) = absurd (b.0 a.0)
done_alike s t u r q Way shown after alike (inr a) (inl b) = absurd (a.0 b.0)
done_alike s t u r q Way shown after alike (inr a) (inr b) = (b.1 ∙ sym a.1, b.2 ∙ sym a.2)

drops : (s t : State) (w : ℕ) (r : Reply) → DropStep s w r t → DoneOr s ((k : ℕ) × StaysAt s w k) (λ a. Reply.Dropped) (λ a. departed s w a.0) r t
drops s t w Reply.Dropped h = inl ((h.0, h.1), refl, h.2)
drops s t w Reply.NotNow h = inr ((λ a. h.0 a.0 a.1), refl, h.1)
drops s t w _ h = absurd h

drop_one : (s t u : State) (w : ℕ) (r q : Reply) → DropStep s w r t → DropStep s w q u → (q ≡ r) × (u ≡ t)
drop_one s t u w r q a b = done_alike s t u r q ((k : ℕ) × StaysAt s w k) (λ x. Reply.Dropped) (λ x. departed s w x.0)
    (λ x y. (refl, ap (λ n. departed s w n) (stays_once s w x.0 y.0 x.1 y.1))) (drops s t w r a) (drops s u w q b)

-- of two numbers neither of which is below the other
neither_below : (m n : ℕ) → ¬ (m < n) → ¬ (n < m) → n ≡ m
neither_below m n a b = omega (arith, a, b)

open_one : (s t u : State) (e : ℕ) (r q : Reply) → OpenStep s e r t → OpensLeast s (Event.Open e) r → OpenStep s e q u
    → OpensLeast s (Event.Open e) q → (q ≡ r) × (u ≡ t)
open_one s t u e (Reply.Opened v k) (Reply.Opened x j) a least b least' =
    let p : x ≡ v = b.2 ∙ sym a.2 in
    let q : j ≡ k = neither_below k j (λ less. least' k less a.1) (λ less. least j less b.1) in
    (ap (λ n. Reply.Opened n j) p ∙ ap (λ n. Reply.Opened v n) q, b.3 ∙ (ap (λ n. opened s n e) q ∙ sym a.3))
open_one s t u e (Reply.Opened v k) (Reply.NoRoom counts) a least b least' = absurd (b.1 k a.1)
open_one s t u e (Reply.Opened v k) Reply.NotNow a least b least' = absurd (b.0 a.0)
open_one s t u e (Reply.Opened v k) _ a least b least' = absurd b
open_one s t u e (Reply.NoRoom counts) (Reply.Opened x j) a least b least' = absurd (a.1 j b.1)
open_one s t u e (Reply.NoRoom counts) (Reply.NoRoom others) a least b least' = (ap (λ l. Reply.NoRoom l) (b.2 ∙ sym a.2), b.3 ∙ sym a.3)
open_one s t u e (Reply.NoRoom counts) Reply.NotNow a least b least' = absurd (b.0 a.0)
open_one s t u e (Reply.NoRoom counts) _ a least b least' = absurd b
open_one s t u e Reply.NotNow (Reply.Opened x j) a least b least' = absurd (a.0 b.0)
open_one s t u e Reply.NotNow (Reply.NoRoom others) a least b least' = absurd (a.0 b.0)
open_one s t u e Reply.NotNow Reply.NotNow a least b least' = (refl, b.1 ∙ sym a.1)
open_one s t u e Reply.NotNow _ a least b least' = absurd b
open_one s t u e _ q a least b least' = absurd a

-- what is unpublished is the newest version
unpublished_is_newest : (s : State) (k v : ℕ) → KeepsInvariants s → IsUnpublished s k v → v ≡ newest s
unpublished_is_newest s k v kept new =
    let known = kept.shelves.known k v (version_at s.shelves k (Shelf.Open v) new.0) in let most = known.1 in let above = new.1 in
    elim kept.shelves.newest_open [ inl a ↦ (omega arith) | inr b ↦ (let next = b.0 in omega arith) ]

publishes : (s t : State) (r : Reply) → PublishStep s r t
    → DoneOr s ((v k : ℕ) × IsUnpublished s k v) (λ a. Reply.Published a.0) (λ a. published s a.1 a.0) r t
publishes s t (Reply.Published v) h = inl ((v, h.0, h.1), refl, h.2)
publishes s t Reply.NotNow h = inr ((λ a. h.0 a.1 a.0 a.2), refl, h.1)
publishes s t _ h = absurd h

-- no two versions are unpublished
unpublished_once : (s : State) (v k x j : ℕ) → KeepsInvariants s → IsUnpublished s k v → IsUnpublished s j x → (x ≡ v) × (j ≡ k)
unpublished_once s v k x j kept a b =
    let same : x ≡ v = unpublished_is_newest s j x kept b ∙ sym (unpublished_is_newest s k v kept a) in
    (same, kept.shelves.apart j k v (version_at s.shelves j (Shelf.Open x) b.0 ∙ ap (λ n. Some n) same) (version_at s.shelves k (Shelf.Open v) a.0))

publish_one : (s t u : State) (r q : Reply) → KeepsInvariants s → PublishStep s r t → PublishStep s q u → (q ≡ r) × (u ≡ t)
publish_one s t u r q kept a b = done_alike s t u r q ((v k : ℕ) × IsUnpublished s k v) (λ x. Reply.Published x.0) (λ x. published s x.1 x.0)
    (λ x y.
    let same = unpublished_once s x.0 x.1 y.0 y.1 kept x.2 y.2 in
    (ap (λ n. Reply.Published n) same.0, ap (λ n. published s y.1 n) same.0 ∙ ap (λ n. published s n x.0) same.1))
    (publishes s t r a) (publishes s u q b)

closes : (s t : State) (k : ℕ) (r : Reply) → CloseStep s k r t
    → DoneOr s ((v : ℕ) × IsOutdated s k v) (λ a. Reply.Closing) (λ a. shelved s k (Shelf.Closing a.0)) r t
closes s t k Reply.Closing h = inl ((h.0, h.1), refl, h.2)
closes s t k Reply.NotNow h = inr ((λ a. h.0 a.0 a.1), refl, h.1)
closes s t k _ h = absurd h

close_one : (s t u : State) (k : ℕ) (r q : Reply) → CloseStep s k r t → CloseStep s k q u → (q ≡ r) × (u ≡ t)
close_one s t u k r q a b = done_alike s t u r q ((v : ℕ) × IsOutdated s k v) (λ x. Reply.Closing) (λ x. shelved s k (Shelf.Closing x.0))
    (λ x y.
    let e : Some (Shelf.Open x.0) ≡ Some (Shelf.Open y.0) = sym x.1.0 ∙ y.1.0 in let same : y.0 ≡ x.0 = cc in
    (refl, ap (λ n. shelved s k (Shelf.Closing n)) same))
    (closes s t k r a) (closes s u k q b)

collect_one : (s t u : State) (k : ℕ) (r q : Reply) → CollectStep s k r t → CollectStep s k q u → (q ≡ r) × (u ≡ t)
collect_one s t u k Reply.Freed Reply.Freed a b = (refl, b.3 ∙ sym a.3)
collect_one s t u k Reply.Freed (Reply.Busy count) a b = absurd (let none = a.2 in let is = b.2 in let some = b.3 in omega arith)
collect_one s t u k Reply.Freed Reply.NotNow a b = absurd (b.0 a.0 a.1)
collect_one s t u k Reply.Freed _ a b = absurd b
collect_one s t u k (Reply.Busy count) Reply.Freed a b = absurd (let none = b.2 in let is = a.2 in let some = a.3 in omega arith)
collect_one s t u k (Reply.Busy count) (Reply.Busy other) a b = (ap (λ n. Reply.Busy n) (sym b.2 ∙ a.2), b.4 ∙ sym a.4)
collect_one s t u k (Reply.Busy count) Reply.NotNow a b = absurd (b.0 a.0 a.1)
collect_one s t u k (Reply.Busy count) _ a b = absurd b
collect_one s t u k Reply.NotNow Reply.Freed a b = absurd (a.0 b.0 b.1)
collect_one s t u k Reply.NotNow (Reply.Busy other) a b = absurd (a.0 b.0 b.1)
collect_one s t u k Reply.NotNow Reply.NotNow a b = (refl, b.1 ∙ sym a.1)
collect_one s t u k Reply.NotNow _ a b = absurd b
collect_one s t u k _ q a b = absurd a

ask_one : (s t u : State) (w : ℕ) (r q : Reply) → AskStep s w r t → AskStep s w q u → (q ≡ r) × (u ≡ t)
ask_one s t u w (Reply.From v e) (Reply.From x d) a b =
    let same : Some (Worker.Holding a.0 v) ≡ Some (Worker.Holding b.0 x) = sym a.1 ∙ b.1 in
    let p : x ≡ v = cc in
    let two : Some d ≡ Some e = sym b.2 ∙ (ap (λ n. edition_of s.editions n) p ∙ a.2) in
    let q : d ≡ e = cc in
    (ap (λ n. Reply.From n d) p ∙ ap (λ n. Reply.From v n) q, b.3 ∙ sym a.3)
ask_one s t u w (Reply.From v e) Reply.NotNow a b = absurd (b.0 a.0 v a.1)
ask_one s t u w (Reply.From v e) _ a b = absurd b
ask_one s t u w Reply.NotNow (Reply.From x d) a b = absurd (a.0 b.0 x b.1)
ask_one s t u w Reply.NotNow Reply.NotNow a b = (refl, b.1 ∙ sym a.1)
ask_one s t u w Reply.NotNow _ a b = absurd b
ask_one s t u w _ q a b = absurd a

note_one : (s t u : State) (r q : Reply) → NoteStep s r t → NoteStep s q u → (q ≡ r) × (u ≡ t)
note_one s t u (Reply.Noted v) (Reply.Noted x) a b = (ap (λ n. Reply.Noted n) (b.0 ∙ sym a.0), b.1 ∙ sym a.1)
note_one s t u (Reply.Noted v) _ a b = absurd b
note_one s t u _ q a b = absurd a

join_one : (s t u : State) (w v : ℕ) (r q : Reply) → KeepsInvariants s → JoinStep s w v r t → JoinStep s w v q u → (q ≡ r) × (u ≡ t)
join_one s t u w v (Reply.Joined n) (Reply.Joined m) kept a b =
    let same = remove_one 0 s.notices s.current a.2.0 b.2.0 v kept.notices a.2.1 b.2.1 in
    (ap (λ x. Reply.Joined x) (b.1 ∙ sym a.1), b.2.2 ∙ (ap (λ l. record (joined s w v a.2.0) { notices = l }) same ∙ sym a.2.2))
join_one s t u w v (Reply.Joined n) Reply.NotNow kept a b = absurd (b.0 (a.0, (a.2.0, a.2.1)))
join_one s t u w v (Reply.Joined n) _ kept a b = absurd b
join_one s t u w v Reply.NotNow (Reply.Joined m) kept a b = absurd (a.0 (b.0, (b.2.0, b.2.1)))
join_one s t u w v Reply.NotNow Reply.NotNow kept a b = (refl, b.1 ∙ sym a.1)
join_one s t u w v Reply.NotNow _ kept a b = absurd b
join_one s t u w v _ q kept a b = absurd a

pub one_reply : (s t u : State) (e : Event) (r q : Reply) → KeepsInvariants s → Step s e r t → OpensLeast s e r → Step s e q u → OpensLeast s e q → (q ≡ r) ×
    (u ≡ t)
one_reply s t u (Event.Look w) r q kept a least b least' = look_one s t u w r q a b
one_reply s t u (Event.Take w) r q kept a least b least' = take_one s t u w r q a b
one_reply s t u (Event.Drop w) r q kept a least b least' = drop_one s t u w r q a b
one_reply s t u (Event.Open e) r q kept a least b least' = open_one s t u e r q a least b least'
one_reply s t u Event.Publish r q kept a least b least' = publish_one s t u r q kept a b
one_reply s t u (Event.Close k) r q kept a least b least' = close_one s t u k r q a b
one_reply s t u (Event.Collect k) r q kept a least b least' = collect_one s t u k r q a b
one_reply s t u (Event.Ask w) r q kept a least b least' = ask_one s t u w r q a b
one_reply s t u Event.Note r q kept a least b least' = note_one s t u r q a b
one_reply s t u (Event.Join w v) r q kept a least b least' = join_one s t u w v r q kept a b
