-- What a loader's seat is answered.
use Rattle.std.proofs.Common.{◌≡◌, ◌≢◌, ℕ, zero, suc, ◌<◌, ◌≤◌, true, List, [], ◌∷◌, ◌++◌, Some, slice_get, get_or, refl, ap, sym, ◌∙◌, subst, arith, inl, inr}
use Rattle.std.proofs.lemmas.Option.{slice_get_within, slice_get-get_or}
use Rattle.image_layout.specs.Image.{ImageValue}
use Rattle.version_core.specs.declared.state.Shelf.{Shelf}
use Rattle.version_core.specs.declared.state.Worker.{Worker}
use Rattle.version_core.specs.State.{State, most_versions, newest, start}
use Rattle.version_core.specs.Invariants.{KeepsInvariants, version_of}
use Rattle.version_core.specs.Rest.{IsAtRest}
use Rattle.std.specs.Option.{option_and_then}
use Rattle.reasoning.proofs.ListLemmas.{slice_get-replicate, slice_get-set_other}
use Rattle.shelves.specs.declared.collected.Collected.{Collected}
use Rattle.shelves.specs.declared.faults.PublishFault.{PublishFault}
use Rattle.shelves.specs.declared.answers.LoaderAnswer.{LoaderAnswer}
use Rattle.shelves.specs.Seats.{ShowsRefusal}
use Rattle.epochs.specs.WorkerSeats.{WorkerSeatValue, idle_seat}
use Rattle.epochs.specs.Pins.{SeatAgrees, PinsCurrent, ReleasesHeld}
use Rattle.epochs.specs.History.{TableValue}
use Rattle.epochs.specs.Publishing.{TriesClosing, MakesRoom, PublishesNext, RefusesPublish, AreAllInUse, StaysCurrent, is_freed, busy_count}

freed_is_left : (shelf : Shelf) (count : ℕ) → is_freed shelf count ≡ true → busy_count shelf count ≡ 0
freed_is_left Shelf.Free count h = refl
freed_is_left (Shelf.Open v) count h = refl
freed_is_left (Shelf.Closing v) zero h = refl
freed_is_left (Shelf.Closing v) (suc n) h = absurd (cc)

pub freed_never_busy : (a : TableValue) (found : Collected) (b : TableValue) → KeepsInvariants a.state → TriesClosing a found b
    → (k : ℕ) → k < 8 → slice_get found.freed k ≡ Some true → slice_get found.busy k ≡ Some 0
freed_never_busy a found b kept h k small is =
    let eight = kept.shelves.eight in
    let shelf = get_or a.state.shelves k Shelf.Free in
    let each = h.each k shelf (slice_get-get_or a.state.shelves k Shelf.Free (omega arith)) in
    let both : Some (is_freed shelf (get_or a.state.counts k 0)) ≡ Some true = sym each.0 ∙ is in
    let freed : is_freed shelf (get_or a.state.counts k 0) ≡ true = cc in
    each.1 ∙ ap (λ n. Some n) (freed_is_left shelf (get_or a.state.counts k 0) freed)

some_version : (s : State) → KeepsInvariants s → 0 < s.current
some_version s kept = (kept.shelves.known s.current_shelf s.current (ap (λ o. option_and_then version_of o) kept.shelves.current_open)).0

same_newest : (a room : TableValue) → MakesRoom a room → newest room.state ≡ newest a.state
same_newest a room h = elim h [
  | inl x ↦ ap (λ (t : TableValue). newest t.state) x.1
  | inr y ↦ ap (λ (s : State). newest s) y.1.1.state
]

pub version_within : (a room b : TableValue) (image : ImageValue) (version : ℕ) → KeepsInvariants a.state → IsAtRest a.state
    → KeepsInvariants b.state → IsAtRest b.state → MakesRoom a room → PublishesNext room image version b
    → (1 < version) × (version ≤ most_versions)
version_within a room b image version kept rest after rested made h =
    let first = some_version a.state kept in let same = same_newest a room made in let p = rest.published in let next = h.next in
    let q = rested.published in let current = h.current in let most = after.room in
    ((omega arith), (omega arith))

pub refused_so : (a b : TableValue) (before after : List LoaderAnswer) (fault : PublishFault) → KeepsInvariants a.state
    → RefusesPublish a fault b → after ≡ before ++ LoaderAnswer.PublishRefused fault ∷ []
    → ShowsRefusal before fault after
refused_so a b before after PublishFault.VersionsSpent kept h fact = fact
refused_so a b before after PublishFault.OutOfMemory kept h fact = fact
refused_so a b before after (PublishFault.ShelvesFull counts) kept h fact =
    let full : AreAllInUse a.state counts = h.3 in
    let within = slice_get_within a.state.shelves a.state.current_shelf _ kept.shelves.current_open in let eight = kept.shelves.eight in
    ((a.state.current_shelf, (omega arith), full.current, full.others), fact)

pub new_seats_fit : (number : ℕ) → number < 16 → SeatAgrees start (idle_seat number)
new_seats_fit number small = (slice_get-replicate 16 number Worker.Idle small, slice_get-replicate 16 number 0 small)

fits_still : (s t : State) (seat : WorkerSeatValue) → slice_get t.workers seat.number ≡ slice_get s.workers seat.number
    → slice_get t.seen seat.number ≡ slice_get s.seen seat.number → SeatAgrees s seat → SeatAgrees t seat
fits_still s t seat workers seen h = (workers ∙ h.0, seen ∙ h.1)

pub pins_leave_others : (a b : TableValue) (seat after other : WorkerSeatValue) → PinsCurrent a seat b after
    → other.number ≢ seat.number → SeatAgrees a.state other → SeatAgrees b.state other
pins_leave_others a b seat after other h apart fits =
    let s = a.state in let w = seat.number in let n = other.number in
    let run = h.taken.run in let mid = run.0 in let look = run.1.3 in
    let is : b.state ≡ run.2.0 = run.2.2 in
    let gone = run.2.1.3 in
    fits_still s b.state other
    (ap (λ (x : State). slice_get x.workers n) (is ∙ gone)
    ∙ (slice_get-set_other mid.workers w n _ apart
    ∙ (ap (λ (x : State). slice_get x.workers n) look ∙ slice_get-set_other s.workers w n _ apart)))
    (ap (λ (x : State). slice_get x.seen n) (is ∙ gone) ∙ (ap (λ (x : State). slice_get x.seen n) look ∙ slice_get-set_other s.seen w n _ apart))
    fits

pub releases_leave_others : (a b : TableValue) (seat after other : WorkerSeatValue) → ReleasesHeld a seat b after
    → other.number ≢ seat.number → SeatAgrees a.state other → SeatAgrees b.state other
releases_leave_others a b seat after other h apart fits =
    let s = a.state in let n = other.number in
    let drop = h.dropped.run.1 in
    let is : b.state ≡ h.dropped.run.0 = h.dropped.run.2 in
    fits_still s b.state other
    (ap (λ (x : State). slice_get x.workers n) (is ∙ drop.2) ∙ slice_get-set_other s.workers seat.number n _ apart)
    (ap (λ (x : State). slice_get x.seen n) (is ∙ drop.2))
    fits

pub publishes_leave_seats : (a b : TableValue) (seat : WorkerSeatValue) (image : ImageValue) (version : ℕ)
    → PublishesNext a image version b → SeatAgrees a.state seat → SeatAgrees b.state seat
publishes_leave_seats a b seat image version h fits =
    let first = h.run.1 in let second = h.run.2.1 in let third = h.run.2.2.1 in
    let is : b.state ≡ h.run.2.2.0 = h.run.2.2.2 in
    let workers : b.state.workers ≡ a.state.workers =
    ap (λ (x : State). x.workers) is ∙ (ap (λ (x : State). x.workers) third.2
    ∙ (ap (λ (x : State). x.workers) second.2 ∙ ap (λ (x : State). x.workers) first.3)) in
    let seen : b.state.seen ≡ a.state.seen =
    ap (λ (x : State). x.seen) is ∙ (ap (λ (x : State). x.seen) third.2
    ∙ (ap (λ (x : State). x.seen) second.2 ∙ ap (λ (x : State). x.seen) first.3)) in
    fits_still a.state b.state seat (ap (λ l. slice_get l seat.number) workers) (ap (λ l. slice_get l seat.number) seen) fits

pub collects_leave_seats : (a b : TableValue) (seat : WorkerSeatValue) (found : Collected) → TriesClosing a found b → SeatAgrees a.state seat
    → SeatAgrees b.state seat
collects_leave_seats a b seat found h fits =
    fits_still a.state b.state seat (ap (λ (x : State). slice_get x.workers seat.number) h.state)
    (ap (λ (x : State). slice_get x.seen seat.number) h.state) fits

collected_stays : (a b : TableValue) (found : Collected) → TriesClosing a found b → StaysCurrent a b
collected_stays a b found h = record {
  current = ap (λ (x : State). x.current) h.state;
  shelf = ap (λ (x : State). x.current_shelf) h.state;
  images = h.images;
}

same_stays : (a b : TableValue) → b ≡ a → StaysCurrent a b
same_stays a b same = subst (λ t. StaysCurrent a t) (sym same) (record { current = refl; shelf = refl; images = refl })

-- what a refusal leaves as it was
pub stays_current : (a b : TableValue) (fault : PublishFault) → RefusesPublish a fault b → StaysCurrent a b
stays_current a b PublishFault.VersionsSpent h = same_stays a b h.1
stays_current a b (PublishFault.ShelvesFull counts) h = collected_stays a b h.2.0 h.2.1
stays_current a b PublishFault.OutOfMemory h = elim h.1 [ inl x ↦ same_stays a b x.1 | inr y ↦ collected_stays a b y.1.0 y.1.1 ]
