-- What keeps the history beside the table.
use Rattle.std.proofs.Common.{◌≡◌, ◌≢◌, ℕ, ◌≤◌, List, [], ◌∷◌, ◌++◌, length, Option, None, Some, slice_get, get_or, refl, ap, sym, ◌∙◌, subst, arith}
use Rattle.std.specs.Arc.{arc_value}
use Rattle.std.proofs.lemmas.Option.{get_or_from_slice_get, slice_get_within, slice_get-get_or}
use Rattle.reasoning.proofs.ListLemmas.{slice_get-set_same}
use Rattle.image_layout.specs.Image.{ImageValue}
use Rattle.version_core.specs.declared.event.Event.{Event}
use Rattle.version_core.specs.declared.event.Reply.{Reply}
use Rattle.version_core.specs.declared.state.Worker.{Worker}
use Rattle.version_core.specs.declared.state.Shelf.{Shelf}
use Rattle.version_core.specs.State.{State, start, looked}
use Rattle.version_core.specs.Actors.{actor}
use Rattle.version_core.specs.Steps.{Step, LookStep, TakeStep, IsIdle}
use Rattle.version_core.specs.Invariants.{KeepsInvariants}
use Rattle.version_core.specs.Rest.{IsNoLoad, RestStays}
use Rattle.version_core.specs.Laws.{RunsGrow, LooksAndTakesHold}
use Rattle.shelf_steps.specs.declared.edition.Edition.{Edition}
use Rattle.epochs.specs.History.{IsHistory, AreShelved, IsEdition}
use Rattle.epochs.specs.Pins.{IsCurrent, IsLookAndTake}
use Rattle.shelves.proofs.Resting.{LeavesShelves, other_leaves}

pub worker_leaves : (s t : State) (e : Event) (w : ℕ) (r : Reply) → actor e ≡ Some w → Step s e r t → LeavesShelves s t
worker_leaves s t e w r its step = other_leaves s e r t (λ none. let z : Some w ≡ None = sym its ∙ none in cc) step

-- an event that is no load and opens nothing
pub history_goes_on : (s t : State) (before events : List Event) (images : List ImageValue) (event : Event) (r : Reply)
    → RunsGrow → RestStays → IsHistory s before images
    → IsNoLoad event → Step s event r t → t.editions ≡ s.editions → events ≡ before ++ event ∷ [] → IsHistory t events images
history_goes_on s t before events images event r grow stays h no_load step same more = record {
  run = grow start s t before events event r h.run more step;
  rest = stays s t event r h.rest no_load step;
  as_many = h.as_many ∙ ap (λ (l : List ℕ). length l) (sym same);
  numbered = λ i e is. h.numbered i e (ap (λ (l : List ℕ). slice_get l i) (sym same) ∙ is);
}

pub still_shelved : (s t : State) (editions : List (Option Edition)) (images : List ImageValue) → LeavesShelves s t
    → AreShelved s.shelves editions images → AreShelved t.shelves editions images
still_shelved s t editions images same h = subst (λ (l : List Shelf). AreShelved l editions images) (sym same.shelves) h

-- the shelf of the current version has its edition
pub current_there : (s : State) (editions : List (Option Edition)) (images : List ImageValue) (version shelf : ℕ)
    (d : Option Edition) → KeepsInvariants s → AreShelved s.shelves editions images
    → version ≡ s.current → shelf ≡ s.current_shelf → d ≡ get_or editions shelf d → IsEdition images version d
current_there s editions images version shelf d kept h v k is =
    let within = slice_get_within s.shelves s.current_shelf _ kept.shelves.current_open in let l = kept.shelves.eight in let m = h.eight in
    let there : slice_get editions shelf ≡ Some d = slice_get-get_or editions shelf d (omega arith) ∙ ap (λ (x : Option Edition). Some x) (sym is) in
    h.each shelf (Shelf.Open version) d (ap (λ n. slice_get s.shelves n) k ∙ (kept.shelves.current_open ∙ ap (λ n. Some (Shelf.Open n)) (sym v))) there

pub current_is : (s : State) (events : List Event) (images : List ImageValue) (version shelf : ℕ) (d : Option Edition)
    (e : Edition) (image : ImageValue) → IsEdition images version d → d ≡ Some e → image ≡ arc_value e.image
    → version ≡ s.current → shelf ≡ s.current_shelf → IsCurrent (record { state = s; events = events; images = images }) shelf version image
current_is s events images version shelf d e image there some same v k =
    let both : Some there.0 ≡ Some e = sym there.1 ∙ some in
    let one : there.0 ≡ e = cc in
    record { shelf_is = k; version_is = v; image_is = there.3 ∙ ap (λ (x : ImageValue). Some x) (ap (λ (x : Edition). arc_value x.image) one ∙ sym same) }

pub never_none : (images : List ImageValue) (version : ℕ) (d : Option Edition) → IsEdition images version d → ((e : Edition) → d ≢ Some e) → ⊥
never_none images version d there not = not there.0 there.1

-- an idle worker has seen nothing newer than the current version
pub idle_seen : (s : State) (w seen : ℕ) → KeepsInvariants s → IsIdle s w → slice_get s.seen w ≡ Some seen → seen ≤ s.current
idle_seen s w seen kept idle is = let f = kept.workers.each w Worker.Idle idle in let e = get_or_from_slice_get s.seen w seen 0 is in omega arith

-- a worker that has looked has seen the current version
pub looked_seen : (s : State) (w : ℕ) → KeepsInvariants s → IsIdle s w → slice_get (looked s w).seen w ≡ Some s.current
looked_seen s w kept idle =
    let within = slice_get_within s.workers w _ idle in let m = kept.workers.sixteen in let n = kept.workers.sixteen_seen in
    slice_get-set_same s.seen w s.current (omega arith)

pub looks_and_takes : (s t u : State) (w : ℕ) (first second : Reply) (before events : List Event)
    (images : List ImageValue) → LooksAndTakesHold → KeepsInvariants s → IsIdle s w → LookStep s w first t → TakeStep t w second u
    → events ≡ before ++ Event.Look w ∷ Event.Take w ∷ []
    → IsLookAndTake (record { state = s; events = before; images = images }) w (record { state = u; events = events; images = images })
looks_and_takes s t u w first second before events images law kept idle look take more =
    let both = law s t u w first second kept idle look take in
    record {
      run = (t, subst (λ (r : Reply). LookStep s w r t) both.0 look, (u, subst (λ (r : Reply). TakeStep t w r u) both.1 take, refl));
      events = more;
      images = refl;
      holds = both.3;
      seen = subst (λ (x : State). slice_get x.seen w ≡ Some s.current) (sym both.2) (looked_seen s w kept idle);
    }
