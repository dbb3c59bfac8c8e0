-- What a seat shows it knows, and what is pinned is left alone.
use Rattle.std.proofs.Common.{◌≡◌, ℕ, ◌+◌, ◌*◌, List, [], map, Option, Some, None, MatchOption, refl, ap, sym, ◌∙◌, subst}
use Rattle.std.specs.Arc.{arc_value}
use mathlib.Core.Option.{some, none}
use lib.ListN.{get_elem?}
use Rattle.atomic_table.specs.Seated.{TableId}
use Rattle.image_layout.specs.Image.{ImageValue}
use Rattle.version_core.specs.declared.state.Worker.{Worker}
use Rattle.shelf_steps.specs.declared.edition.Edition.{Edition}
use Rattle.shelf_steps.specs.declared.views.WorkerView.{WorkerView}
use Rattle.shelf_steps.specs.declared.views.View.{View}
use Rattle.shelf_steps.specs.EventHistory.{NeverFreedSince}
use Rattle.shelf_steps.specs.Events.{known_of}
use Rattle.shelf_steps.specs.Plays.{SeatAndSlots, OfWorker}
use Rattle.shelf_steps.proofs.Says.{held_have}
use Rattle.shelf_steps.proofs.Held.{slots_are_out, in_use, held_stay}
use Rattle.shelves.specs.declared.answers.SeatAnswer.{SeatAnswer}
use Rattle.shelves.specs.ShelfSeats.{ShelfSeatValue, FitsSeat, HoldsByView, ShowsWhatItKnows, slots_of, held_at, seen_of}
use Rattle.shelves.specs.Pinned.{PinnedAreLeftAlone}

-- the worker's view of which something holds
a_worker : (P : WorkerView → Type 0) (u : View) → OfWorker u P → (v : WorkerView) × (u ≡ View.Working v) × P v
a_worker P (View.Working v) h = (v, refl, h)
a_worker P _ h = absurd h

idle_is : (number : ℕ) (u : View) → OfWorker u (λ a. (a.now ≡ Worker.Idle) × (a.number ≡ number)) → OfWorker u (λ a. a.now ≡ Worker.Idle)
idle_is number (View.Working v) h = h.0
idle_is number _ h = absurd h

-- a seat as its parts show it
abbrev seat_value : TableId → ℕ → Option (ℕ × Edition) → SeatAndSlots → List SeatAnswer → ShelfSeatValue
seat_value table number held m answers = record {
  table = table;
  number = number;
  view = m.0;
  slots = slots_of m;
  shown = record { answers = answers; held = held_at held; seen = seen_of m.0 };
}

pub shows : (table : TableId) (number : ℕ) (held : Option (ℕ × Edition)) (m : SeatAndSlots) (answers : List SeatAnswer) → FitsSeat number held m
    → ShowsWhatItKnows (seat_value table number held m answers)
shows table number None m answers h = (idle_is number m.0 h.0, ap (λ (c : List (ℕ × Option Edition)). map (λ (s : ℕ × Option Edition). s.0) c) h.1)
shows table number (Some x) m answers h =
    let v = a_worker (λ a. (a.now ≡ Worker.Holding x.0 x.1.version) × (a.number ≡ number) × (a.edition ≡ Some x.1)) m.0 h.1.0 in
    record {
      shelf = x.0;
      small = h.0;
      worker = v.0;
      is_worker = v.1;
      number = v.2.1;
      now = v.2.0;
      edition = (x.1, v.2.2, refl, refl);
      slot = ap (λ (c : List (ℕ × Option Edition)). map (λ (s : ℕ × Option Edition). s.0) c) h.1.1;
    }

pub pinned_left_alone : PinnedAreLeftAlone
pinned_left_alone seat version image table i r shown held at =
    let h : HoldsByView seat version image =
    subst (λ (o : Option (ℕ × ImageValue)). MatchOption o (OfWorker seat.view (λ v. v.now ≡ Worker.Idle)
    × (seat.slots ≡ [])) (λ x. HoldsByView seat x.0 x.1)) held shown in
    let k = h.shelf in let w = h.worker in let l = r.loader in let loads = r.seats.loader_seat in
    let here : get_elem? table.views i ≡ some (View.Working w) = at ∙ ap (λ (u : View). some u) h.is_worker in
    let has = held_have table l i k version w r loads here h.now in
    let out = slots_are_out table l i k version w r loads here h.now in
    let both : Some h.edition.0 ≡ Some has.1.0 = sym h.edition.1 ∙ has.1.1 in
    let same : h.edition.0 ≡ has.1.0 = cc in
    record {
      shelf = k;
      stands = has.0;
      published = has.1.3 ∙ (ap (λ (e : Edition). Some (arc_value e.image)) (sym same) ∙ ap (λ (x : ImageValue). Some x) h.edition.3);
      slot = h.slot;
      out = subst (λ n. get_elem? table.homes (16 * k + n) ≡ some none) h.number out.0;
      not_loaders = out.1;
      in_use = λ v. in_use table l i k version v w r loads here h.now;
      never_freed = subst (λ (u : View). NeverFreedSince k (known_of u) r.history) (sym h.is_worker) (held_stay table i k version w r here h.now);
    }
