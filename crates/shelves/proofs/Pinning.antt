-- What a pin and a release tell: of the versions that the seat has seen, of what it knows, and of what came last in the history.
use Rattle.std.proofs.Common.{◌≡◌, ℕ, ◌≤◌, List, [], ◌∷◌, ◌++◌, Some, slice_get, refl, ap, sym, ◌∙◌, subst, arith}
use Rattle.std.specs.Arc.{arc_value}
use Rattle.std.specs.declared.snapshot.Snapshot.{Snapshot}
use Rattle.image_layout.specs.Image.{ImageValue}
use Rattle.version_core.specs.declared.event.Event.{Event}
use Rattle.version_core.specs.declared.event.Reply.{Reply}
use Rattle.version_core.specs.declared.state.Worker.{Worker}
use Rattle.shelf_steps.specs.declared.edition.Edition.{Edition}
use Rattle.shelf_steps.specs.declared.views.KnownHistory.{KnownHistory}
use Rattle.shelf_steps.specs.declared.views.WorkerView.{WorkerView}
use Rattle.shelf_steps.specs.declared.views.View.{View}
use Rattle.shelf_steps.specs.EventHistory.{Happened}
use Rattle.shelf_steps.specs.Events.{known_of}
use Rattle.shelf_steps.specs.Plays.{OfWorker, SeatAndSlots}
use Rattle.shelf_steps.specs.Pinning.{HoldingTry, LateTry, ReleasesShelf, TryIsLate, TryHolds, TriesAreLate, Pins, Moves, Releases, IsIdleAs, IsHoldingAs}
use Rattle.shelves.specs.declared.answers.SeatAnswer.{SeatAnswer}
use Rattle.shelves.specs.Seats.{SeatValue}
use Rattle.shelves.specs.SeatHistory.{Grows, HoldsIn, IsFound, EndsHolding, EndsLate}
use Rattle.shelves.specs.ShelfSeats.{seen_of}
use Rattle.shelves.proofs.GrowthLemmas.{growths_join, happened_grows, same_grows}

-- what holds of any two views of a worker holds of two views of which this is said
of_workers : (P : WorkerView → WorkerView → Type 0) (Q : View → View → Type 0) (u u' : View)
    → ((a b : WorkerView) → P a b → Q (View.Working a) (View.Working b)) → OfWorker u (λ a. OfWorker u' (λ b. P a b)) → Q u u'
of_workers P Q (View.Working a) (View.Working b) each h = each a b h
of_workers P Q (View.Working a) _ each h = absurd h
of_workers P Q _ u' each h = absurd h

-- the view is that of the worker with this number
abbrev IsOf : ℕ → View → Type 0
IsOf number u = OfWorker u (λ a. a.number ≡ number)

holder_is : (number shelf : ℕ) (e : Edition) (u : View)
    → OfWorker u (λ a. (a.now ≡ Worker.Holding shelf e.version) × (a.number ≡ number) × (a.edition ≡ Some e)) → IsOf number u
holder_is number shelf e (View.Working a) h = h.1
holder_is number shelf e _ h = absurd h

idle_is : (number : ℕ) (u : View) → OfWorker u (λ a. (a.now ≡ Worker.Idle) × (a.number ≡ number)) → IsOf number u
idle_is number (View.Working a) h = h.1
idle_is number _ h = absurd h

-- a try whose look found the version n, and what it ended with
record TryTells (number n : ℕ) (Ends : KnownHistory → KnownHistory → Type 0) (u u' : View) : Type 0 where
  pub low : seen_of u ≤ n
  pub seen : seen_of u' ≡ n
  pub grows : Grows (known_of u) (known_of u')
  pub ends : (before : KnownHistory) → Grows before (known_of u) → IsOf number u' → Ends before (known_of u')

-- the look of a try, by the worker's number
found : (before known looked : KnownHistory) (w number n shelf : ℕ) → Grows before known → w ≡ number
    → Happened known (Event.Look w) (Reply.Looked n shelf) looked → IsFound before number n shelf looked
found before known looked w number n shelf grows same look = record {
  first = known;
  since = grows;
  look = subst (λ m. Happened known (Event.Look m) (Reply.Looked n shelf) looked) same look;
}

late_tells : (number n : ℕ) (u u' : View) → TryIsLate u n u' → TryTells number n (λ x y. EndsLate x number n y) u u'
late_tells number n u u' = of_workers (λ a b. LateTry a n b) (λ v v'. TryTells number n (λ x y. EndsLate x number n y) v v') u u' (λ a b h. record {
  low = h.look.from;
  seen = h.seen;
  grows = growths_join a.known h.taken b.known
      (growths_join a.known h.looked h.taken (happened_grows a.known h.looked _ _ h.look.happened) (happened_grows h.looked h.taken _ _ h.take))
      (happened_grows h.taken b.known _ _ h.drop);
  ends = λ before grows is.
      let same : a.number ≡ number = sym h.number ∙ is in (
        h.shelf,
        h.looked,
        h.taken,
        found before a.known h.looked a.number number n h.shelf grows same h.look.happened,
        subst (λ m. Happened h.looked (Event.Take m) Reply.Late h.taken) same h.take,
        subst (λ m. Happened h.taken (Event.Drop m) Reply.Dropped b.known) same h.drop,
      );
})

well_tells : (number n shelf : ℕ) (e : Edition) (u u' : View) → TryHolds u n shelf e u' → TryTells number n (λ x y. EndsHolding x number n y) u u'
well_tells number n shelf e u u' = of_workers (λ a b. HoldingTry a n shelf e b) (λ v v'. TryTells number n (λ x y. EndsHolding x number n y) v v') u u'
    (λ a b h. record {
      low = h.look.from;
      seen = h.seen;
      grows = growths_join a.known h.looked b.known (happened_grows a.known h.looked _ _ h.look.happened) (happened_grows h.looked b.known _ _ h.take);
      ends = λ before grows is.
          let same : a.number ≡ number = sym h.number ∙ is in (
            shelf,
            h.looked,
            found before a.known h.looked a.number number n shelf grows same h.look.happened,
            subst (λ m. Happened h.looked (Event.Take m) (Reply.Holds n) b.known) same h.take,
          );
    })

well_holds : (number shelf : ℕ) (e : Edition) (u u' : View) → TryHolds u e.version shelf e u'
    → OfWorker u' (λ a. (a.now ≡ Worker.Holding shelf e.version) × (a.number ≡ number) × (a.edition ≡ Some e))
    → HoldsIn (known_of u') number e.version (arc_value e.image)
well_holds number shelf e u u' = of_workers (λ a b. HoldingTry a e.version shelf e b) (λ v v'.
    OfWorker v' (λ a. (a.now ≡ Worker.Holding shelf e.version) × (a.number ≡ number) × (a.edition ≡ Some e))
    → HoldsIn (known_of v') number e.version (arc_value e.image)) u u' (λ a b h is.
    let its = h.its in let is_it : e ≡ its.0 = cc in
    record {
      state = h.shows.0;
      shelf = shelf;
      history = h.shows.1;
      holds = subst (λ m. slice_get h.shows.0.workers m ≡ Some b.now) is.1 h.shows.2.now ∙ ap (λ (w : Worker). Some w) is.0;
      published = its.3 ∙ ap (λ (x : Edition). Some (arc_value x.image)) (sym is_it);
    })

lates_tell : (ns : List ℕ) (u u' : View) → TriesAreLate u ns u' → (seen_of u ≤ seen_of u') × Grows (known_of u) (known_of u')
lates_tell [] u u' h = let e : seen_of u' ≡ seen_of u = ap (λ (v : View). seen_of v) h in ((omega arith), same_grows u u' h)
lates_tell (n ∷ ns) u u' h =
    let a = late_tells 0 n u h.0 h.1 in let b = lates_tell ns h.0 u' h.2 in let up = a.low in let is = a.seen in let on = b.0 in
    ((omega arith), growths_join (known_of u) (known_of h.0) (known_of u') a.grows b.1)

-- what a pin tells
pub record PinTells (number : ℕ) (e : Edition) (u u' : View) : Type 0 where
  pub low : seen_of u ≤ e.version
  pub seen : seen_of u' ≡ e.version
  pub grows : Grows (known_of u) (known_of u')
  pub holds : HoldsIn (known_of u') number e.version (arc_value e.image)
  pub ends : EndsHolding (known_of u) number e.version (known_of u')

pub pin_tells : (u : View) (m : SeatAndSlots) (number shelf : ℕ) (e : Edition) → Pins u e.version shelf e m.0 → IsHoldingAs number shelf e m
    → PinTells number e u m.0
pin_tells u m number shelf e h is =
    let first = lates_tell h.0 u h.2 h.3 in let last = well_tells number e.version shelf e h.2 m.0 h.4 in
    let up = first.0 in let low = last.low in
    record {
      low = omega arith;
      seen = last.seen;
      grows = growths_join (known_of u) (known_of h.2) (known_of m.0) first.1 last.grows;
      holds = well_holds number shelf e h.2 m.0 h.4 is.0;
      ends = last.ends (known_of u) first.1 (holder_is number shelf e m.0 is.0);
    }

-- of four late tries, the last; the history has grown by the three before it
pub moves_tell : (u : View) (m : SeatAndSlots) (number n : ℕ) → Moves u n m.0 → IsIdleAs number m
    → Grows (known_of u) (known_of m.0) × EndsLate (known_of u) number n (known_of m.0)
moves_tell u m number n h is =
    let t = h.3 in let third = t.2.2.0 in let first = lates_tell (h.0 ∷ h.1 ∷ h.2 ∷ []) u third (t.0, t.1, (t.2.0, t.2.1, (third, t.2.2.1, refl))) in
    let last = late_tells number n third m.0 (subst (λ (v : View). TryIsLate third n v) (sym t.2.2.2.2) t.2.2.2.1) in
    (growths_join (known_of u) (known_of third) (known_of m.0) first.1 last.grows, last.ends (known_of u) first.1 (idle_is number m.0 is.0))

pub releases_tell : (u : View) (m : SeatAndSlots) (number : ℕ) → Releases u m.0 → IsIdleAs number m
    → Grows (known_of u) (known_of m.0) × Happened (known_of u) (Event.Drop number) Reply.Dropped (known_of m.0)
releases_tell u m number h is = of_workers ReleasesShelf (λ v v'. IsOf number v'
    → Grows (known_of v) (known_of v') × Happened (known_of v) (Event.Drop number) Reply.Dropped (known_of v')) u m.0 (λ a b r of. (
      happened_grows a.known b.known _ _ r.happened,
      subst (λ m. Happened a.known (Event.Drop m) Reply.Dropped b.known) (sym r.number ∙ of) r.happened,
    )) h (idle_is number m.0 is.0)

-- what a seat shows after a pin
pub pinned_is : (before answers : List SeatAnswer) (image : Snapshot ImageValue) (shown : ImageValue) (version seen : ℕ)
    → answers ≡ before ++ SeatAnswer.Pinned version image ∷ [] → image.value ≡ shown → seen ≡ version
    → ◌≡◌ {A = SeatValue} (record { answers = answers; held = Some (version, shown); seen = seen })
    (record { answers = before ++ SeatAnswer.Pinned version image ∷ []; held = Some (version, image.value); seen = version })
pinned_is before answers image shown version seen noted shows same = λ i. record { answers = noted i; held = Some (version, sym shows i); seen = same i }
