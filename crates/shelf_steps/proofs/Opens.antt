-- The start, and the seats that are handed out.
use Rattle.image_layout.specs.Image.{ImageValue}
use Rattle.reasoning.proofs.ListLemmas.{slice_get-replicate-is}
use Rattle.std.proofs.lemmas.Option.{slice_get_within}
use Rattle.std.proofs.Common.{◌≡◌, ◌≢◌, ℕ, zero, suc, ◌+◌, ◌*◌, ◌<◌, ◌≤◌, ◌==◌, ◌⊎◌, true, false, cond, List, [], ◌∷◌}
use Rattle.std.proofs.Common.{◌++◌, map, length, replicate, set, get_or, Option, Some, None, slice_get, refl, ap, sym}
use Rattle.std.proofs.Common.{◌∙◌, subst, arith, rules, inl, inr, ⊎_elim, length-set, length-append}
use Rattle.std.proofs.lemmas.Bool.Decides.{nat_tests}
use Rattle.std.proofs.lemmas.List.{append-nil}
use mathlib.Core.Logic.{dite}
use mathlib.Core.Option.{some, some-injective, some-ne-none}
use native.Mathlib.Decide.{ℕ_discrete}
use lib.ListN.{get_elem?}
use Rattle.atomic_table.specs.Table.{opening, Splits}
use Rattle.atomic_table.proofs.Lists.{at_map, at_set, set_here, set_else, at_last, at_longer}
use Rattle.version_core.specs.declared.state.Shelf.{Shelf}
use Rattle.version_core.specs.declared.state.Worker.{Worker}
use Rattle.version_core.specs.State.{start}
use Rattle.version_core.specs.Invariants.{KeepsInvariants}
use Rattle.shelf_steps.specs.declared.edition.Edition.{Edition}
use Rattle.shelf_steps.specs.declared.views.LoaderView.{LoaderView}
use Rattle.shelf_steps.specs.declared.views.View.{View}
use Rattle.shelf_steps.specs.EventHistory.{EventHistory, LeadsToItsState, HasDoneNothing}
use Rattle.version_core.specs.Shown.{shelf_word}
use Rattle.shelf_steps.specs.Seats.{WorkerFits, SeatsFit, SeatFits}
use Rattle.shelf_steps.specs.Slots.{SlotsFit, SlotFits, held_by}
use Rattle.shelf_steps.specs.Rule.{KeepsRule, notices_of, first_loader_view, first_words, FirstSlot, FirstSlots}
use Rattle.shelf_steps.specs.Steps.{StartIsRuled, HandingsAddNothing}
use Rattle.shelf_steps.specs.Plays.{MayHandOut, one_more, newcomer, keeps_loading, new_worker_view}
use Rattle.shelf_steps.proofs.Courses.{kept_of, begins_all}
use Rattle.shelf_steps.proofs.Frames.{there, seats_differ}
use Rattle.shelf_steps.proofs.Says.{loader_slots}
use Rattle.shelf_steps.proofs.NoteLists.{notices_loader, notices_more}

abbrev first_course : ImageValue → EventHistory
first_course image = record { state = start; events = []; replies = []; images = image ∷ [] }

only_first : (i edition : ℕ) → slice_get (0 ∷ []) i ≡ Some edition → edition ≡ i
only_first zero edition e = cc
only_first (suc i) edition e = absurd (cc)

first_goes : (image : ImageValue) → LeadsToItsState (first_course image)
first_goes image = record { run = refl; workers = tt; as_many = refl; numbered = only_first }

first_each : (k : ℕ) (x : Shelf) → slice_get start.shelves k ≡ Some x → get_or first_words (k + 1) 0 ≡ shelf_word x (get_or start.counts k 0)
first_each = search rules

first_seat : (image : ImageValue) (seat : ℕ) (u : View)
    → get_elem? (View.Loading (first_loader_view image) ∷ []) seat ≡ some u
    → SeatFits (first_course image) (first_loader_view image) (λ n. 0) seat u
first_seat image zero u e = subst (λ (x : View). SeatFits (first_course image) (first_loader_view image) (λ n. 0) 0 x)
    (some-injective (View.Loading (first_loader_view image)) u e) (refl, refl)
first_seat image (suc seat) u e = absurd (some-ne-none u (sym e))

first_workers : (w : ℕ) → 0 ≤ w → w < 16 → (slice_get start.workers w ≡ Some Worker.Idle) × (get_or start.seen w 0 ≡ 0) × HasDoneNothing w []
first_workers = search rules

first_at : (image : ImageValue) (items : List (Option Edition)) → FirstSlots image 128 items
    → SlotsFit (map some items) start.shelves start.workers (image ∷ []) None
first_at image items f zero w x at less =
    let q = f.1 (16 * zero + w) (omega arith) in
    let h = q.2.0 (omega arith) in
    let same : Shelf.Open 1 ≡ x = cc in
    subst (λ (y : Shelf). SlotFits (held_by (image ∷ []) start.workers None) y zero w (get_elem? (map some items) (16 * zero + w))) same (
      (λ e. cc),
      inl (
        q.0,
        at_map some items (16 * zero + w) q.0 q.1,
        (h.0, h.1, h.2, ap (λ (i : ImageValue). Some i) (sym h.3)),
        (λ e. let z = slice_get-replicate-is 16 w Worker.Idle (Worker.Holding zero 1) e in cc),
      ),
    )
first_at image items f (suc k) w x at less =
    let low : k < 7 = slice_get_within (replicate 7 Shelf.Free) k x at in
    let q = f.1 (16 * suc k + w) (omega arith) in
    subst (λ (y : Shelf). SlotFits (held_by (image ∷ []) start.workers None) y (suc k) w (get_elem? (map some items) (16 * suc k + w)))
    (sym (slice_get-replicate-is 7 k Shelf.Free x at))
    (inl ((λ e. cc), at_map some items (16 * suc k + w) q.0 q.1 ∙ ap (λ (y : Option Edition). some (some y)) (q.2.1 (omega arith))))

pub start_ruled : StartIsRuled
start_ruled image items f = (
  record {
    history = first_course image;
    loader = first_loader_view image;
    goes = first_goes image;
    words = record { nine = refl; cur = refl; each = first_each };
    seats = record {
      owner = λ n. 0;
      loader_seat = refl;
      loads = record {
        shows = record { current = refl; current_shelf = refl; shelves = refl; newest_is = refl };
        images = refl;
        known = begins_all (first_course image) None;
        notes = refl;
      };
      few = omega arith;
      each = first_seat image;
      every = λ w less. absurd (omega arith);
      unseated = first_workers;
    };
    notices = refl;
    slots = first_at image items f;
  },
  refl,
)

pub opens_ruled : (image : ImageValue) (items : List (Option Edition)) → FirstSlots image 128 items
    → KeepsRule (opening first_words items (View.Loading (first_loader_view image)))
opens_ruled image items f = (start_ruled image items f).0

-- one slot more at the start
pub first_slots_grow : (image : ImageValue) (n : ℕ) (items : List (Option Edition)) (x : Option Edition)
    → FirstSlots image n items → FirstSlot image n x → FirstSlots image (n + 1) (items ++ x ∷ [])
first_slots_grow image n items x f new = (
  omega (arith, f.0, length-append items (x ∷ [])),
  λ j less. dite (ℕ_discrete j n)
      (λ e. (x, at_last items x j (f.0 ∙ sym e), subst (λ m. FirstSlot image m x) (sym e) new))
      (λ ne. let q = f.1 j (omega arith) in (q.0, at_longer items (x ∷ []) j q.0 q.1, q.2)),
)

pub at_end : {A : Type 0} (l : List A) (a b : A) (j : ℕ) → get_elem? (l ++ a ∷ []) j ≡ some b → (get_elem? l j ≡ some b) ⊎ ((j ≡ length l) × (a ≡ b))
at_end [] a b zero e = inr (refl, some-injective a b e)
at_end [] a b (suc j) e = absurd (some-ne-none b (sym e))
at_end (x ∷ xs) a b zero e = inl e
at_end (x ∷ xs) a b (suc j) e = ⊎_elim (λ q. inl q) (λ q. inr (ap (λ n. suc n) q.0, q.1)) (at_end xs a b j e)

-- the owners of the numbers once a number has a seat
abbrev owner_after : (ℕ → ℕ) → ℕ → ℕ → ℕ → ℕ
owner_after owner number seat w = cond (w == number) seat (owner w)

owner_new : (owner : ℕ → ℕ) (number seat : ℕ) → owner_after owner number seat number ≡ seat
owner_new owner number seat = let t : (number == number) ≡ true = grind (arith, nat_tests) in rw t refl

owner_old : (owner : ℕ → ℕ) (number seat w : ℕ) → w ≢ number → owner_after owner number seat w ≡ owner w
owner_old owner number seat w ne = let t : (w == number) ≡ false = grind (arith, nat_tests) in rw t refl

old_seat : (c : EventHistory) (l : LoaderView) (owner : ℕ → ℕ) (new seat : ℕ) (u : View) → seat ≢ 0
    → SeatFits c l owner seat u → SeatFits c (one_more l) (owner_after owner l.handed new) seat u
old_seat c l owner new seat (View.Loading x) apart o = absurd (apart o.0)
old_seat c l owner new seat (View.Working v) apart o = let a = o.0 in (omega arith, owner_old owner l.handed new v.number (λ e. omega arith) ∙ o.1, o.2)
old_seat c l owner new seat _ apart o = tt

-- the loader hands out one more seat: nothing happens
split_seats : (c : EventHistory) (views : List View) (l : LoaderView) (fit : SeatsFit c views l) (id : ℕ) → id ≡ 0
    → get_elem? views id ≡ some (View.Loading l) → KeepsInvariants c.state → l.handed < 16
    → SeatsFit c (set views id (View.Loading (one_more l)) ++ View.Working (newcomer l.handed) ∷ []) (one_more l)
split_seats c views l fit id first at kept room =
    let long = there views id (View.Loading l) at in
    let size : length (set views id (View.Loading (one_more l))) ≡ length views = length-set views id (View.Loading (one_more l)) in
    let owner : ℕ → ℕ = owner_after fit.owner l.handed (length views) in
    let free = fit.unseated l.handed (omega arith) room in
    let new : WorkerFits c (newcomer l.handed) = record {
      shows = record { now = free.0; seen = free.1 };
      last = ((omega arith), (omega arith));
      passed = λ p. absurd (cc);
      edition = refl;
      known = record { events = (c.events, refl, free.2.0); replies = (c.replies, refl); images = (c.images, refl) };
      joined = sym free.2.1;
    } in
    record {
      owner = owner;
      loader_seat = at_longer (set views id (View.Loading (one_more l))) (View.Working (newcomer l.handed)
          ∷ []) 0 (View.Loading (one_more l)) (ap (λ n. get_elem? (set views id (View.Loading (one_more l))) n)
          (sym first) ∙ set_here views id (View.Loading (one_more l)) long);
      loads = let f = fit.loads in record { shows = f.shows; images = f.images; known = f.known; notes = f.notes };
      few = omega arith;
      each = λ seat u e. ⊎_elim
          (λ (old : get_elem? (set views id (View.Loading (one_more l))) seat ≡ some u). ⊎_elim
          (λ (q : (seat ≡ id) × (View.Loading (one_more l) ≡ u)). subst (λ (x : View). SeatFits c (one_more l) owner seat x) q.1 (q.0 ∙ first, refl))
          (λ (q : (seat ≢ id) × (get_elem? views seat ≡ some u)). old_seat c l fit.owner (length views) seat u (λ z. q.0 (z ∙ sym first)) (fit.each seat u q.1))
          (at_set views id seat (View.Loading (one_more l)) u old))
          (λ (q : (seat ≡ length (set views id (View.Loading (one_more l))))
          × (View.Working (newcomer l.handed) ≡ u)). subst (λ (x : View). SeatFits c (one_more l) owner seat x) q.1
          (omega arith, owner_new fit.owner l.handed (length views) ∙ sym (q.0 ∙ size), new))
          (at_end (set views id (View.Loading (one_more l))) (View.Working (newcomer l.handed)) u seat e);
      every = λ w less. dite (ℕ_discrete w l.handed)
          (λ e. (
            newcomer l.handed,
            sym e,
            ap (λ n.
                get_elem? (set views id (View.Loading (one_more l)) ++ View.Working (newcomer l.handed) ∷ []) n)
                (ap owner e ∙ owner_new fit.owner l.handed (length views))
                ∙ at_last (set views id (View.Loading (one_more l))) (View.Working (newcomer l.handed)) (length views)
                size,
          ))
          (λ ne. let n = fit.every w (omega arith) in (
            n.0,
            n.1,
            ap (λ z. get_elem? (set views id (View.Loading (one_more l)) ++ View.Working (newcomer l.handed) ∷ []) z)
                (owner_old fit.owner l.handed (length views) w ne)
                ∙ at_longer (set views id (View.Loading (one_more l))) (View.Working (newcomer l.handed) ∷ []) (fit.owner w) (View.Working n.0)
                (set_else views id (fit.owner w) (View.Loading (one_more l))
                (seats_differ views (fit.owner w) id (View.Working n.0) (View.Loading l) n.2 at (λ q. cc)) ∙ n.2),
          ));
      unseated = λ w past small. fit.unseated w (omega arith) small;
    }

pub hands_out : HandingsAddNothing
hands_out table id l r at room =
    let is = r.seats.each id (View.Loading l) at in
    let fit : SeatsFit r.history table.views l = subst (λ (x : LoaderView). SeatsFit r.history table.views x) (sym is.1) r.seats in (
      record {
        history = r.history;
        loader = one_more l;
        goes = r.goes;
        words = r.words;
        seats = split_seats r.history table.views l fit id is.0 at (kept_of r.history r.goes) room;
        notices = notices_more (set table.views id (View.Loading (one_more l))) (View.Working (newcomer l.handed))
            ∙ (append-nil (notices_of (set table.views id (View.Loading (one_more l)))) ∙ (notices_loader table.views id l (one_more l) at ∙ r.notices));
        slots = loader_slots table r id l at;
      },
      refl,
    )

pub splits : (id : ℕ) (u : View) → MayHandOut u → Splits KeepsRule id u (keeps_loading u) (new_worker_view u)
splits id (View.Loading l) room table r at = (hands_out table id l r at room).0
splits id _ room table r at = absurd room
