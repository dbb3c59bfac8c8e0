-- The words and the views show one state.
use Rattle.std.proofs.Common.{◌≡◌, ℕ, ◌<◌, ◌≤◌, List, length, get_or, Some, slice_get, ap, sym, ◌∙◌, subst, arith, ext_get_or, lt_of_not-le}
use Rattle.std.proofs.lemmas.Option.{get_or_from_slice_get, slice_get-get_or}
use mathlib.Core.Logic.{dite}
use native.Mathlib.Decide.{dec_le}
use Rattle.version_core.specs.declared.state.Shelf.{Shelf}
use Rattle.version_core.specs.declared.state.Worker.{Worker}
use Rattle.version_core.specs.State.{State}
use Rattle.version_core.specs.Invariants.{KeepsInvariants}
use Rattle.version_core.specs.Shown.{shelf_word}
use Rattle.shelf_steps.specs.declared.views.LoaderView.{LoaderView}
use Rattle.shelf_steps.specs.declared.views.View.{View}
use Rattle.shelf_steps.specs.Rule.{KeepsRule}
use Rattle.shelf_steps.specs.Laws.{Shelved, IsLoader, TableShows, OneStateIsShown, OneHistory}
use Rattle.shelf_steps.proofs.Courses.{kept_of}
use Rattle.shelf_steps.proofs.Says.{is_loader, loader_knows}

same_items : {X : Type 0} (d : X) (xs ys : List X) → length xs ≡ length ys
    → ((i : ℕ) → i < length xs → (x : X) × (slice_get xs i ≡ Some x) × (slice_get ys i ≡ Some x)) → xs ≡ ys
same_items d xs ys long same = ext_get_or d xs ys long (λ i low. let q =
    same i low in get_or_from_slice_get xs i q.0 d
    q.1 ∙ sym (get_or_from_slice_get ys i q.0 d q.2))

-- a word of a known shelf has one count
one_count : (x : Shelf) (a b : ℕ) → shelf_word x a ≡ shelf_word x b → a ≡ b
one_count Shelf.Free a b e = e
one_count _ a b e = omega arith

module _ (table : Shelved) (l : LoaderView) (r : KeepsRule table) (at : IsLoader table l) where
  same_handed : l.handed ≡ r.loader.handed
  same_handed = ap (λ (x : LoaderView). x.handed) (is_loader table r 0 l at)

  shown : TableShows table l r.history.state
  shown = record {
    words = r.words;
    loader = (loader_knows table r 0 l at).shows;
    numbered = r.goes.numbered;
    workers = λ i v there. (r.seats.each i (View.Working v) there).2.shows;
    notices = r.notices;
    unseated = λ w past small. let u = r.seats.unseated w (subst (λ n. n ≤ w) same_handed past) small in (u.0, u.1);
  }

  module _ (s t : State) (kept_s : KeepsInvariants s) (kept : KeepsInvariants t) (a : TableShows table l s) (b : TableShows table l t) where
    worker_at : (w : ℕ) → w < 16 → ((x : Worker) × (slice_get s.workers w ≡ Some x) × (slice_get t.workers w ≡ Some x))
        × (get_or s.seen w 0 ≡ get_or t.seen w 0)
    worker_at w small = dite (dec_le l.handed w)
        (λ past. let p = a.unseated w past small in let q = b.unseated w past small in ((Worker.Idle, p.0, q.0), p.1 ∙ sym q.1))
        (λ not. let n = r.seats.every w (subst (λ m. w < m) same_handed (lt_of_not-le not)) in
        let p = a.workers (r.seats.owner w) n.0 n.2 in let q = b.workers (r.seats.owner w) n.0 n.2 in (
          (n.0.now, ap (λ m. slice_get s.workers m) (sym n.1) ∙ p.now, ap (λ m. slice_get t.workers m) (sym n.1) ∙ q.now),
          ap (λ m. get_or s.seen m 0) (sym n.1) ∙ (p.seen ∙ (sym q.seen ∙ ap (λ m. get_or t.seen m 0) n.1)),
        ))

    same_shelves : s.shelves ≡ t.shelves
    same_shelves = sym a.loader.shelves ∙ b.loader.shelves

    count_at : (k : ℕ) → k < 8 → get_or s.counts k 0 ≡ get_or t.counts k 0
    count_at k small =
        let eight = kept_s.shelves.eight in
        let x = get_or s.shelves k Shelf.Free in
        let here : slice_get s.shelves k ≡ Some x = slice_get-get_or s.shelves k Shelf.Free (omega arith) in
        one_count x (get_or s.counts k 0) (get_or t.counts k 0) (sym (a.words.each k x here)
        ∙ b.words.each k x (ap (λ (xs : List Shelf). slice_get xs k) (sym same_shelves) ∙ here))

    edition_at : (i : ℕ) → i < length s.editions → get_or s.editions i 0 ≡ get_or t.editions i 0
    edition_at i low =
        let many = a.loader.newest_is in let many' = b.loader.newest_is in
        a.numbered i (get_or s.editions i 0) (slice_get-get_or s.editions i 0 low)
        ∙ sym (b.numbered i (get_or t.editions i 0) (slice_get-get_or t.editions i 0 (omega arith)))

    same_workers : s.workers ≡ t.workers
    same_workers = let n = kept_s.workers.sixteen in
        same_items Worker.Idle s.workers t.workers (n
        ∙ sym kept.workers.sixteen) (λ w low. (worker_at w (omega arith)).0)

    same_seen : s.seen ≡ t.seen
    same_seen = let n = kept_s.workers.sixteen_seen in ext_get_or 0 s.seen t.seen (n ∙ sym kept.workers.sixteen_seen) (λ w low. (worker_at w (omega arith)).1)

    same_counts : s.counts ≡ t.counts
    same_counts = let n = kept_s.counts.eight in ext_get_or 0 s.counts t.counts (n ∙ sym kept.counts.eight) (λ k low. count_at k (omega arith))

    same_editions : s.editions ≡ t.editions
    same_editions = ext_get_or 0 s.editions t.editions (sym a.loader.newest_is ∙ b.loader.newest_is) edition_at

    same_state : t ≡ s
    same_state = λ i. record {
      current = (sym b.loader.current ∙ a.loader.current) i;
      current_shelf = (sym b.loader.current_shelf ∙ a.loader.current_shelf) i;
      shelves = sym same_shelves i;
      counts = sym same_counts i;
      workers = sym same_workers i;
      seen = sym same_seen i;
      editions = sym same_editions i;
      notices = (sym b.notices ∙ a.notices) i;
    }

pub one_state : OneStateIsShown
one_state table l r at =
    let kept : KeepsInvariants r.history.state = kept_of r.history r.goes in
    (r.history.state, kept, shown table l r at, (λ t kept' b. same_state table l r at r.history.state t kept kept' (shown table l r at) b))

pub one_history : OneHistory
one_history table r = (
  r.history,
  r.goes,
  (λ i v at. let f = (r.seats.each i (View.Working v) at).2 in (f.known, f.joined)),
  (λ l at. let k = loader_knows table r 0 l at in (k.known, k.images, shown table l r at, k.notes)),
)
