-- What the seats know after a step of one of them.
use Rattle.std.proofs.Common.{◌≡◌, ◌≢◌, ℕ, zero, suc, ◌<◌, List, [], ◌∷◌, length, set, get_or, slice_get, refl, ap, sym, ◌∙◌, subst, arith, ⊎_elim}
use mathlib.Core.Logic.{dite}
use mathlib.Core.Option.{some, some-injective, some-ne-none}
use native.Mathlib.Decide.{ℕ_discrete}
use lib.ListN.{get_elem?}
use Rattle.atomic_table.proofs.Lists.{at_set, set_here, set_else}
use Rattle.version_core.specs.declared.state.Worker.{Worker}
use Rattle.shelf_steps.specs.declared.views.WorkerView.{WorkerView}
use Rattle.shelf_steps.specs.declared.views.LoaderView.{LoaderView}
use Rattle.shelf_steps.specs.declared.views.View.{View}
use Rattle.shelf_steps.specs.EventHistory.{EventHistory, HasDoneNothing}
use Rattle.shelf_steps.specs.Seats.{WorkerFits, LoaderFits, SeatFits, SeatsFit}

pub there : {A : Type 0} (l : List A) (i : ℕ) (a : A) → get_elem? l i ≡ some a → i < length l
there [] i a e = absurd (some-ne-none a (sym e))
there (x ∷ xs) zero a e = omega arith
there (x ∷ xs) (suc i) a e = let r = there xs i a e in omega arith

-- where different views stand, the seats differ
pub seats_differ : (views : List View) (i j : ℕ) (u w : View) → get_elem? views i ≡ some u → get_elem? views j ≡ some w → u ≢ w → i ≢ j
seats_differ views i j u w at_i at_j ne e = ne (some-injective u w (sym at_i ∙ (ap (λ n. get_elem? views n) e ∙ at_j)))

module _ (c d : EventHistory) (views : List View) (loader : LoaderView) (fit : SeatsFit c views loader) (id : ℕ)
    (v v' : WorkerView) (at : get_elem? views id ≡ some (View.Working v)) (named : v'.number ≡ v.number)
    (others : (u : WorkerView) → u.number ≢ v.number → WorkerFits c u → WorkerFits d u) where
  mine : SeatFits c loader fit.owner id (View.Working v)
  mine = fit.each id (View.Working v) at

  other_seat : (seat : ℕ) (u : View) → seat ≢ id → SeatFits c loader fit.owner seat u → SeatFits d loader fit.owner seat u
  other_seat seat (View.Loading l) apart o = o
  other_seat seat (View.Working u) apart o = (o.0, o.1, others u (λ e. apart (sym o.1 ∙ (ap fit.owner e ∙ mine.1))) o.2)
  other_seat seat _ apart o = tt

  pub worker_moves : LoaderFits d loader → ((w : ℕ) → w ≢ v.number
      → (slice_get d.state.workers w ≡ slice_get c.state.workers w)
      × (get_or d.state.seen w 0 ≡ get_or c.state.seen w 0))
      → ((w : ℕ) → w < 16 → w ≢ v.number → HasDoneNothing w c.events → HasDoneNothing w d.events) → WorkerFits d v'
      → SeatsFit d (set views id (View.Working v')) loader
  worker_moves loads rest unmoved fits = record {
    owner = fit.owner;
    loader_seat = set_else views id 0 (View.Working v')
        (seats_differ views 0 id (View.Loading loader) (View.Working v) fit.loader_seat at (λ q. cc)) ∙ fit.loader_seat;
    loads = loads;
    few = fit.few;
    each = λ seat u e. ⊎_elim
        (λ (q : (seat ≡ id) × (View.Working v' ≡ u)). subst (λ (x : View). SeatFits d loader fit.owner seat x) q.1
        ((let a = mine.0 in omega arith), ap fit.owner named ∙ (mine.1 ∙ sym q.0), fits))
        (λ (q : (seat ≢ id) × (get_elem? views seat ≡ some u)). other_seat seat u q.0 (fit.each seat u q.1))
        (at_set views id seat (View.Working v') u e);
    every = λ w less. let n = fit.every w less in
        dite (ℕ_discrete w v.number)
        (λ e. (
          v',
          named ∙ sym e,
          ap (λ x. get_elem? (set views id (View.Working v')) x) (ap fit.owner e ∙ mine.1)
              ∙ set_here views id (View.Working v') (there views id (View.Working v) at),
        ))
        (λ ne. (
          n.0,
          n.1,
          set_else views id (fit.owner w) (View.Working v')
              (seats_differ views (fit.owner w) id (View.Working n.0) (View.Working v) n.2 at
              (λ q. let z : n.0 ≡ v = cc in ne (sym n.1 ∙ ap (λ (x : WorkerView). x.number) z))) ∙ n.2,
        ));
    unseated = λ w past small. let m = mine.0 in let other : w ≢ v.number = λ e. omega arith in let z = rest w other in let o = fit.unseated w past small in
        (z.0 ∙ o.0, z.1 ∙ o.1, unmoved w small other o.2);
  }

module _ (c d : EventHistory) (views : List View) (loader : LoaderView) (fit : SeatsFit c views loader) (id : ℕ)
    (l l' : LoaderView) (at : get_elem? views id ≡ some (View.Loading l)) (as_many : l'.handed ≡ l.handed)
    (others : (u : WorkerView) → WorkerFits c u → WorkerFits d u) where
  pub loader_is : (id ≡ 0) × (l ≡ loader)
  loader_is = fit.each id (View.Loading l) at

  same_handed : l'.handed ≡ loader.handed
  same_handed = as_many ∙ ap (λ (x : LoaderView). x.handed) loader_is.1

  seat_of_other : (seat : ℕ) (u : View) → seat ≢ id → SeatFits c loader fit.owner seat u → SeatFits d l' fit.owner seat u
  seat_of_other seat (View.Loading x) apart o = absurd (apart (o.0 ∙ sym loader_is.0))
  seat_of_other seat (View.Working u) apart o = ((let a = o.0 in let b = same_handed in omega arith), o.1, others u o.2)
  seat_of_other seat _ apart o = tt

  pub loader_moves : LoaderFits d l' → d.state.workers ≡ c.state.workers → d.state.seen ≡ c.state.seen → ((w : ℕ) → w < 16 → HasDoneNothing w c.events
      → HasDoneNothing w d.events) → SeatsFit d (set views id (View.Loading l')) l'
  loader_moves loads workers seen unmoved = record {
    owner = fit.owner;
    loader_seat = ap (λ n. get_elem? (set views id (View.Loading l')) n) (sym loader_is.0)
        ∙ set_here views id (View.Loading l') (there views id (View.Loading l) at);
    loads = loads;
    few = let a = fit.few in let b = same_handed in omega arith;
    each = λ seat u e. ⊎_elim
        (λ (q : (seat ≡ id) × (View.Loading l' ≡ u)). subst (λ (x : View). SeatFits d l' fit.owner seat x) q.1 (q.0 ∙ loader_is.0, refl))
        (λ (q : (seat ≢ id) × (get_elem? views seat ≡ some u)). seat_of_other seat u q.0 (fit.each seat u q.1))
        (at_set views id seat (View.Loading l') u e);
    every = λ w less. let n = fit.every w (let b = same_handed in omega arith) in (
      n.0,
      n.1,
      set_else views id (fit.owner w) (View.Loading l')
          (seats_differ views (fit.owner w) id (View.Working n.0) (View.Loading l) n.2 at (λ q. cc)) ∙ n.2,
    );
    unseated = λ w past small. let b = same_handed in let o = fit.unseated w (omega arith) small in (
      ap (λ (x : List Worker). slice_get x w) workers
          ∙ o.0,
      ap (λ (x : List ℕ). get_or x w 0) seen ∙ o.1,
      unmoved w small o.2,
    );
  }
