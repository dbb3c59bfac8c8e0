-- What the workers keep when one of them, or a shelf, changes.
use Rattle.std.proofs.Common.{◌≡◌, ◌≢◌, ℕ, ◌<◌, ◌≤◌, ◌==◌, ◌⊎◌, true, false, List, set, get_or, Some, slice_get, refl, ap, sym, ◌∙◌, subst, arith, inl, inr}
use Rattle.std.proofs.Common.{length-set, get_or-set_same, get_or-set_other}
use Rattle.std.proofs.lemmas.Bool.Decides.{nat_tests}
use Rattle.std.proofs.lemmas.Option.{slice_get_within}
use mathlib.Core.Logic.{dite}
use native.Mathlib.Decide.{ℕ_discrete}
use Rattle.version_core.specs.declared.state.Shelf.{Shelf}
use Rattle.version_core.specs.declared.state.Worker.{Worker}
use Rattle.version_core.specs.Invariants.{version_on, is_at, Fits, WorkersFit}
use Rattle.version_core.proofs.Lists.{slice_get-set}
use Rattle.version_core.proofs.Shelves.{version_on-set_other}

-- one worker changes, and what it has seen stays
pub workers_go_on : (current at : ℕ) (xs : List Shelf) (ws : List Worker) (seen : List ℕ) (w : ℕ) (was now : Worker)
    → WorkersFit current at xs ws seen → slice_get ws w ≡ Some was
    → Fits current at xs now (get_or seen w 0) → WorkersFit current at xs (set ws w now) seen
workers_go_on current at xs ws seen w was now fit here fits = record {
  sixteen = length-set ws w now ∙ fit.sixteen;
  sixteen_seen = fit.sixteen_seen;
  each = λ j worker is. elim (slice_get-set ws w j now worker (slice_get_within ws w was here) is) [
    | inl a ↦ subst (λ (n : ℕ). Fits current at xs worker (get_or seen n 0)) (sym a.0)
        (subst (λ (q : Worker). Fits current at xs q (get_or seen w 0)) (sym a.1) fits)
    | inr b ↦ fit.each j worker b.1
  ];
}

-- an idle worker looks at the current version
pub workers_look : (current at : ℕ) (xs : List Shelf) (ws : List Worker) (seen : List ℕ) (w : ℕ)
    → WorkersFit current at xs ws seen → slice_get ws w ≡ Some Worker.Idle → at < 8
    → WorkersFit current at xs (set ws w (Worker.Looked current at)) (set seen w current)
workers_look current at xs ws seen w fit here small =
    let within = slice_get_within ws w Worker.Idle here in let l = fit.sixteen in let l' = fit.sixteen_seen in
    let now = Worker.Looked current at in
    let new : Fits current at xs now (get_or (set seen w current) w 0) = (small, get_or-set_same seen w current 0 (omega arith), omega arith, λ _. refl) in
    record {
      sixteen = length-set ws w now ∙ fit.sixteen;
      sixteen_seen = length-set seen w current ∙ fit.sixteen_seen;
      each = λ j worker is. elim (slice_get-set ws w j now worker within is) [
        | inl a ↦ subst (λ (n : ℕ). Fits current at xs worker (get_or (set seen w current) n 0)) (sym a.0)
            (subst (λ (q : Worker). Fits current at xs q (get_or (set seen w current) w 0)) (sym a.1) new)
        | inr b ↦ subst (λ (n : ℕ). Fits current at xs worker n) (sym (get_or-set_other seen w j current 0 b.0)) (fit.each j worker b.1)
      ];
    }

-- a worker fits where no version went away
fits_there : (current at : ℕ) (xs ys : List Shelf) (worker : Worker) (seen : ℕ)
    → ((k v : ℕ) → version_on xs k ≡ Some v → version_on ys k ≡ Some v) → Fits current at xs worker seen
    → Fits current at ys worker seen
fits_there current at xs ys (Worker.Holding k v) seen stays f = (f.0, stays k v f.1, f.2, f.3)
fits_there current at xs ys Worker.Idle seen stays f = f
fits_there current at xs ys (Worker.Looked v k) seen stays f = f
fits_there current at xs ys (Worker.Late k) seen stays f = f

pub workers_stay : (current at : ℕ) (xs ys : List Shelf) (ws : List Worker) (seen : List ℕ)
    → ((k v : ℕ) → version_on xs k ≡ Some v → version_on ys k ≡ Some v) → WorkersFit current at xs ws seen
    → WorkersFit current at ys ws seen
workers_stay current at xs ys ws seen stays fit = record {
  sixteen = fit.sixteen;
  sixteen_seen = fit.sixteen_seen;
  each = λ j worker is. fits_there current at xs ys worker (get_or seen j 0) stays (fit.each j worker is);
}

-- a worker fits once a greater version is current
fits_later : (current at next k : ℕ) (xs : List Shelf) (worker : Worker) (seen : ℕ) → current < next
    → Fits current at xs worker seen → Fits next k xs worker seen
fits_later current at next k xs Worker.Idle seen up f = omega arith
fits_later current at next k xs (Worker.Looked v j) seen up f = let a = f.2 in (f.0, f.1, omega arith, λ e. absurd (omega arith))
fits_later current at next k xs (Worker.Late j) seen up f = let a = f.1 in (f.0, omega arith)
fits_later current at next k xs (Worker.Holding j v) seen up f = let a = f.3 in (f.0, f.1, f.2, omega arith)

pub workers_later : (current at next k : ℕ) (xs : List Shelf) (ws : List Worker) (seen : List ℕ) → current < next
    → WorkersFit current at xs ws seen → WorkersFit next k xs ws seen
workers_later current at next k xs ws seen up fit = record {
  sixteen = fit.sixteen;
  sixteen_seen = fit.sixteen_seen;
  each = λ j worker is. fits_later current at next k xs worker (get_or seen j 0) up (fit.each j worker is);
}

-- a worker that is not at a shelf fits whatever becomes of it
fits_away : (current at k : ℕ) (xs : List Shelf) (y : Shelf) (worker : Worker) (seen : ℕ) → is_at k worker ≡ false
    → Fits current at xs worker seen → Fits current at (set xs k y) worker seen
fits_away current at k xs y (Worker.Holding j v) seen gone f =
    let other : j ≢ k = λ e. let t : (j == k) ≡ true = grind (arith, nat_tests) in cc in
    (f.0, version_on-set_other xs k j y other ∙ f.1, f.2, f.3)
fits_away current at k xs y Worker.Idle seen gone f = f
fits_away current at k xs y (Worker.Looked v j) seen gone f = f
fits_away current at k xs y (Worker.Late j) seen gone f = f

pub workers_away : (current at k : ℕ) (xs : List Shelf) (y : Shelf) (ws : List Worker) (seen : List ℕ)
    → ((w : ℕ) (worker : Worker) → slice_get ws w ≡ Some worker → is_at k worker ≡ false)
    → WorkersFit current at xs ws seen → WorkersFit current at (set xs k y) ws seen
workers_away current at k xs y ws seen gone fit = record {
  sixteen = fit.sixteen;
  sixteen_seen = fit.sixteen_seen;
  each = λ j worker is. fits_away current at k xs y worker (get_or seen j 0) (gone j worker is) (fit.each j worker is);
}

-- a worker that is idle or holds a version may have seen more, up to the current version
fits_risen : (current at : ℕ) (xs : List Shelf) (worker : Worker) (seen more : ℕ) → Fits current at xs worker seen → (worker ≡ Worker.Idle) ⊎ ((k v : ℕ)
    × (worker ≡ Worker.Holding k v)) → seen ≤ more → more ≤ current
    → Fits current at xs worker more
fits_risen current at xs Worker.Idle seen more f so up most = most
fits_risen current at xs (Worker.Holding k v) seen more f so up most = let a = f.2 in (f.0, f.1, omega arith, most)
fits_risen current at xs (Worker.Looked v k) seen more f so up most = elim so [ inl a ↦ absurd (cc) | inr b ↦ absurd (let e = b.2 in cc) ]
fits_risen current at xs (Worker.Late k) seen more f so up most = elim so [ inl a ↦ absurd (cc) | inr b ↦ absurd (let e = b.2 in cc) ]

pub workers_see : (current at : ℕ) (xs : List Shelf) (ws : List Worker) (seen : List ℕ) (w more : ℕ) (was : Worker) → WorkersFit current at xs ws seen
    → slice_get ws w ≡ Some was
    → (was ≡ Worker.Idle) ⊎ ((k v : ℕ) × (was ≡ Worker.Holding k v)) → get_or seen w 0 ≤ more → more ≤ current → WorkersFit current at xs ws (set seen w more)
workers_see current at xs ws seen w more was fit here so up most =
    let within = slice_get_within ws w was here in let l = fit.sixteen in let l' = fit.sixteen_seen in
    let new : Fits current at xs was (get_or (set seen w more) w 0) =
    rw (get_or-set_same seen w more 0 (omega arith)) (fits_risen current at xs was (get_or seen w 0) more (fit.each w was here) so up most) in
    record {
      sixteen = fit.sixteen;
      sixteen_seen = length-set seen w more ∙ fit.sixteen_seen;
      each = λ j worker is. dite (ℕ_discrete j w)
          (λ e. let two : Some worker ≡ Some was = sym is ∙ (ap (λ n. slice_get ws n) e ∙ here) in let same : worker ≡ was = cc in
          subst (λ (n : ℕ). Fits current at xs worker (get_or (set seen w more) n 0)) (sym e) (subst (λ (q : Worker).
          Fits current at xs q (get_or (set seen w more) w 0)) (sym same) new))
          (λ e. subst (λ (n : ℕ). Fits current at xs worker n) (sym (get_or-set_other seen w j more 0 e)) (fit.each j worker is));
    }
