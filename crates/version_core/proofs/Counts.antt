-- What the counts keep when a worker comes or goes.
use Rattle.std.proofs.Common.{◌≡◌, ℕ, ◌+◌, ◌-◌, ◌<◌, ◌≤◌, ◌==◌, Bool, true, false, cond, List, set, get_or, Some}
use Rattle.std.proofs.Common.{slice_get, count_by, refl, ap, ◌∙◌, subst, arith, length-set}
use Rattle.std.proofs.lemmas.Bool.Decides.{nat_tests}
use Rattle.version_core.specs.declared.state.Worker.{Worker}
use Rattle.version_core.specs.Invariants.{is_at, CountsFit}
use Rattle.version_core.proofs.Lists.{get_or-set, count_by-set, is_counted, no_one}

-- the number of workers at a shelf after one of them changed
after_change : (ws : List Worker) (w : ℕ) (was now : Worker) (before after : ℕ → Bool) → slice_get ws w ≡ Some was
    → ((i : ℕ) → is_at i was ≡ before i) → ((i : ℕ) → is_at i now ≡ after i)
    → (i : ℕ) → count_by (is_at i) (set ws w now) + cond (before i) 1 0 ≡ count_by (is_at i) ws + cond (after i) 1 0
after_change ws w was now before after here b a i =
    subst (λ x. count_by (is_at i) (set ws w now) + cond x 1 0 ≡ count_by (is_at i) ws + cond (after i) 1 0) (b i)
    (subst (λ x. count_by (is_at i) (set ws w now) + cond (is_at i was) 1 0
    ≡ count_by (is_at i) ws + cond x 1 0) (a i) (count_by-set (is_at i) ws w was now here))

-- a worker changes that is at no shelf, before and after
pub counts_stay : (counts : List ℕ) (ws : List Worker) (w : ℕ) (was now : Worker) → CountsFit counts ws
    → slice_get ws w ≡ Some was → ((i : ℕ) → is_at i was ≡ false) → ((i : ℕ) → is_at i now ≡ false)
    → CountsFit counts (set ws w now)
counts_stay counts ws w was now fit here b a = record {
  eight = fit.eight;
  each = λ i less. fit.each i less ∙ (let e = after_change ws w was now (λ _. false) (λ _. false) here b a i in omega (arith, e));
}

-- a worker that was at no shelf comes to one
pub counts_rise : (counts : List ℕ) (ws : List Worker) (w k : ℕ) (was now : Worker) → CountsFit counts ws → k < 8
    → slice_get ws w ≡ Some was → ((i : ℕ) → is_at i was ≡ false) → ((i : ℕ) → is_at i now ≡ (k == i))
    → CountsFit (set counts k (get_or counts k 0 + 1)) (set ws w now)
counts_rise counts ws w k was now fit small here b a = record {
  eight = length-set counts k _ ∙ fit.eight;
  each = λ i less.
      let e = after_change ws w was now (λ _. false) (λ j. k == j) here b a i in
      let c = fit.each i less in
      get_or-set counts k i (get_or counts k 0 + 1) (count_by (is_at i) (set ws w now)) (let l = fit.eight in omega arith)
      (λ same. let t : (k == i) ≡ true = grind (arith, nat_tests) in let e' =
      subst (λ x. count_by (is_at i)
      (set ws w now) + 0
      ≡ count_by (is_at i) ws + cond x 1 0) t e in
      let g = ap (λ n. get_or counts n 0) same in
      omega arith)
      (λ other. let t : (k == i) ≡ false = grind (arith, nat_tests) in let e' =
      subst (λ x. count_by (is_at i)
      (set ws w now) + 0
      ≡ count_by (is_at i) ws + cond x 1 0) t e
      in omega arith);
}

-- a worker at a shelf is counted there
pub counted_at : (counts : List ℕ) (ws : List Worker) (w k : ℕ) (was : Worker) → CountsFit counts ws → k < 8
    → slice_get ws w ≡ Some was → is_at k was ≡ true → 1 ≤ get_or counts k 0
counted_at counts ws w k was fit small here at =
    let one = subst (λ b. cond b 1 0 ≤ count_by (is_at k) ws) at (is_counted (is_at k) ws w was here) in
    let c = fit.each k small in
    omega arith

-- a worker leaves the shelf that it is at
pub counts_fall : (counts : List ℕ) (ws : List Worker) (w k : ℕ) (was : Worker) → CountsFit counts ws → k < 8
    → slice_get ws w ≡ Some was → ((i : ℕ) → is_at i was ≡ (k == i))
    → CountsFit (set counts k (get_or counts k 0 - 1)) (set ws w Worker.Idle)
counts_fall counts ws w k was fit small here b =
    let one = counted_at counts ws w k was fit small here (b k ∙ (grind (arith, nat_tests))) in
    record {
      eight = length-set counts k _ ∙ fit.eight;
      each = λ i less.
          let e = after_change ws w was Worker.Idle (λ j. k == j) (λ _. false) here b (λ _. refl) i in
          let c = fit.each i less in
          get_or-set counts k i (get_or counts k 0 - 1) (count_by (is_at i) (set ws w Worker.Idle)) (let l = fit.eight in omega arith)
          (λ same. let t : (k == i) ≡ true = grind (arith, nat_tests) in let e' =
          subst (λ x. count_by (is_at i)
          (set ws w Worker.Idle) + cond x 1 0
          ≡ count_by (is_at i) ws + 0) t e in
          let g = ap (λ n. get_or counts n 0) same
          in omega arith)
          (λ other. let t : (k == i) ≡ false = grind (arith, nat_tests) in let e' =
          subst (λ x. count_by (is_at i)
          (set ws w Worker.Idle) + cond x 1 0
          ≡ count_by (is_at i) ws + 0) t e in
          omega arith);
    }

-- where the count is 0, no worker is at the shelf
pub no_one_at : (counts : List ℕ) (ws : List Worker) (k : ℕ) → CountsFit counts ws → k < 8 → get_or counts k 0 ≡ 0
    → (w : ℕ) (worker : Worker) → slice_get ws w ≡ Some worker → is_at k worker ≡ false
no_one_at counts ws k fit small none w worker here =
    let c = fit.each k small in
    let one = is_counted (is_at k) ws w worker here in
    no_one (is_at k worker) (omega arith)
