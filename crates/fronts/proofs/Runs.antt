-- Labels put where a run has room, or at the end.
use Rattle.std.proofs.Common.{◌≡◌, ℕ, ◌+◌, ◌-◌, ◌<◌, ◌≤◌, not, List, [], ◌∷◌, ◌++◌, length, take, drop, set, Contains}
use Rattle.std.proofs.Common.{inl, inr, refl, sym, ◌∙◌, ap, subst, arith, append_assoc, length-append, length-drop}
use Rattle.std.proofs.Common.{get_or-set_same, get_or-set_other}
use Rattle.std.proofs.lemmas.Bool.{cases_eq}
use Rattle.std.proofs.lemmas.List.{take-append-drop, take_at, drop_at, length-take-le}
use Rattle.std.proofs.lemmas.Slice.{drop-append-drop}
use Rattle.std.proofs.lemmas.List.Elements.{Contains-append_cases, Contains-append_left, Contains-append_right, Contains-push_cases}
use Rattle.reasoning.proofs.ListLemmas.{from_filter}
use Rattle.criteria.specs.Laws.{Rules, Admits}
use Rattle.fronts.specs.declared.labels.Label.{Label}
use Rattle.fronts.specs.declared.labels.LabelRun.{LabelRun}
use Rattle.fronts.specs.Labels.{AreApart, AreRuns, AreLabels, ArePut, ArePartlyPut, labels_at, labels_in, no_run, run_at}
use Rattle.fronts.specs.declared.labels.Labels.{Labels}
use Rattle.fronts.specs.Offered.{others}
use Rattle.fronts.proofs.Growth.{extends_long, same_part}

in_front : {X : Type 0} (xs : List X) (n : ℕ) (x : X) → Contains (take n xs) x → Contains xs x
in_front {X} xs n x h = subst (λ (ys : List X). Contains ys x) (take-append-drop n xs) (Contains-append_left (take n xs) (drop n xs) x h)

in_rest : {X : Type 0} (xs : List X) (n : ℕ) (x : X) → Contains (drop n xs) x → Contains xs x
in_rest {X} xs n x h = subst (λ (ys : List X). Contains ys x) (take-append-drop n xs) (Contains-append_right (take n xs) (drop n xs) x h)

-- what is in a part is in the whole
pub in_part : {X : Type 0} (xs : List X) (r c : ℕ) (x : X) → Contains (take c (drop r xs)) x → Contains xs x
in_part xs r c x h = in_rest xs r x (in_front (drop r xs) c x h)

module _ {V : Type 0} where
  -- over what stood in the run
  pub over_puts : (old : List (Label V)) (run : LabelRun) (new now : List (Label V)) (count : ℕ) → count ≡ length new
      → count ≤ run.room → run.first + run.room ≤ length old
      → now ≡ take run.first old ++ (new ++ drop (run.first + length new) old)
      → ArePut old run new (record { first = run.first; count = count; room = run.room }) now
  over_puts old run new now count long fits within e =
      let f = run.first in
      let rest = drop (run.first + length new) old in
      let front_long : length (take run.first old) ≡ run.first = length-take-le run.first old (omega arith) in
      let all_long : length now ≡ length old =
      let a = length-append (take f old) (new ++ rest) in
      let b = length-append new rest in
      let c = length-drop (f + length new) old in
      let d = ap length e in
      omega arith in
      let front_new : length (take run.first old ++ new) ≡ run.first + length new =
      length-append (take f old) new ∙ ap (λ (n : ℕ). n + length new) front_long in
      record {
        counted = fits;
        within = omega arith;
        longer = omega arith;
        here = ap (λ (xs : List (Label V)). take count (drop f xs)) e
            ∙ ap (take count) (drop_at (take f old) (new ++ rest) f front_long) ∙ take_at new rest count (sym long);
        others = λ other counted in_old apart. elim apart [
          | inl before ↦
              ap (λ (xs : List (Label V)). labels_in xs other) e
              ∙ same_part (take f old) (take f old ++ (new ++ rest)) (new ++ rest, refl) other.first other.count (omega arith)
              ∙ sym (same_part (take f old) old (drop f old, sym (take-append-drop f old)) other.first other.count (omega arith))
          | inr after ↦
              ap (λ (xs : List (Label V)). labels_in xs other) (e ∙ sym (append_assoc (take f old) new rest))
              ∙ ap (take other.count) (drop-append-drop (f + length new) old (take f old ++ new) other.first (omega arith) front_new)
        ];
        apart = λ other in_old apart. apart;
        only = λ l h. elim (Contains-append_cases (take f old) (new ++ rest) l (subst (λ (xs : List (Label V)). Contains xs l) e h)) [
          | inl front ↦ inl (in_front old f l front)
          | inr more ↦ elim (Contains-append_cases new rest l more) [ inl is ↦ inr is | inr behind ↦ inl (in_rest old (f + length new) l behind) ]
        ];
      }

  -- at the end, with room behind
  pub end_puts : (old : List (Label V)) (run : LabelRun) (new mid now : List (Label V)) (first count room : ℕ)
      → first ≡ length old → count ≡ length new → room ≡ length now - first → mid ≡ old ++ new → now ≡ mid ++ drop 1 new
      → ArePut old run new (record { first = first; count = count; room = room }) now
  end_puts old run new mid now first count room at long roomy e_mid e_now =
      let rest = drop 1 new in
      let e : now ≡ old ++ (new ++ rest) = e_now ∙ ap (λ (xs : List (Label V)). xs ++ rest) e_mid ∙ append_assoc old new rest in
      let all_long : length now ≡ length old + length new + length rest =
      let a = ap length e in
      let b = length-append old (new ++ rest) in
      let c = length-append new rest in
      omega arith in
      record {
        counted = omega arith;
        within = omega arith;
        longer = omega arith;
        here = ap (λ (xs : List (Label V)). take count (drop first xs)) e
            ∙ ap (take count) (drop_at old (new ++ rest) first (sym at)) ∙ take_at new rest count (sym long);
        others = λ other counted in_old apart. same_part old now (new ++ rest, e) other.first other.count (omega arith);
        apart = λ other in_old apart. inl (omega arith);
        only = λ l h. elim (Contains-append_cases old (new ++ rest) l (subst (λ (xs : List (Label V)). Contains xs l) e h)) [
          | inl was ↦ inl was
          | inr more ↦ elim (Contains-append_cases new rest l more) [ inl is ↦ inr is | inr behind ↦ inr (in_rest new 1 l behind) ]
        ];
      }

  -- all of what is put at the end, and room behind
  pub put_twice : (old new mid now : List (Label V)) → mid ≡ old ++ new → now ≡ mid ++ drop 1 new → ArePartlyPut old new now
  put_twice old new mid now e_mid e_now =
      let rest = drop 1 new in
      let e : now ≡ old ++ (new ++ rest) = e_now ∙ ap (λ (xs : List (Label V)). xs ++ rest) e_mid ∙ append_assoc old new rest in
      record {
        extends = (new ++ rest, e);
        only = λ l h. elim (Contains-append_cases old (new ++ rest) l (subst (λ (xs : List (Label V)). Contains xs l) e h)) [
          | inl was ↦ inl was
          | inr more ↦ elim (Contains-append_cases new rest l more) [ inl is ↦ inr is | inr behind ↦ inr (in_rest new 1 l behind) ]
        ];
      }

  -- a run among them has the labels that it had
  pub partly_same : (old new now : List (Label V)) (run : LabelRun) → run.count ≤ run.room → run.first + run.room ≤ length old
      → ArePartlyPut old new now → labels_in now run ≡ labels_in old run
  partly_same old new now run counted within put = same_part old now put.extends run.first run.count (omega arith)

swap : (a b : LabelRun) → AreApart a b → AreApart b a
swap a b apart = elim apart [ inl before ↦ inr before | inr after ↦ inl after ]

-- one run replaced
module _ (runs : List LabelRun) (trip : ℕ) (placed : LabelRun) (in_runs : trip < length runs) where
  pub run_here : (k : ℕ) → k ≡ trip → run_at (set runs trip placed) k ≡ placed
  run_here k e = ap (run_at (set runs trip placed)) e ∙ get_or-set_same runs trip placed no_run in_runs

  pub run_there : (k : ℕ) → (k ≡ trip → ⊥) → run_at (set runs trip placed) k ≡ run_at runs k
  run_there k other = get_or-set_other runs trip k placed no_run other

  pub runs_put : (size now : ℕ) → AreRuns runs size → placed.count ≤ placed.room → placed.first + placed.room ≤ now
      → size ≤ now → ((other : LabelRun) → other.first + other.room ≤ size → AreApart other (run_at runs trip)
      → AreApart other placed) → AreRuns (set runs trip placed) now
  runs_put size now are counted within longer keeps = record {
    counted = λ k. elim (cases_eq k trip) [
      | inl e ↦ subst (λ (r : LabelRun). r.count ≤ r.room) (sym (run_here k e)) counted
      | inr other ↦ subst (λ (r : LabelRun). r.count ≤ r.room) (sym (run_there k other)) (are.counted k)
    ];
    within = λ k. elim (cases_eq k trip) [
      | inl e ↦ subst (λ (r : LabelRun). r.first + r.room ≤ now) (sym (run_here k e)) within
      | inr other ↦ (let was = are.within k in subst (λ (r : LabelRun). r.first + r.room ≤ now) (sym (run_there k other)) (omega arith))
    ];
    apart = λ a b differ. elim (cases_eq a trip) [
      | inl ea ↦ elim (cases_eq b trip) [
        | inl eb ↦ absurd (differ (ea ∙ sym eb))
        | inr ob ↦
            subst (λ (r : LabelRun). AreApart r (run_at (set runs trip placed) b)) (sym (run_here a ea))
            (subst (λ (r : LabelRun). AreApart placed r) (sym (run_there b ob))
            (swap (run_at runs b) placed (keeps (run_at runs b) (are.within b) (are.apart b trip ob))))
      ]
      | inr oa ↦ subst (λ (r : LabelRun). AreApart r (run_at (set runs trip placed) b)) (sym (run_there a oa)) (elim (cases_eq b trip) [
        | inl eb ↦ subst (λ (r : LabelRun). AreApart (run_at runs a) r) (sym (run_here b eb)) (keeps (run_at runs a) (are.within a) (are.apart a trip oa))
        | inr ob ↦ subst (λ (r : LabelRun). AreApart (run_at runs a) r) (sym (run_there b ob)) (are.apart a b differ)
      ])
    ];
  }

-- a value that comes, and the labels that stay
pub with_admitted : {V : Type 0} (rules : Rules V) (labels : List (Label V)) (run : LabelRun) (v : V) (label : Label V)
    → ((l : Label V) → Contains labels l → Admits rules l.value) → Admits rules label.value → (l : Label V)
    → Contains (others rules v (labels_in labels run) ++ label ∷ []) l → Admits rules l.value
with_admitted rules labels run v label admitted fits l h = elim (Contains-push_cases (others rules v (labels_in labels run)) label l h) [
  | inl stays ↦ admitted l (in_part labels run.first run.count l (from_filter (λ x. not (rules.no_worse v x.value)) (labels_in labels run) l stays).0)
  | inr e ↦ subst (λ (x : Label _). Admits rules x.value) e fits
]

-- labels of trips where no run has changed, and of what was to be put at the end maybe not all is there
pub runs_sound : {V : Type 0} (rules : Rules V) (old now : Labels V) (new : List (Label V)) → AreLabels rules old
    → now.runs.items ≡ old.runs.items → ArePartlyPut old.labels.items new now.labels.items
    → ((l : Label V) → Contains new l → Admits rules l.value) → AreLabels rules now
runs_sound rules old now new are same put fits =
    let grows = extends_long old.labels.items now.labels.items put.extends in
    record {
      runs = subst (λ (runs : List LabelRun). AreRuns runs (length now.labels.items)) (sym same) (record {
        counted = are.runs.counted;
        within = λ k. let within = are.runs.within k in omega arith;
        apart = are.runs.apart;
      });
      admitted = λ l h. elim (put.only l h) [ inl was ↦ are.admitted l was | inr is ↦ fits l is ];
    }

-- the labels of a trip are of values that the laws speak of
pub labels_admitted : {V : Type 0} (rules : Rules V) (labels : Labels V) → AreLabels rules labels → (trip : ℕ) (l : Label V)
    → Contains (labels_at labels trip) l → Admits rules l.value
labels_admitted rules labels are trip l h =
    let run = run_at labels.runs.items trip in
    are.admitted l (in_part labels.labels.items run.first run.count l h)
