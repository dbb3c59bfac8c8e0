-- The footpaths of the first claims about their pairs.
use Rattle.std.proofs.Common.{◌≡◌, ℕ, suc, ◌+◌, ◌-◌, ◌<◌, ◌≤◌, inl, inr, List, [], ◌∷◌, ◌++◌, Contains, get_or, refl, sym, ap, subst, ◌∙◌}
use Rattle.std.proofs.Common.{arith, append-nil}
use Rattle.std.proofs.lemmas.Option.{slice_get-get_or, slice_get_within}
use Rattle.std.proofs.lemmas.Bool.{cases_eq, cases_lt}
use Rattle.std.proofs.lemmas.List.Elements.{Contains-push, Contains-push_cases, Contains-append_left}
use Rattle.reasoning.proofs.ListLemmas.{same_at}
use Rattle.timetable.specs.declared.network.Footpath.{Footpath}
use Rattle.timetable.specs.Legal.{At, AreInOrder}
use Rattle.transfers.specs.declared.claims.Verdict.{Verdict}
use Rattle.transfers.specs.declared.claims.Verdict.TheVariants.{Never, Takes}
use Rattle.transfers.specs.declared.claims.Claim.{Claim}
use Rattle.transfers.specs.Claims.{ComesBefore, AreSorted, IsFirstAt, IsPathAt, ArePathsBelow, path_of}
use Rattle.timetable.proofs.LegalLemmas.{in_order_push}

abbrev pub secs_in : Verdict → ℕ
secs_in Never = 0
secs_in (Takes n) = suc n

pub never_takes : (n : ℕ) → Never ≡ Takes n → ⊥
never_takes n e = let same : 0 ≡ suc n = ap (λ (w : Verdict). secs_in w) e in omega (arith, same)

pub same_takes : (m n : ℕ) → Takes m ≡ Takes n → m ≡ n
same_takes m n e = let same : suc m ≡ suc n = ap (λ (w : Verdict). secs_in w) e in omega (arith, same)

abbrev pub footpath_of : ℕ → ℕ → ℕ → Footpath
footpath_of from to secs = record { from = from; to = to; secs = secs }

same_path : (from to secs : ℕ) (f : Footpath) → from ≡ f.from → to ≡ f.to → secs ≡ f.secs → footpath_of from to secs ≡ f
same_path from to secs f e_from e_to e_secs =
    ap (λ (n : ℕ). footpath_of n to secs) e_from ∙ ap (λ (n : ℕ). footpath_of f.from n secs) e_to ∙ ap (λ (n : ℕ). footpath_of f.from f.to n) e_secs

-- before the first claim on a pair none stands on it
pub first_strict : (claims : List Claim) → AreSorted claims → (k index : ℕ) (e c : Claim) → k < index → At claims k e → At claims index c
    → IsFirstAt claims index → e.to ≡ c.to → e.from ≡ c.from → ⊥
first_strict claims sorted k index e c below at_e at_c first to from =
    let b : Claim = get_or claims (index - 1) c in
    let at_b : At claims (index - 1) b = slice_get-get_or claims (index - 1) c (omega (arith, below, slice_get_within claims index c at_c)) in
    let second : ComesBefore b c = sorted (index - 1) index b c (omega (arith, below)) at_b at_c in
    elim (cases_eq k (index - 1)) [
      | inl same ↦
          let is_b : e ≡ b = same_at claims k e b at_e (subst (λ (n : ℕ). At claims n b) (sym same) at_b) in
          first b c at_b at_c (omega (arith, below)) (sym (ap (λ (x : Claim). x.to) is_b) ∙ to, sym (ap (λ (x : Claim). x.from) is_b) ∙ from)
      | inr differ ↦
          let front : ComesBefore e b = sorted k (index - 1) e b (omega (arith, below, differ)) at_e at_b in
          let b_to : b.to ≡ c.to = omega (arith, front.by_to, second.by_to, to) in
          let e_to : e.to ≡ b.to = to ∙ sym b_to in
          let b_from : b.from ≡ c.from = omega (arith, front.by_from e_to, second.by_from b_to, from) in
          first b c at_b at_c (omega (arith, below)) (b_to, b_from)
    ]

module _ (claims : List Claim) (index : ℕ) (c : Claim) (at : At claims index c) (paths : List Footpath) (h : ArePathsBelow claims index paths) where
  weaker : (f : Footpath) → Contains paths f → (k : ℕ) × (k < index + 1) × IsPathAt claims k f
  weaker f is_in = let (k, below, path) = h.has f is_in in (k, omega (arith, below), path)

  -- a claim that isn't the first on its pair gives nothing
  pub paths_skip : ¬ IsFirstAt claims index → ArePathsBelow claims (index + 1) paths
  paths_skip later = record {
    has = weaker;
    each = λ k f below path. elim (cases_eq k index) [
      | inl same ↦ absurd (later (subst (λ (n : ℕ). IsFirstAt claims n) same path.first))
      | inr differ ↦ h.each k f (omega (arith, below, differ)) path
    ];
  }

  module _ (first : IsFirstAt claims index) where
    by_verdict : (w : Verdict) → c.verdict ≡ w → ArePathsBelow claims (index + 1) (paths ++ path_of c.from c.to w)
    by_verdict Never is = record {
      has = λ f is_in. weaker f (subst (λ (ps : List Footpath). Contains ps f) (append-nil paths) is_in);
      each = λ k f below path. elim (cases_eq k index) [
        | inl same ↦
            let is_c : path.claim ≡ c = same_at claims index path.claim c (subst (λ (n : ℕ). At claims n path.claim) same path.at) at in
            absurd (never_takes f.secs (sym is ∙ sym (ap (λ (x : Claim). x.verdict) is_c) ∙ path.verdict_is))
        | inr differ ↦ Contains-append_left paths [] f (h.each k f (omega (arith, below, differ)) path)
      ];
    }
    by_verdict (Takes secs) is =
        let x : Footpath = record { from = c.from; to = c.to; secs = secs } in
        record {
          has = λ f is_in. elim (Contains-push_cases paths x f is_in) [
            | inl was ↦ weaker f was
            | inr same ↦ (
              index,
              omega arith,
              subst (λ (f : Footpath). IsPathAt claims index f) same
                  (record { claim = c; at = at; first = first; from_is = refl; to_is = refl; verdict_is = is }),
            )
          ];
          each = λ k f below path. elim (cases_eq k index) [
            | inl same ↦
                let is_c : path.claim ≡ c = same_at claims index path.claim c (subst (λ (n : ℕ). At claims n path.claim) same path.at) at in
                let from : c.from ≡ f.from = sym (ap (λ (x : Claim). x.from) is_c) ∙ path.from_is in
                let to : c.to ≡ f.to = sym (ap (λ (x : Claim). x.to) is_c) ∙ path.to_is in
                let verdicts : Takes secs ≡ Takes f.secs = sym is ∙ sym (ap (λ (x : Claim). x.verdict) is_c) ∙ path.verdict_is in
                subst (λ (g : Footpath). Contains (paths ++ x ∷ []) g) (same_path c.from c.to secs f from to (same_takes secs f.secs verdicts))
                (Contains-push paths x)
            | inr differ ↦ Contains-append_left paths (x ∷ []) f (h.each k f (omega (arith, below, differ)) path)
          ];
        }

    -- a claim that is the first on its pair gives its footpath
    pub paths_more : ArePathsBelow claims (index + 1) (paths ++ path_of c.from c.to c.verdict)
    paths_more = by_verdict c.verdict refl

    order_by : AreSorted claims → AreInOrder paths → (w : Verdict) → AreInOrder (paths ++ path_of c.from c.to w)
    order_by sorted in_order Never = subst (λ (ps : List Footpath). AreInOrder ps) (sym (append-nil paths)) in_order
    order_by sorted in_order (Takes secs) = in_order_push paths (record { from = c.from; to = c.to; secs = secs }) in_order (λ e is_in.
        let (k, below, path) = h.has e is_in in
        let before : ComesBefore path.claim c = sorted k index path.claim c below path.at at in
        let by_to : e.to ≤ c.to = omega (arith, before.by_to, path.to_is) in
        (by_to, λ to. strict e k below path before to))
      where
        strict : (e : Footpath) (k : ℕ) → k < index → (path : IsPathAt claims k e) → ComesBefore path.claim c → e.to ≡ c.to → e.from < c.from
        strict e k below path before to =
            let same_to : path.claim.to ≡ c.to = path.to_is ∙ to in
            let le : path.claim.from ≤ c.from = before.by_from same_to in
            elim (cases_lt e.from c.from) [
              | inl less ↦ less
              | inr above ↦ absurd (first_strict claims sorted k index path.claim c below path.at at first same_to (omega (arith, le, above, path.from_is)))
            ]

    pub order_more : AreSorted claims → AreInOrder paths → AreInOrder (paths ++ path_of c.from c.to c.verdict)
    order_more sorted in_order = order_by sorted in_order c.verdict
