-- Ridden values kept, one by one, and the entry that ends each list.
use Rattle.std.proofs.Common.{◌≡◌, ◌⊎◌, ℕ, zero, suc, ◌+◌, ◌<◌, ◌≤◌, List, [], ◌∷◌, ◌++◌, length, slice_get, get_or}
use Rattle.std.proofs.Common.{Some, Contains, inl, inr, refl, sym, ◌∙◌, ap, subst, arith}
use Rattle.std.proofs.lemmas.Bool.{cases_order}
use Rattle.std.proofs.lemmas.List.{get_or_default}
use Rattle.std.proofs.lemmas.List.Elements.{Contains-append_left, Contains-push, Contains-push_cases}
use Rattle.std.proofs.lemmas.Option.{slice_get_within}
use Rattle.reasoning.proofs.ListLemmas.{not_in_nil, slice_get-middle}
use Rattle.criteria.specs.Laws.{Rules, Laws, Admits}
use Rattle.fronts.specs.declared.entry.Boarding.{Boarding}
use Rattle.fronts.specs.declared.entry.Item.{Item}
use Rattle.fronts.specs.declared.entry.FrontEntry.{FrontEntry}
use Rattle.fronts.specs.declared.entry.RiddenLabel.{RiddenLabel}
use Rattle.fronts.specs.declared.entry.Step.{Step}
use Rattle.fronts.specs.Front.{Betters, Extends}
use Rattle.fronts.specs.Entries.{IsEntry, AreEntries}
use Rattle.fronts.specs.Walking.{IsKept, IsBoarding, AreBoardings, AllWalked}
use Rattle.fronts.proofs.Growth.{same_at}
use Rattle.fronts.proofs.Pushing.{linked_none}

module _ {V : Type 0} (rules : Rules V) (boarding : Boarding) (ridden : List (RiddenLabel V)) where
  pub boarding_stays : (steps new : List Step) (p : Item V) → Extends steps new
      → IsBoarding rules steps boarding ridden p
      → IsBoarding rules new boarding ridden p
  boarding_stays steps new p ext b = record {
    by = b.by;
    is_ridden = b.is_ridden;
    departs = b.departs;
    worth = b.worth;
    goes_on = same_at steps new ext p.tag (slice_get_within steps p.tag _ b.goes_on) ∙ b.goes_on;
  }

  pub boardings_none : (steps : List Step) (kept : List (Item V)) → kept ≡ [] → AreBoardings rules steps boarding ridden kept
  boardings_none steps kept e p h = absurd (not_in_nil p (subst (λ ps. Contains ps p) e h))

  -- a value is kept
  pub boardings_more : (laws : Laws rules) (steps new : List Step) (kept now : List (Item V)) (v : V) (r : RiddenLabel V)
      → AreBoardings rules steps boarding ridden kept → Admits rules v → Contains ridden r
      → v ≡ rules.walk boarding.secs r.value
      → IsKept steps kept boarding.departure v (record { first = boarding.first; label = r.label; walk = boarding.walk }) new now
      → AreBoardings rules new boarding ridden now × Extends kept now × Betters rules now v
  boardings_more laws steps new kept now v r are a in_ridden worth is =
      let step : Step = record { first = boarding.first; label = r.label; walk = boarding.walk } in
      let me : Item V = record { departure = boarding.departure; value = v; tag = length steps } in
      let here : slice_get new (length steps) ≡ Some step =
      ap (λ (ss : List Step). slice_get ss (length steps)) is.steps_more ∙ slice_get-middle steps step [] in
      let mine : IsBoarding rules new boarding ridden me =
      record { by = r; is_ridden = in_ridden; departs = refl; worth = worth; goes_on = here } in (
        (λ p h. elim (Contains-push_cases kept me p (subst (λ ps. Contains ps p) is.kept_more h)) [
          | inl o ↦ boarding_stays steps new p (step ∷ [], is.steps_more) (are p o)
          | inr e ↦ subst (IsBoarding rules new boarding ridden) e mine
        ]),
        (me ∷ [], is.kept_more),
        subst (λ ps. Betters rules ps v) (sym is.kept_more) (me, Contains-push kept me, laws.reflexive v a),
      )

  betters_more : (kept now : List (Item V)) (v : V) → Extends kept now → Betters rules kept v → Betters rules now v
  betters_more kept now v ext (p, h, w) = (p, subst (λ ps. Contains ps p) (sym ext.1) (Contains-append_left kept ext.0 p h), w)

  -- one more of them is bettered
  pub all_more : (points kept now : List (Item V)) (i : ℕ) (r : RiddenLabel V) → Extends kept now → i < length ridden
      → r ≡ get_or ridden i r → AllWalked rules points boarding.secs ridden i kept
      → Betters rules now (rules.walk boarding.secs r.value) ⊎ Betters rules points (rules.walk boarding.secs r.value)
      → AllWalked rules points boarding.secs ridden (i + 1) now
  all_more points kept now i r ext lt is before this k d low = elim (cases_order k i) [
    | inl e ↦
        let same : r ≡ get_or ridden k d = is ∙ get_or_default ridden i r d lt ∙ ap (λ n. get_or ridden n d) (sym e) in
        subst (λ (z : RiddenLabel V). Betters rules now (rules.walk boarding.secs z.value) ⊎ Betters rules points (rules.walk boarding.secs z.value)) same this
    | inr o ↦ elim o [
      | inl less ↦ elim (before k d less) [ inl b ↦ inl (betters_more kept now (rules.walk boarding.secs (get_or ridden k d).value) ext b) | inr b ↦ inr b ]
      | inr more ↦ absurd (omega arith)
    ]
  ]

-- an entry that carries nothing and leads nowhere
ending : {V : Type 0} → V → FrontEntry V
ending v = record { departure = 4294967295; next = 0; rest = 0; count = 0; tag = 0; value = v }

-- the entry that ends each list, alone
only_end : {V : Type 0} (rules : Rules V) (v : V) → AreEntries rules (ending v ∷ []) []
unfolding ending
only_end {V} rules v = record {
  some = omega arith;
  ends = refl;
  never = refl;
  back = λ m. omega arith;
  within = within;
  each = each;
}
  where
    within : (m : ℕ) (e : FrontEntry V) → slice_get (ending v ∷ []) m ≡ Some e → e.rest + e.count ≤ length {A = Item V} []
    within zero e at = (let same : ending v ≡ e = cc in subst (λ (z : FrontEntry V). z.rest + z.count ≤ 0) same (omega arith))
    within (suc m) e at = absurd cc

    each : (m : ℕ) → IsEntry rules (ending v ∷ []) [] m
    each zero = linked_none rules 4294967295 4294967295
    each (suc m) = linked_none rules 0 4294967295

pub first_sound : {V : Type 0} (rules : Rules V) (v : V) (start entries : List (FrontEntry V)) (items : List (Item V))
    → start ≡ [] → entries ≡ start ++ record {
      departure = 4294967295;
      next = 0;
      rest = 0;
      count = 0;
      tag = 0;
      value =
          v;
    } ∷ [] → items ≡ [] → AreEntries rules entries items
unfolding ending
first_sound {V} rules v start entries items empty pushed_is none =
    subst (AreEntries rules entries) (sym none)
    (subst (λ (es : List (FrontEntry V)). AreEntries rules es [])
    (sym (pushed_is ∙ ap (λ (es : List (FrontEntry V)). es ++ ending v ∷ []) empty)) (only_end rules v))
