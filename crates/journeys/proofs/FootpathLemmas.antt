-- What the test for a footpath means; and footpaths into a stop, in order of the stop that they leave.
use Rattle.std.proofs.Common.{◌≡◌, ℕ, ◌+◌, ◌<◌, ◌≤◌, true, false, List, slice_get, Some, Contains, ◌↔◌, true≢false, refl, sym, ap, subst, ◌∙◌, arith, inl, inr}
use Rattle.std.proofs.lemmas.Bool.{cases_eq, cases_order, cases_Bool, and_parts, eqb-true, eq-eqb, and_from}
use Rattle.std.proofs.lemmas.Option.{slice_get_within, get_or_from_slice_get, same_Some}
use Rattle.std.proofs.lemmas.List.Folds.{Any-from_list_any, list_any_at}
use Rattle.reasoning.proofs.ListLemmas.{at_contains}
use Rattle.timetable.specs.declared.network.Footpath.{Footpath}
use Rattle.timetable.specs.TimetableValue.{TimetableValue}
use Rattle.timetable.specs.Legal.{At, AreInOrder, IsLegal}
use Rattle.timetable.specs.LegalProp.{in_order_later}
use Rattle.journeys.specs.Faults.{is_same, has_footpath}

is_same-refl : (f : Footpath) → is_same f f ≡ true
is_same-refl f = and_from _ _ (eq-eqb f.from f.from refl) (and_from _ _ (eq-eqb f.to f.to refl) (eq-eqb f.secs f.secs refl))

is_same-eq : (f g : Footpath) → is_same f g ≡ true → f ≡ g
is_same-eq f g e =
    let outer = and_parts _ _ e in
    let inner = and_parts _ _ outer.1 in
    let from = eqb-true f.from g.from outer.0 in
    let to = eqb-true f.to g.to inner.0 in
    let secs = eqb-true f.secs g.secs inner.1 in
    λ i. record { from = from i; to = to i; secs = secs i }

-- the test finds just what the timetable has
pub Contains-has_footpath : (t : TimetableValue) (f : Footpath) → has_footpath t f ≡ true → Contains t.footpaths f
unfolding has_footpath
Contains-has_footpath t f e =
    let any = Any-from_list_any (λ g. is_same g f) t.footpaths e in
    let same : any.1 ≡ f = is_same-eq any.1 f any.4 in
    subst (λ (g : Footpath). Contains t.footpaths g) same (any.0, any.2, any.3)

pub has_footpath-at : (t : TimetableValue) (k : ℕ) (f : Footpath) → At t.footpaths k f → has_footpath t f ≡ true
unfolding has_footpath
has_footpath-at t k f at =
    list_any_at (λ g. is_same g f) t.footpaths k f (slice_get_within t.footpaths k f at)
    (ap (λ (g : Footpath). is_same g f) (get_or_from_slice_get t.footpaths k f f at) ∙ is_same-refl f)

pub has_footpath-Contains : (t : TimetableValue) (f : Footpath) → Contains t.footpaths f → has_footpath t f ≡ true
has_footpath-Contains t f in_f = let at = at_contains t.footpaths f in_f in has_footpath-at t at.0 f at.1

pub has_footpath-none : (t : TimetableValue) (f : Footpath) → ((k : ℕ) → At t.footpaths k f → ⊥) → has_footpath t f ≡ false
has_footpath-none t f none =
    elim (cases_Bool (has_footpath t f)) [
      | inl found ↦ (let at = at_contains t.footpaths f (Contains-has_footpath t f found) in absurd (none at.0 at.1))
      | inr missing ↦ missing
    ]

-- the footpaths from one index up to before another lead into a stop
abbrev pub LeadInto : List Footpath → ℕ → ℕ → ℕ → Type 0
LeadInto paths stop start end = (k : ℕ) (f : Footpath) → At paths k f → start ≤ k → k < end → f.to ≡ stop

module _ (paths : List Footpath) (in_order : AreInOrder paths) (stop start end : ℕ) (into : LeadInto paths stop start end) where
  -- they rise by the stop that they leave
  pub leaves_later : (j k : ℕ) (f g : Footpath) → start ≤ j → j < k → k < end → At paths j f → At paths k g → f.from < g.from
  leaves_later j k f g low lt high at_f at_g =
      let order = in_order_later paths in_order k j f g lt at_f at_g in
      let same : f.to ≡ g.to = into j f at_f low (omega arith) ∙ sym (into k g at_g (omega arith) high) in
      order.1 same

  -- those up to one that leaves an earlier stop leave earlier stops
  pub before_middle : (m from : ℕ) (g : Footpath) → At paths m g → m < end → g.from < from → (k : ℕ) (f : Footpath) → At paths k f → start ≤ k → k < m + 1
      → f.from < from
  before_middle m from g at_g high lt k f at_f low below =
      elim (cases_eq k m) [
        | inl same ↦ (let one : f ≡ g = same_Some f g (sym at_f ∙ ap (λ (x : ℕ). slice_get paths x) same ∙ at_g) in subst (λ (x : Footpath). x.from < from)
            (sym one) lt)
        | inr other ↦ (let less = leaves_later k m f g low (omega (arith, other)) high at_f at_g in omega (arith, less))
      ]

  -- those from one on that leaves no earlier stop leave no earlier stop
  pub from_middle : (m from : ℕ) (g : Footpath) → At paths m g → start ≤ m → from ≤ g.from → (k : ℕ) (f : Footpath) → At paths k f → m ≤ k → k < end
      → from ≤ f.from
  from_middle m from g at_g low le k f at_f above high =
      elim (cases_eq m k) [
        | inl same ↦ (let one : g ≡ f = same_Some g f (sym at_g ∙ ap (λ (x : ℕ). slice_get paths x) same ∙ at_f) in subst
            (λ (x : Footpath). from ≤ x.from) one le)
        | inr other ↦ (let less = leaves_later m k g f low (omega (arith, other)) high at_g at_f in omega (arith, less))
      ]

-- among the footpaths into where a footpath leads, only the first that leaves its stop or a later one may be the same
pub same_or_none : (t : TimetableValue) → IsLegal t → (f g : Footpath) (start end index : ℕ)
    → ((k : ℕ) (h : Footpath) → At t.footpaths k h → (h.to ≡ f.to) ↔ ((start ≤ k) × (k < end))) → start ≤ index → index < end
    → ((k : ℕ) (h : Footpath) → At t.footpaths k h → start ≤ k → k < index → h.from < f.from)
    → ((k : ℕ) (h : Footpath) → At t.footpaths k h → index ≤ k → k < end → f.from ≤ h.from) → At t.footpaths index g → is_same g f ≡ has_footpath t f
same_or_none t legal f g start end index exact low high before here at_g =
    elim (cases_Bool (is_same g f)) [
      | inl same ↦ same ∙ sym (has_footpath-at t index f (at_g ∙ ap Some (is_same-eq g f same)))
      | inr other ↦ other ∙ sym (has_footpath-none t f (never other))
    ]
  where
    never : is_same g f ≡ false → (k : ℕ) → At t.footpaths k f → ⊥
    never other k at_f =
        let range = (exact k f at_f).0 refl in
        elim (cases_order k index) [
          | inl same ↦ (let one : f ≡ g = same_Some f g (sym at_f ∙ ap (λ (x : ℕ). slice_get t.footpaths x) same ∙ at_g) in true≢false
              (sym (is_same-refl f) ∙ ap (λ (h : Footpath). is_same h f) one ∙ other))
          | inr (inl below) ↦ (let less = before k f at_f range.0 below in absurd (omega (arith, less)))
          | inr (inr above) ↦ (let less = leaves_later t.footpaths legal.in_order f.to start end
              (λ j h at_h le lt. (exact j h at_h).1 (le, lt)) index k g f low above range.1 at_g at_f in let le = here index g at_g (omega arith) high in absurd
              (omega (arith, less, le)))
        ]
