-- Lists of footpaths in the order of the stop that they lead into, then of the stop that they leave.
use Rattle.std.proofs.Common.{◌≡◌, ℕ, zero, suc, ◌+◌, ◌<◌, ◌≤◌, ◌⊎◌, inl, inr, List, [], ◌∷◌, length, Some, Contains, refl, sym, ap, subst, ◌∙◌, arith}
use Rattle.std.proofs.lemmas.Option.{same_Some, none-some}
use Rattle.reasoning.proofs.ListLemmas.{contains_at, at_contains}
use Rattle.timetable.specs.declared.network.Footpath.{Footpath}
use Rattle.timetable.specs.Legal.{At, HasFootpath, IsOrderedBefore, AreInOrder}
use Rattle.timetable.specs.LegalProp.{in_order_later}

-- nothing stands in an empty list
pub at_nothing : (i : ℕ) (f : Footpath) → At [] i f → ⊥
at_nothing i f at = none-some f at

in_order_tail : (x : Footpath) (xs : List Footpath) → AreInOrder (x ∷ xs) → AreInOrder xs
in_order_tail x xs in_order i d e at_d at_e =
    let next : suc (i + 1) ≡ suc i + 1 = omega arith in
    let at_next : At (x ∷ xs) (suc (i + 1)) e = at_e in
    in_order (suc i) d e at_d (subst (λ (n : ℕ). At (x ∷ xs) n e) next at_next)

-- the first is before all others
first_before : (x : Footpath) (xs : List Footpath) → AreInOrder (x ∷ xs) → (j : ℕ) (f : Footpath) → At xs j f → IsOrderedBefore x f
first_before x xs in_order j f at = in_order_later (x ∷ xs) in_order (suc j) zero x f (omega arith) refl at

-- what joins the same stops isn't before
never_same : (d e : Footpath) → IsOrderedBefore d e → d.from ≡ e.from → d.to ≡ e.to → ⊥
never_same d e before from to = omega (arith, before.1 to, from)

-- the list has a footpath between the same stops
abbrev pub HasPair : List Footpath → Footpath → Type 0
HasPair paths f = (secs : ℕ) × HasFootpath paths f.from f.to secs

ends_of : (y f : Footpath) (secs : ℕ) → Some y ≡ Some (record { from = f.from; to = f.to; secs = secs }) → (y.from ≡ f.from) × (y.to ≡ f.to)
ends_of y f secs e =
    let same : y ≡ record { from = f.from; to = f.to; secs = secs } = same_Some y (record { from = f.from; to = f.to; secs = secs }) e in
    (ap (λ (g : Footpath). g.from) same, ap (λ (g : Footpath). g.to) same)

-- where the first isn't between those stops, another is
pair_in_tail : (y : Footpath) (w : List Footpath) (f : Footpath) → (y.from ≡ f.from → y.to ≡ f.to → ⊥) → HasPair (y ∷ w) f → HasPair w f
pair_in_tail y w f differ (secs, (zero, at)) = let ends = ends_of y f secs at in absurd (differ ends.0 ends.1)
pair_in_tail y w f differ (secs, (suc i, at)) = (secs, (i, at))

-- three in a row
not_round : (y x f : Footpath) → IsOrderedBefore y x → IsOrderedBefore x f → y.from ≡ f.from → y.to ≡ f.to → ⊥
not_round y x f first second from to =
    let near : y.to ≡ x.to = omega (arith, first.0, second.0, to) in
    let far : x.to ≡ f.to = omega (arith, near, to) in
    omega (arith, first.1 near, second.1 far, from)

-- the pair is that of the first, or of another
pair_cases : (y : Footpath) (w : List Footpath) (f : Footpath) → HasPair (y ∷ w) f → ((y.from ≡ f.from) × (y.to ≡ f.to)) ⊎ HasPair w f
pair_cases y w f (secs, (zero, at)) = inl (ends_of y f secs at)
pair_cases y w f (secs, (suc i, at)) = inr (secs, (i, at))

-- where the first of one list is in the tail of the other, no pair of the one is that of the other's first
first_differs : (x : Footpath) (p : List Footpath) (y : Footpath) (w : List Footpath) → AreInOrder (x ∷ p) → AreInOrder (y ∷ w) → HasPair w x
    → (j : ℕ) (f : Footpath) → At (x ∷ p) j f → y.from ≡ f.from → y.to ≡ f.to → ⊥
first_differs x p y w in_part in_whole (secs, (i, at)) zero f at_f from to =
    let before : IsOrderedBefore y (record { from = x.from; to = x.to; secs = secs }) =
    first_before y w in_whole i (record { from = x.from; to = x.to; secs = secs }) at in
    let same : x ≡ f = same_Some x f at_f in
    let x_from : x.from ≡ f.from = ap (λ (g : Footpath). g.from) same in
    let x_to : x.to ≡ f.to = ap (λ (g : Footpath). g.to) same in
    let less : y.from < x.from = before.1 (to ∙ sym x_to) in
    omega (arith, less, from, x_from)
first_differs x p y w in_part in_whole (secs, (i, at)) (suc j) f at_f from to =
    not_round y (record { from = x.from; to = x.to; secs = secs }) f (first_before y w in_whole i (record { from = x.from; to = x.to; secs = secs }) at)
    (first_before x p in_part j f at_f) from to

-- footpaths in order are no more than those of a list that has one between the same stops for each
pub no_longer : (part whole : List Footpath) → AreInOrder part → AreInOrder whole → ((j : ℕ) (f : Footpath) → At part j f → HasPair whole f)
    → length part ≤ length whole
no_longer [] whole in_part in_whole all = omega arith
no_longer (x ∷ p) [] in_part in_whole all = let (secs, (i, at)) = all 0 x refl in absurd (at_nothing i (record { from = x.from; to = x.to; secs = secs }) at)
no_longer (x ∷ p) (y ∷ w) in_part in_whole all = elim (pair_cases y w x (all 0 x refl)) [
  | inl ends ↦
      let rest : length p ≤ length w = no_longer p w (in_order_tail x p in_part) (in_order_tail y w in_whole) (λ j f at_f.
      pair_in_tail y w f (λ from to. never_same x f (first_before x p in_part j f at_f) (sym ends.0 ∙ from) (sym ends.1 ∙ to)) (all (suc j) f at_f)) in
      omega (arith, rest)
  | inr in_tail ↦
      let rest : length (x ∷ p) ≤ length w = no_longer (x ∷ p) w in_part (in_order_tail y w in_whole) (λ j f at_f.
      pair_in_tail y w f (first_differs x p y w in_part in_whole in_tail j f at_f) (all j f at_f)) in
      omega (arith, rest)
]

-- lists in order with the same footpaths are one list
pub same_list : (c d : List Footpath) → AreInOrder c → AreInOrder d → ((f : Footpath) → Contains c f → Contains d f)
    → ((f : Footpath) → Contains d f → Contains c f) → c ≡ d
same_list [] [] in_c in_d there back = refl
same_list [] (y ∷ d) in_c in_d there back = let (i, at) = at_contains {X = Footpath} [] y (back y (contains_at (y ∷ d) 0 y refl)) in absurd (at_nothing i y at)
same_list (x ∷ c) [] in_c in_d there back = let (i, at) = at_contains {X = Footpath} [] x (there x (contains_at (x ∷ c) 0 x refl)) in absurd (at_nothing i x at)
same_list (x ∷ c) (y ∷ d) in_c in_d there back =
    let same : x ≡ y = first_same (at_contains (y ∷ d) x (there x (contains_at (x ∷ c) 0 x refl)))
    (at_contains (x ∷ c) y (back y (contains_at (y ∷ d) 0 y refl))) in
    let rest : c ≡ d = same_list c d (in_order_tail x c in_c) (in_order_tail y d in_d)
    (λ f in_c_rest. let (i, at) = at_contains c f in_c_rest in
    into_tail y d f (λ (e : y ≡ f). never_same x f (first_before x c in_c i f at) (ap (λ (g : Footpath). g.from) (same ∙ e))
    (ap (λ (g : Footpath). g.to) (same ∙ e))) (at_contains (y ∷ d) f (there f (contains_at (x ∷ c) (suc i) f at))))
    (λ f in_d_rest. let (i, at) = at_contains d f in_d_rest in
    into_tail x c f (λ (e : x ≡ f). never_same y f (first_before y d in_d i f at) (ap (λ (g : Footpath). g.from) (sym same ∙ e))
    (ap (λ (g : Footpath). g.to) (sym same ∙ e))) (at_contains (x ∷ c) f (back f (contains_at (y ∷ d) (suc i) f at)))) in
    ap (λ (g : Footpath). g ∷ c) same ∙ ap (λ (xs : List Footpath). y ∷ xs) rest
  where
    into_tail : (z : Footpath) (zs : List Footpath) (f : Footpath) → (z ≡ f → ⊥) → (i : ℕ) × At (z ∷ zs) i f → Contains zs f
    into_tail z zs f differ (zero, at) = absurd (differ (same_Some z f at))
    into_tail z zs f differ (suc i, at) = contains_at zs i f at

    first_same : (i : ℕ) × At (y ∷ d) i x → (j : ℕ) × At (x ∷ c) j y → x ≡ y
    first_same (zero, at) other = sym (same_Some y x at)
    first_same (suc i, at) (zero, at_y) = same_Some x y at_y
    first_same (suc i, at) (suc j, at_y) = absurd (not_round y x y (first_before y d in_d i x at) (first_before x c in_c j y at_y) refl refl)
