-- There is only one list of connections.
use Rattle.std.proofs.Common.{◌≡◌, ℕ, zero, suc, ℤ, ◌<◌, ◌≤◌, ◌⊎◌, inl, inr, List, [], ◌∷◌, refl, sym, ap, ◌∙◌, subst, arith}
use Rattle.std.proofs.lemmas.Bool.{cases_order}
use Rattle.std.proofs.lemmas.Option.{same_Some, slice_get_within}
use Rattle.reasoning.proofs.ListLemmas.{contains_at, at_contains}
use Rattle.gtfs_rows.specs.declared.values.Day.{Day}
use Rattle.gtfs_tables.specs.declared.tables.Feed.{Feed}
use Rattle.service_days.specs.declared.zone.Zone.{Zone}
use Rattle.timetable.specs.Legal.{At}
use Rattle.timetable.specs.declared.network.Connection.{Connection}
use Rattle.connections.specs.Hops.{IsHop}
use Rattle.connections.specs.Listed.{AreListed, IsBefore, IsRunHop}
use Rattle.connections.specs.Outcome.{IsListing}
use Rattle.connections.specs.declared.runs.Run.{Run}
use Rattle.connections.proofs.LegalLemmas.{base_of}
use Rattle.connections.proofs.ListSteps.{hop_along, hops_rise, same_run_at}

-- ---- lists that rise by a relation that doesn't go both ways

abbrev Rises : (Connection → Connection → Type 0) → List Connection → Type 0
Rises R xs = (i j : ℕ) (x y : Connection) → i < j → At xs i x → At xs j y → R x y

tail_rises : (R : Connection → Connection → Type 0) (x : Connection) (xs : List Connection) → Rises R (x ∷ xs) → Rises R xs
tail_rises R x xs up i j y z lt at_y at_z = up (suc i) (suc j) y z (omega (arith, lt)) at_y at_z

-- what the front of a list has
head_or_tail : (x y : Connection) (xs : List Connection) (k : ℕ) → At (x ∷ xs) k y → (x ≡ y) ⊎ ((m : ℕ) × (k ≡ suc m) × At xs m y)
head_or_tail x y xs zero at = inl (same_Some x y at)
head_or_tail x y xs (suc m) at = inr (m, refl, at)

abbrev Among : List Connection → List Connection → Type 0
Among xs ys = (i : ℕ) (x : Connection) → At xs i x → (j : ℕ) × At ys j x

same_heads : (R : Connection → Connection → Type 0) (never : (x y : Connection) → R x y → R y x → ⊥) (x y : Connection) (xs ys : List Connection)
    → Rises R (x ∷ xs) → Rises R (y ∷ ys) → Among (x ∷ xs) (y ∷ ys) → Among (y ∷ ys) (x ∷ xs) → x ≡ y
same_heads R never x y xs ys up rise there back =
    let a = there 0 x refl in
    let b = back 0 y refl in
    elim (head_or_tail y x ys a.0 a.1) [
      | inl same ↦ sym same
      | inr later ↦ elim (head_or_tail x y xs b.0 b.1) [
        | inl same ↦ same
        | inr after ↦ absurd (never x y (up 0 (suc after.0) x y (omega arith) refl after.2) (rise 0 (suc later.0) y x (omega arith) refl later.2))
      ]
    ]

tails_among : (R : Connection → Connection → Type 0) (never : (x y : Connection) → R x y → R y x → ⊥) (x y : Connection) (xs ys : List Connection) → x ≡ y
    → Rises R (x ∷ xs) → Among (x ∷ xs) (y ∷ ys) → Among xs ys
tails_among R never x y xs ys same up there i z at =
    let a = there (suc i) z at in
    elim (head_or_tail y z ys a.0 a.1) [
      | inl front ↦
          let again : R x z = up 0 (suc i) x z (omega arith) refl at in
          let itself : R x x = subst (λ (w : Connection). R x w) (sym (same ∙ front)) again in
          absurd (never x x itself itself)
      | inr later ↦ (later.0, later.2)
    ]

one_list : (R : Connection → Connection → Type 0) (never : (x y : Connection) → R x y → R y x → ⊥) (xs ys : List Connection) → Rises R xs → Rises R ys
    → Among xs ys → Among ys xs → xs ≡ ys
one_list R never [] [] up rise there back = refl
one_list R never [] (y ∷ ys) up rise there back = absurd (let a = back 0 y refl in (let lt = slice_get_within [] a.0 y a.1 in omega (arith, lt)))
one_list R never (x ∷ xs) [] up rise there back = absurd (let a = there 0 x refl in (let lt = slice_get_within [] a.0 x a.1 in omega (arith, lt)))
one_list R never (x ∷ xs) (y ∷ ys) up rise there back =
    let same : x ≡ y = same_heads R never x y xs ys up rise there back in
    let rest : xs ≡ ys = one_list R never xs ys (tail_rises R x xs up) (tail_rises R y ys rise) (tails_among R never x y xs ys same up there)
    (tails_among R never y x ys xs (sym same) rise back) in
    ap (λ (z : Connection). z ∷ xs) same ∙ ap (λ (zs : List Connection). y ∷ zs) rest

-- ---- listed connections rise so

module _ (feed : Feed) (zone : Zone) (base : ℤ) (runs : List Run) where
  one_index : (r s p q : ℕ) (c : Connection) → IsRunHop feed zone base runs r p c → IsRunHop feed zone base runs s q c → p ≡ q
  one_index r s p q c x y =
      let run : s ≡ r = sym y.hop.trip ∙ x.hop.trip in
      let z : IsRunHop feed zone base runs r q c = subst (λ (n : ℕ). IsRunHop feed zone base runs n q c) run y in
      let same = same_run_at feed zone runs r z.start x.start z.rows x.rows z.run_at x.run_at in
      let hop : IsHop base x.start x.rows r q c = hop_along base z.start x.start z.rows x.rows r q c same.0 same.1 z.hop in
      elim (cases_order p q) [
        | inl equal ↦ equal
        | inr (inl below) ↦ absurd (let rise = hops_rise base x.start x.rows r r p q c c x.hop hop below in omega (arith, rise))
        | inr (inr above) ↦ absurd (let rise = hops_rise base x.start x.rows r r q p c c hop x.hop above in omega (arith, rise))
      ]

  abbrev ComesFirst : Connection → Connection → Type 0
  ComesFirst c d = (r : ℕ) × (p : ℕ) × (s : ℕ) × (q : ℕ) × IsRunHop feed zone base runs r p c × IsRunHop feed zone base runs s q d × IsBefore c d p q

  never_round : (c d : Connection) → ComesFirst c d → ComesFirst d c → ⊥
  never_round c d x y =
      let front : x.1 ≡ y.3 = one_index x.0 y.2 x.1 y.3 c x.4 y.5 in
      let later : x.3 ≡ y.1 = one_index x.2 y.0 x.3 y.1 d x.5 y.4 in
      let low = x.6.by_departure in
      let high = y.6.by_departure in
      let dep : c.dep ≡ d.dep = omega (arith, low, high) in
      let arr : c.arr ≡ d.arr = (let a = x.6.by_arrival dep in let b = y.6.by_arrival (sym dep) in omega (arith, a, b)) in
      let trip : c.trip ≡ d.trip = (let a = x.6.by_run dep arr in let b = y.6.by_run (sym dep) (sym arr) in omega (arith, a, b)) in
      let forth = x.6.by_position dep arr trip in
      let back = y.6.by_position (sym dep) (sym arr) (sym trip) in
      omega (arith, front, later, forth, back)

  listed_rises : (cs : List Connection) → AreListed feed zone base runs cs → Rises ComesFirst cs
  listed_rises cs l i j c d lt at_c at_d =
      let x = l.only c (contains_at cs i c at_c) in
      let y = l.only d (contains_at cs j d at_d) in
      (x.0, x.1, y.0, y.1, x.2, y.2, l.in_order i j x.0 x.1 y.0 y.1 c d lt at_c at_d x.2 y.2)

  among : (cs ds : List Connection) → AreListed feed zone base runs cs → AreListed feed zone base runs ds → Among cs ds
  among cs ds l m i c at =
      let x = l.only c (contains_at cs i c at) in
      at_contains ds c (m.each x.0 x.1 c x.2)

  pub one_listed : (cs ds : List Connection) → AreListed feed zone base runs cs → AreListed feed zone base runs ds → cs ≡ ds
  one_listed cs ds l m = one_list ComesFirst never_round cs ds (listed_rises cs l) (listed_rises ds m) (among cs ds l m) (among ds cs m l)

pub one_listing : (feed : Feed) (zone : Zone) (first : Day) (days : ℕ) (cs ds : List Connection) (runs others : List Run) → 1 ≤ days
    → IsListing feed zone first days cs runs → IsListing feed zone first days ds others
    → (cs ≡ ds) × (runs ≡ others)
one_listing feed zone first days cs ds runs others some l m =
    let same : runs ≡ others = l.runs_are ∙ sym m.runs_are in
    let base = base_of zone first days some l.started in
    let theirs : AreListed feed zone base.0 runs ds = subst (λ (rs : List Run). AreListed feed zone base.0 rs ds) (sym same) (m.listed base.0 base.1) in
    (one_listed feed zone base.0 runs cs ds (l.listed base.0 base.1) theirs, same)
