-- The points along a list, and the front of its first entry.
use Rattle.std.proofs.Common.{◌≡◌, ◌⊎◌, ℕ, zero, suc, ◌+◌, ◌<◌, ◌≤◌, List, [], ◌∷◌, ◌++◌, length, Contains, inl, inr}
use Rattle.std.proofs.Common.{get_or, Some, true, false, ◌||◌, take, drop, refl, sym, ◌∙◌, ap, subst, arith, length-drop}
use Rattle.std.proofs.lemmas.List.{length-take-le}
use Rattle.std.proofs.lemmas.List.Elements.{Contains-append_left, Contains-append_right, Contains-append_cases}
use Rattle.std.proofs.lemmas.Option.{slice_get-get_or}
use Rattle.reasoning.proofs.ListLemmas.{not_in_nil, contains_first, contains_rest}
use Rattle.criteria.specs.Laws.{Rules, Laws, Admits}
use Rattle.fronts.specs.declared.entry.Item.{Item}
use Rattle.fronts.specs.declared.entry.FrontEntry.{FrontEntry}
use Rattle.fronts.specs.Front.{own, front_of, front, next_in, departure_in, next_of, departure_of, points_from, Betters}
use Rattle.fronts.specs.Entries.{AreEntries}
use Rattle.fronts.specs.Putting.{IsLate, betters, outdoes_alone}
use Rattle.fronts.proofs.Chains as chain

-- on the way to the first late entry
pub record LeadsTo {V : Type 0} (entries : List (FrontEntry V)) (items : List (Item V)) (head time m : ℕ) : Type 0 where
  pub within : m < length entries
  pub only : (p : Item V) → Contains (points_from entries items m) p → Contains (points_from entries items head) p
  pub all : (p : Item V) → Contains (points_from entries items head) p → time ≤ p.departure → Contains (points_from entries items m) p

pub departs_at : {V : Type 0} (entries : List (FrontEntry V)) (m : ℕ) (e : FrontEntry V) → m < length entries
    → e ≡ get_or entries m e → departure_of entries m ≡ e.departure
departs_at entries m e lt is = ap departure_in (slice_get-get_or entries m e lt ∙ ap Some (sym is))

pub next_at : {V : Type 0} (entries : List (FrontEntry V)) (m : ℕ) (e : FrontEntry V) → m < length entries → e ≡ get_or entries m e → next_of entries m ≡ e.next
next_at entries m e lt is = ap next_in (slice_get-get_or entries m e lt ∙ ap Some (sym is))

module _ {V : Type 0} (rules : Rules V) (entries : List (FrontEntry V)) (items : List (Item V)) (are : AreEntries rules entries items) where
  pub none_at_end : points_from entries items 0 ≡ []
  none_at_end = chain.none_at_end (next_of entries) (front entries items)

  -- a list's points are those of its first front, and those of the rest
  pub unrolled : (m : ℕ) → points_from entries items m ≡ front entries items m ++ points_from entries items (next_of entries m)
  unrolled zero = none_at_end ∙ sym (ap (points_from entries items) are.ends ∙ none_at_end)
  unrolled (suc m) = chain.unrolled (next_of entries) (front entries items) are.back m

  pub of_front : (m : ℕ) (p : Item V) → Contains (front entries items m) p → Contains (points_from entries items m) p
  of_front m p h = subst (λ xs. Contains xs p) (sym (unrolled m))
      (Contains-append_left (front entries items m) (points_from entries items (next_of entries m)) p h)

  pub of_next : (m : ℕ) (p : Item V) → Contains (points_from entries items (next_of entries m)) p → Contains (points_from entries items m) p
  of_next m p h = subst (λ xs. Contains xs p) (sym (unrolled m))
      (Contains-append_right (front entries items m) (points_from entries items (next_of entries m)) p h)

  pub front_or_next : (m : ℕ) (p : Item V) → Contains (points_from entries items m) p
      → Contains (front entries items m) p ⊎ Contains (points_from entries items (next_of entries m)) p
  front_or_next m p h = Contains-append_cases (front entries items m) (points_from entries items (next_of entries m)) p
      (subst (λ xs. Contains xs p) (unrolled m) h)

  pub some_next : (m : ℕ) (p : Item V) → Contains (points_from entries items m) p → 0 < m
  some_next zero p h = absurd (not_in_nil p (subst (λ xs. Contains xs p) none_at_end h))
  some_next (suc m) p h = omega arith

  -- what holds of each front's points, and goes from the rest of a list to the whole, holds along a list
  along_to : (P : ℕ → Item V → Type 0) → ((m : ℕ) (p : Item V) → Contains (front entries items m) p → P m p)
      → ((m : ℕ) (p : Item V) → 0 < next_of entries m → P (next_of entries m) p → P m p)
      → (n m : ℕ) → m ≤ n → (p : Item V) → Contains (points_from entries items m) p → P m p
  along_to P here on n zero le p h = absurd (not_in_nil p (subst (λ xs. Contains xs p) none_at_end h))
  along_to P here on zero (suc m) le p h = absurd (omega arith)
  along_to P here on (suc n) (suc m) le p h =
      let back = are.back m in
      elim (front_or_next (suc m) p h) [
        | inl a ↦ here (suc m) p a
        | inr b ↦ on (suc m) p (some_next (next_of entries (suc m)) p b) (along_to P here on n (next_of entries (suc m)) (omega arith) p b)
      ]

  pub along : (P : ℕ → Item V → Type 0) → ((m : ℕ) (p : Item V) → Contains (front entries items m) p → P m p)
      → ((m : ℕ) (p : Item V) → 0 < next_of entries m → P (next_of entries m) p → P m p)
      → (m : ℕ) (p : Item V) → Contains (points_from entries items m) p → P m p
  along P here on m p h = along_to P here on m m (omega arith) p h

  pub points_admitted : (m : ℕ) (p : Item V) → Contains (points_from entries items m) p → Admits rules p.value
  points_admitted = along (λ m p. Admits rules p.value) (λ m p h. (are.each m).admitted p h) (λ m p some a. a)

  pub betters_on : (laws : Laws rules) (m : ℕ) (v : V) → Admits rules v
      → Betters rules (front entries items (next_of entries m)) v → Betters rules (front entries items m) v
  betters_on laws m v a (q, h, w) =
      let r = (are.each m).over q h in
      (r.0, r.1, laws.transitive r.0.value q.value v ((are.each m).admitted r.0 r.1) ((are.each (next_of entries m)).admitted q h) a r.2 w)

  -- THE THEOREM: the front of a list's first entry betters each point of the list
  pub front_betters_all : (laws : Laws rules) (m : ℕ) (p : Item V) → Contains (points_from entries items m) p → Betters rules (front entries items m) p.value
  front_betters_all laws m p h =
      (along (λ m p. Admits rules p.value × Betters rules (front entries items m) p.value)
      (λ m p h. let a = (are.each m).admitted p h in (a, (p, h, laws.reflexive p.value a)))
      (λ m p some both. (both.0, betters_on laws m p.value both.0 both.1)) m p h).1

  -- who departs after an entry is further on
  pub passed_on : (m time : ℕ) (p : Item V) → departure_of entries m < time → Contains (points_from entries items m) p
      → time ≤ p.departure → Contains (points_from entries items (next_of entries m)) p
  passed_on m time p early h late = elim (front_or_next m p h) [
    | inl a ↦ elim ((are.each m).from p a) [ inl e ↦ absurd (omega (arith, e)) | inr b ↦ of_front (next_of entries m) p b ]
    | inr b ↦ b
  ]

  pub next_within : (m : ℕ) → m < length entries → next_of entries m < length entries
  next_within zero lt = subst (λ n. n < length entries) (sym are.ends) are.some
  next_within (suc m) lt = let back = are.back m in omega arith

  -- the entry at index 0 is passed at no time
  pub not_end : (m time : ℕ) → departure_of entries m < time → time ≤ 4294967295 → 0 < m
  not_end zero time lt le = let never = are.never in absurd (omega arith)
  not_end (suc m) time lt le = omega arith

  pub next_back : (m : ℕ) → 0 < m → next_of entries m < m
  next_back zero some = absurd (omega arith)
  next_back (suc m) some = let back = are.back m in omega arith

  pub leads_on : (head time m n : ℕ) → departure_of entries m < time → next_of entries m ≡ n
      → LeadsTo entries items head time m → LeadsTo entries items head time n
  leads_on head time m n early e l = subst (LeadsTo entries items head time) e (record {
    within = next_within m l.within;
    only = λ p h. l.only p (of_next m p h);
    all = λ p h late. passed_on m time p early (l.all p h late) late;
  })

  -- the front from a time on: of points that depart then or later, and it betters each of them
  pub front_from : (laws : Laws rules) (head time m : ℕ) → IsLate entries items head time m
      → ((p : Item V) → Contains (front entries items m) p → Contains (points_from entries items head) p × (time ≤ p.departure))
      × ((p : Item V) → Contains (points_from entries items head) p → time ≤ p.departure → Betters rules (front entries items m) p.value)
  front_from laws head time m is = (
    λ p h. let late = (are.each m).late p h in let from = is.late in (is.only p (of_front m p h), omega arith),
    λ p h late. front_betters_all laws m p (is.all p h late),
  )

-- an entry that is read, read once more
pub read_again : {V : Type 0} (entries : List (FrontEntry V)) (m : ℕ) (e : FrontEntry V)
    → e ≡ get_or entries m e → get_or entries m e ≡ get_or entries m (get_or entries m e)
read_again {V} entries m e is = ap (λ (x : FrontEntry V). get_or entries m x) is

-- what a front has to be tested for, in two parts
pub front_at : {V : Type 0} (entries : List (FrontEntry V)) (items : List (Item V)) (m : ℕ) (e : FrontEntry V) → 0 < m
    → m < length entries → e ≡ get_or entries m e → front entries items m ≡ own e ∷ take e.count (drop e.rest items)
front_at entries items zero e some lt is = absurd (omega arith)
front_at entries items (suc m) e some lt is = ap (front_of items) (slice_get-get_or entries (suc m) e lt ∙ ap Some (sym is))

pub first_betters : {V : Type 0} (rules : Rules V) (points rest : List (Item V)) (p : Item V) (v : V)
    → points ≡ p ∷ rest → rules.no_worse p.value v ≡ true → betters rules points v ≡ true
first_betters rules points rest p v e t = ap (λ ps. betters rules ps v) e ∙ ap (λ b. b || betters rules rest v) t

pub rest_betters : {V : Type 0} (rules : Rules V) (points rest : List (Item V)) (p : Item V) (v : V) → points ≡ p ∷ rest
    → rules.no_worse p.value v ≡ false → betters rules points v ≡ betters rules rest v
rest_betters rules points rest p v e t = ap (λ ps. betters rules ps v) e ∙ ap (λ b. b || betters rules rest v) t

-- a front of one point
pub one_betters : {V : Type 0} (rules : Rules V) (points items : List (Item V)) (e : FrontEntry V) (v : V)
    → points ≡ own e ∷ take e.count (drop e.rest items) → e.count ≡ 0 → rules.no_worse e.value v ≡ false
    → betters rules points v ≡ false
one_betters rules points items e v is none t =
    rest_betters rules points (take e.count (drop e.rest items)) (own e) v is t
    ∙ ap (λ n. betters rules (take n (drop e.rest items)) v) none

-- whether a front is outdone, by what its entry has
pub one_outdone : {V : Type 0} (rules : Rules V) (v : V) (points items : List (Item V)) (e : FrontEntry V)
    → points ≡ own e ∷ take e.count (drop e.rest items) → e.count ≡ 0 → outdoes_alone rules v points ≡ rules.no_worse v e.value
one_outdone rules v points items e is none =
    ap (outdoes_alone rules v) (is ∙ ap (λ n. own e ∷ take n (drop e.rest items)) none)

of_several : {V : Type 0} (rules : Rules V) (v : V) (p : Item V) (points : List (Item V)) → 0 < length points
    → outdoes_alone rules v (p ∷ points) ≡ false
of_several rules v p [] some = absurd (omega arith)
of_several rules v p (q ∷ points) some = refl

pub several_not_outdone : {V : Type 0} (rules : Rules V) (v : V) (points items : List (Item V)) (e : FrontEntry V)
    → points ≡ own e ∷ take e.count (drop e.rest items) → 0 < e.count → e.rest + e.count ≤ length items
    → outdoes_alone rules v points ≡ false
several_not_outdone rules v points items e is some within =
    let len = length-drop e.rest items in
    let long = length-take-le e.count (drop e.rest items) (omega arith) in
    ap (outdoes_alone rules v) is ∙ of_several rules v (own e) (take e.count (drop e.rest items)) (omega arith)

pub entry_part : {V : Type 0} (rules : Rules V) (entries : List (FrontEntry V)) (items : List (Item V))
    → AreEntries rules entries items → (m : ℕ) (e : FrontEntry V) → m < length entries → e ≡ get_or entries m e
    → e.rest + e.count ≤ length items
entry_part rules entries items are m e lt is = are.within m e (slice_get-get_or entries m e lt ∙ ap Some (sym is))

pub entry_admitted : {V : Type 0} (rules : Rules V) (entries : List (FrontEntry V)) (items : List (Item V))
    → AreEntries rules entries items → (m : ℕ) (e : FrontEntry V) → 0 < m → m < length entries → e ≡ get_or entries m e
    → Admits rules e.value
entry_admitted rules entries items are m e some lt is =
    (are.each m).admitted (own e) (subst (λ ps. Contains ps (own e)) (sym (front_at entries items m e some lt is))
    (contains_first (own e) (take e.count (drop e.rest items))))

pub part_admitted : {V : Type 0} (rules : Rules V) (entries : List (FrontEntry V)) (items : List (Item V))
    → AreEntries rules entries items → (m : ℕ) (e : FrontEntry V) → 0 < m → m < length entries → e ≡ get_or entries m e
    → (p : Item V) → Contains (take e.count (drop e.rest items)) p → Admits rules p.value
part_admitted rules entries items are m e some lt is p h =
    (are.each m).admitted p (subst (λ ps. Contains ps p) (sym (front_at entries items m e some lt is))
    (contains_rest p (own e) (take e.count (drop e.rest items)) h))
