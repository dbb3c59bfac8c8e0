-- The points that others don't better, pushed one by one.
use Rattle.std.proofs.Common.{◌≡◌, ℕ, ◌+◌, ◌-◌, ◌<◌, ◌≤◌, not, List, [], ◌∷◌, ◌++◌, length, take, drop, get_or}
use Rattle.std.proofs.Common.{Contains, sym, ◌∙◌, ap, ap₂, arith, append_assoc, length-drop, Result, Ok, Err, IsErrAnd, MatchResult}
use Rattle.std.proofs.lemmas.List.{take_more, get_or-drop, get_or-take, get_or_append_left, length-take-le}
use Rattle.std.proofs.lemmas.List.Elements.{filter-append}
use Rattle.criteria.specs.Laws.{Rules}
use Rattle.fronts.specs.declared.entry.Item.{Item}
use Rattle.fronts.specs.declared.entry.FrontEntry.{FrontEntry}
use Rattle.fronts.specs.Front.{own, front, Extends}
use Rattle.fronts.specs.Entries.{AreEntries}
use Rattle.fronts.specs.Putting.{betters, left_by}
use Rattle.fronts.proofs.Growth.{front_more, same_part}
use Rattle.fronts.proofs.Points.{front_at}

-- what is said of an error, at the exit of a `?`
pub match_err : {T E Q : Type 0} (P : T → Type 0) (F : E → Type 0) (r : Result T E) → IsErrAnd r F → Q → MatchResult r P (λ _. Q)
match_err P F (Ok x) h q = absurd h
match_err P F (Err e) h q = q

-- an item that is read among those that came after it
pub item_read : {X : Type 0} (old now : List X) (k : ℕ) (x : X) → Extends old now → k < length old → x ≡ get_or now k x → get_or old k x ≡ x
item_read {X} old now k x ext lt is = sym (is ∙ ap (λ (xs : List X). get_or xs k x) ext.1 ∙ get_or_append_left old ext.0 x k lt)

pub item_in_part : {X : Type 0} (old now : List X) (rest count k : ℕ) (x : X) → Extends old now → rest ≤ k
    → k < rest + count → rest + count ≤ length old → x ≡ get_or now k x → Contains (take count (drop rest old)) x
item_in_part old now rest count k x ext low lt within is =
    let len = length-drop rest old in
    let long = length-take-le count (drop rest old) (omega arith) in
    let here : rest + (k - rest) ≡ k = omega arith in (
      k - rest,
      omega arith,
      get_or-take count (drop rest old) (k - rest) x (omega arith) ∙ get_or-drop rest old (k - rest) x
          ∙ ap (λ n. get_or old n x) here ∙ item_read old now k x ext (omega arith) is,
    )

module _ {V : Type 0} (rules : Rules V) (points : List (Item V)) where
  pub left_append : (xs ys : List (Item V)) → left_by rules points (xs ++ ys) ≡ left_by rules points xs ++ left_by rules points ys
  left_append xs ys = filter-append (λ p. not (betters rules points p.value)) xs ys

  pub leave_more : (old now new : List (Item V)) (rest count k : ℕ) (x : Item V)
      → now ≡ old ++ left_by rules points (take (k - rest) (drop rest old)) → rest ≤ k → k < rest + count
      → rest + count ≤ length old → x ≡ get_or now k x
      → new ≡ now ++ left_by rules points (x ∷ []) → new ≡ old ++ left_by rules points (take (k + 1 - rest) (drop rest old))
  leave_more old now new rest count k x was low lt within is e =
      let len = length-drop rest old in
      let here : rest + (k - rest) ≡ k = omega arith in
      let on : k - rest + 1 ≡ k + 1 - rest = omega arith in
      let read : get_or (drop rest old) (k - rest) x ≡ x =
      get_or-drop rest old (k - rest) x ∙ ap (λ n. get_or old n x) here
      ∙ item_read old now k x (left_by rules points (take (k - rest) (drop rest old)), was) (omega arith) is in
      let parts : take (k + 1 - rest) (drop rest old) ≡ take (k - rest) (drop rest old) ++ x ∷ [] =
      ap (λ n. take n (drop rest old)) (sym on) ∙ take_more (drop rest old) (k - rest) x (omega arith)
      ∙ ap (λ y. take (k - rest) (drop rest old) ++ y ∷ []) read in
      e ∙ ap (λ xs. xs ++ left_by rules points (x ∷ [])) was
      ∙ append_assoc old (left_by rules points (take (k - rest) (drop rest old))) (left_by rules points (x ∷ []))
      ∙ ap (λ xs. old ++ xs) (sym (left_append (take (k - rest) (drop rest old)) (x ∷ [])) ∙ ap (left_by rules points) (sym parts))

  -- the own point, and then the items
  pub leave_both : (entries : List (FrontEntry V)) (old mid new : List (Item V)) (m : ℕ) (e : FrontEntry V) → 0 < m
      → m < length entries → e ≡ get_or entries m e → e.rest + e.count ≤ length old
      → mid ≡ old ++ left_by rules points (own e ∷ [])
      → new ≡ mid ++ left_by rules points (take e.count (drop e.rest mid))
      → new ≡ old ++ left_by rules points (front entries old m)
  leave_both entries old mid new m e some lt is within first then_items =
      let own_left = left_by rules points (own e ∷ []) in
      let same = same_part old mid (own_left, first) e.rest e.count within in
      let part = take e.count (drop e.rest old) in
      then_items ∙ ap₂ (λ xs ys. xs ++ left_by rules points ys) first same
      ∙ append_assoc old own_left (left_by rules points part)
      ∙ ap (λ xs. old ++ xs) (sym (left_append (own e ∷ []) part) ∙ ap (left_by rules points) (sym (front_at entries old m e some lt is)))

  -- other items, and then what the points leave of a front
  pub leave_behind : (entries : List (FrontEntry V)) (old mid new first : List (Item V)) → AreEntries rules entries old
      → (m : ℕ) → mid ≡ old ++ first → new ≡ mid ++ left_by rules points (front entries mid m)
      → new ≡ old ++ (first ++ left_by rules points (front entries old m))
  leave_behind entries old mid new first are m first_is then_front =
      let left = left_by rules points (front entries old m) in
      then_front ∙ ap₂ (λ xs ys. xs ++ left_by rules points ys) first_is (front_more rules entries old mid are (first, first_is) m)
      ∙ append_assoc old first left

-- the same into an empty list
pub keep_both : {V : Type 0} (rules : Rules V) (points : List (Item V)) (entries : List (FrontEntry V))
    (items start mid new : List (Item V)) (m : ℕ) (e : FrontEntry V) → 0 < m → m < length entries → e ≡ get_or entries m e
    → start ≡ [] → mid ≡ start ++ left_by rules points (own e ∷ [])
    → new ≡ mid ++ left_by rules points (take e.count (drop e.rest items))
    → new ≡ left_by rules points (front entries items m)
keep_both rules points entries items start mid new m e some lt is empty first then_items =
    let own_left = left_by rules points (own e ∷ []) in
    let part = take e.count (drop e.rest items) in
    then_items ∙ ap (λ xs. xs ++ left_by rules points part) (first ∙ ap (λ xs. xs ++ own_left) empty)
    ∙ sym (left_append rules points (own e ∷ []) part) ∙ ap (left_by rules points) (sym (front_at entries items m e some lt is))
