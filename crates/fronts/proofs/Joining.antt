-- Two lists joined.
use Rattle.std.proofs.Common.{◌≡◌, ◌⊎◌, ℕ, ◌<◌, true, false, not, List}
use Rattle.std.proofs.Common.{length, Contains, inl, inr, sym, ◌∙◌, ap, subst, arith}
use Rattle.std.proofs.lemmas.Bool.{cases_Bool, true≢false, not-true}
use Rattle.std.proofs.lemmas.List.Folds.{list_any-from_Any}
use Rattle.reasoning.proofs.ListLemmas.{from_filter, into_filter}
use Rattle.criteria.specs.Laws.{Rules, Laws, Admits}
use Rattle.fronts.specs.declared.entry.Item.{Item}
use Rattle.fronts.specs.declared.entry.FrontEntry.{FrontEntry}
use Rattle.fronts.specs.Front.{front, next_of, departure_of, points_from, Betters, Covers, Extends}
use Rattle.fronts.specs.Entries.{AreEntries}
use Rattle.fronts.specs.Putting.{betters, left_by, CoversAll, MayPut, IsUnion, MayJoin}
use Rattle.fronts.proofs.Growth.{same_points, same_next}
use Rattle.fronts.proofs.Points.{of_front, of_next, front_or_next, front_betters_all, points_admitted}
use Rattle.fronts.proofs.OnePut.{betters_some}

betters_from : {V : Type 0} (rules : Rules V) (points : List (Item V)) (v : V) → Betters rules points v → betters rules points v ≡ true
betters_from {V} rules points v (p, h, w) = list_any-from_Any (λ (q : Item V). rules.no_worse q.value v) points (h.0, p, h.1, h.2, w)

module _ {V : Type 0} (rules : Rules V) (laws : Laws rules) (entries : List (FrontEntry V)) (items : List (Item V))
    (from index : ℕ) (may : MayJoin rules entries items from index)
    (kept : List (Item V)) (is : kept ≡ left_by rules (front entries items index) (front entries items from)) where
  -- a point of the front of what comes after is bettered
  next_bettered : (p : Item V) → Contains (points_from entries items (next_of entries from)) p → Betters rules (front entries items index) p.value
  next_bettered p h =
      let a = points_admitted rules entries items may.sound (next_of entries from) p h in
      let c = may.covers p.departure p.value a (p, h, omega arith, laws.reflexive p.value a) in
      let r = front_betters_all rules entries items may.sound laws index c.0 c.1 in (
        r.0,
        r.1,
        laws.transitive r.0.value c.0.value p.value ((may.sound.each index).admitted r.0 r.1)
            (points_admitted rules entries items may.sound index c.0 c.1) a r.2 c.3,
      )

  kept_is : (p : Item V) → Contains kept p → Contains (front entries items from) p × (p.departure ≡ departure_of entries from)
  kept_is p h =
      let f = from_filter (λ (q : Item V). not (betters rules (front entries items index) q.value))
      (front entries items from) p (subst (λ ps. Contains ps p) is h) in
      let no : betters rules (front entries items index) p.value ≡ false = not-true (betters rules (front entries items index) p.value) f.1 in (
        f.0,
        elim ((may.sound.each from).from p f.0) [
          | inl e ↦ e
          | inr n ↦ absurd (true≢false (sym (betters_from rules (front entries items index) p.value
              (next_bettered p (of_front rules entries items may.sound (next_of entries from) p n))) ∙ no))
        ],
      )

  kept_fresh : (p : Item V) → Contains kept p → betters rules (front entries items index) p.value ≡ false
  kept_fresh p h = not-true (betters rules (front entries items index) p.value)
      (from_filter (λ (q : Item V). not (betters rules (front entries items index) q.value)) (front entries items from) p
      (subst (λ ps. Contains ps p) is h)).1

  kept_or_bettered : (p : Item V) → Contains (front entries items from) p → Contains kept p ⊎ Betters rules (front entries items index) p.value
  kept_or_bettered p h = elim (cases_Bool (betters rules (front entries items index) p.value)) [
    | inl t ↦ inr (betters_some rules (front entries items index) p.value t)
    | inr f ↦ inl (subst (λ ps. Contains ps p) (sym is)
        (into_filter (λ (q : Item V). not (betters rules (front entries items index) q.value))
        (front entries items from) p h (ap not f)))
  ]

  -- what is covered by the entry's list, is by a kept point or by the other list
  still_covered : (d : ℕ) (v : V) → Admits rules v → Covers rules (points_from entries items from) d v
      → Covers rules kept d v ⊎ Covers rules (points_from entries items index) d v
  still_covered d v a (p, h, late, w) = elim (front_or_next rules entries items may.sound from p h) [
    | inr n ↦ inr (may.covers d v a (p, n, late, w))
    | inl f ↦ elim ((may.sound.each from).from p f) [
      | inr n ↦ inr (may.covers d v a (p, of_front rules entries items may.sound (next_of entries from) p n, late, w))
      | inl e ↦ elim (kept_or_bettered p f) [
        | inl k ↦ inl (p, k, late, w)
        | inr b ↦
            let up = (may.sound.each index).late b.0 b.1 in
            inr (
              b.0,
              of_front rules entries items may.sound index b.0 b.1,
              omega arith,
              laws.transitive b.0.value p.value v ((may.sound.each index).admitted b.0 b.1) ((may.sound.each from).admitted p f) a
                  b.2 w,
            )
      ]
    ]
  ]

  -- nothing is kept
  pub joined_none : length kept ≡ 0 → IsUnion rules (points_from entries items from) (points_from entries items index) (points_from entries items index)
  joined_none none = record {
    only = λ p h. inr h;
    kept_first = λ d v a c. elim (still_covered d v a c) [ inl k ↦ (let at = k.1.1 in absurd (omega arith)) | inr o ↦ o ];
    kept_second = λ d v a c. c;
  }

  pub joined_may : 0 < length kept → MayPut rules entries items (departure_of entries from) index kept
  joined_may some = record {
    sound = may.sound;
    within = may.within;
    early = omega arith;
    some = some;
    departs = λ p h. (kept_is p h).1;
    admitted = λ p h. (may.sound.each from).admitted p (kept_is p h).0;
    fresh = kept_fresh;
  }

  -- what is kept is put before the list
  pub joined_put : (new : List (Item V)) → IsUnion rules kept (points_from entries items index) new
      → IsUnion rules (points_from entries items from) (points_from entries items index) new
  joined_put new put = record {
    only = λ p h. elim (put.only p h) [
      | inl k ↦ inl (of_front rules entries items may.sound from p (kept_is p k).0)
      | inr old ↦ inr old
    ];
    kept_first = λ d v a c. elim (still_covered d v a c) [ inl k ↦ put.kept_first d v a k | inr o ↦ put.kept_second d v a o ];
    kept_second = put.kept_second;
  }

pub kept_read : {V : Type 0} (rules : Rules V) (read entries : List (FrontEntry V)) (read_items items kept : List (Item V))
    (index from : ℕ) → read ≡ entries → read_items ≡ items
    → kept ≡ left_by rules (front read read_items index) (front read read_items from)
    → kept ≡ left_by rules (front entries items index) (front entries items from)
kept_read {V} rules read entries read_items items kept index from same same_items e =
    e ∙ ap (λ (es : List (FrontEntry V)). left_by rules (front es read_items index) (front es read_items from)) same
    ∙ ap (λ (is : List (Item V)). left_by rules (front entries is index) (front entries is from)) same_items

-- one joined to the entries before it: the next of them
pub joined_on : {V : Type 0} (rules : Rules V) (first mid : List (FrontEntry V)) (first_items mid_items : List (Item V))
    (was from index : ℕ) (now new : List (Item V)) → AreEntries rules first first_items → Extends first mid
    → Extends first_items mid_items → from < length first → next_of first from ≡ was
    → IsUnion rules (points_from first first_items was) (points_from first first_items index) now
    → IsUnion rules (points_from mid mid_items from) now new
    → IsUnion rules (points_from first first_items from) (points_from first first_items index) new
joined_on {V} rules first mid first_items mid_items was from index now new are entries items lt next before step =
    let same = same_points rules first mid first_items mid_items are entries items from lt in
    record {
      only = λ p h. elim (step.only p h) [
        | inl old ↦ inl (subst (λ ps. Contains ps p) same old)
        | inr joined ↦ elim (before.only p joined) [
          | inl w ↦ inl (of_next rules first first_items are from p (subst (λ n. Contains (points_from first first_items n) p) (sym next) w))
          | inr w ↦ inr w
        ]
      ];
      kept_first = λ d v a c. step.kept_first d v a (subst (λ ps. Covers rules ps d v) (sym same) c);
      kept_second = λ d v a c. step.kept_second d v a (before.kept_second d v a c);
    }

-- what a list covers that was joined, in the terms of the entries that there are by now
pub covers_on : {V : Type 0} (rules : Rules V) (first mid : List (FrontEntry V)) (first_items mid_items : List (Item V))
    (was from : ℕ) (old now : List (Item V)) → AreEntries rules first first_items → Extends first mid
    → Extends first_items mid_items → from < length first → was < length first → next_of first from ≡ was
    → IsUnion rules (points_from first first_items was) old now → CoversAll rules (points_from mid mid_items (next_of mid from)) now
covers_on rules first mid first_items mid_items was from old now are entries items lt within next joined d v a c =
    joined.kept_first d v a
    (subst (λ ps. Covers rules ps d v)
    (ap (points_from mid mid_items) (same_next rules first mid first_items mid_items are entries items from lt ∙ next)
    ∙ same_points rules first mid first_items mid_items are entries items was within) c)

pub joined_here : {V : Type 0} (rules : Rules V) (was index : List (Item V)) → CoversAll rules was index → IsUnion rules was index index
joined_here rules was index covers = record {
  only = λ p h. inr h;
  kept_first = covers;
  kept_second = λ d v a c. c;
}
