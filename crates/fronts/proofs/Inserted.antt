-- An insertion as a whole.
use Rattle.std.proofs.Common.{◌≡◌, ◌⊎◌, ℕ, ◌<◌, ◌≤◌, List, [], ◌∷◌, length, get_or, Contains, inl, inr, sym, subst, arith}
use Rattle.reasoning.proofs.ListLemmas.{contains_cases, extends_none, not_in_nil}
use Rattle.criteria.specs.Laws.{Rules, Laws, Admits}
use Rattle.fronts.specs.declared.entry.Boarding.{Boarding}
use Rattle.fronts.specs.declared.entry.Item.{Item}
use Rattle.fronts.specs.declared.entry.FrontEntry.{FrontEntry}
use Rattle.fronts.specs.declared.entry.RiddenLabel.{RiddenLabel}
use Rattle.fronts.specs.declared.entry.Step.{Step}
use Rattle.fronts.specs.Front.{front, next_of, departure_of, points_from, Betters, Covers, Extends}
use Rattle.fronts.specs.Entries.{AreEntries}
use Rattle.fronts.specs.Putting.{IsLate, IsPath, DepartBefore, CoversAll, MayPut, IsUnion}
use Rattle.fronts.specs.Walking.{MayInsert, AreKept, TakesBoardings}
use Rattle.fronts.proofs.Growth.{extends_long, same_points, same_departure, same_next}
use Rattle.fronts.proofs.Chains as chain
use Rattle.fronts.proofs.Joining.{joined_here}
use Rattle.fronts.proofs.Points.{of_front}

path_within : {V : Type 0} (entries : List (FrontEntry V)) (head : ℕ) (bs : List ℕ) (m b : ℕ) → IsPath entries head bs m → Contains bs b → b < length entries
path_within entries head [] m b path h = absurd (not_in_nil b h)
path_within entries head (x ∷ xs) m b path h = elim (contains_cases b x xs h) [
  | inl e ↦ subst (λ k. k < length entries) e path.2
  | inr later ↦ path_within entries (next_of entries x) xs m b path.3 later
]

module _ {V : Type 0} (rules : Rules V) (old mid : List (FrontEntry V)) (old_items mid_items : List (Item V))
    (are : AreEntries rules old old_items) (more : Extends old mid) (more_items : Extends old_items mid_items) where
  pub path_more : (head : ℕ) (bs : List ℕ) (m : ℕ) → IsPath old head bs m → IsPath mid head bs m
  path_more =
      chain.path_more (next_of old) (length old) (next_of mid) (length mid) (extends_long old mid more)
      (same_next rules old mid old_items mid_items are more more_items)

  pub before_more : (head : ℕ) (bs : List ℕ) (m time later : ℕ) → IsPath old head bs m → DepartBefore old time bs → later ≡ time → DepartBefore mid later bs
  before_more head bs m time later path before e b h =
      let same = same_departure rules old mid old_items mid_items are more more_items b (path_within old head bs m b path h) in
      let lt = before b h in
      omega arith

late_covers : {V : Type 0} (rules : Rules V) (entries : List (FrontEntry V)) (items : List (Item V))
    → AreEntries rules entries items → (departure m : ℕ) (v : V) → departure ≤ departure_of entries m
    → Betters rules (front entries items m) v → Covers rules (points_from entries items m) departure v
late_covers rules entries items are departure m v early (p, h, w) =
    (let late = (are.each m).late p h in (p, of_front rules entries items are m p h, omega arith, w))

-- what is known of an insertion once its values are walked
pub record AreWalked {V : Type 0} (rules : Rules V) (entries : List (FrontEntry V)) (items : List (Item V))
    (head : ℕ) (boarding : Boarding) (after : ℕ) (ridden : List (RiddenLabel V)) (steps : List Step)
    (kept : List (Item V)) : Type 0 where
  pub may : MayInsert rules entries items head boarding.secs ridden
  pub late : IsLate entries items head boarding.departure after
  pub keeps : AreKept rules (front entries items after) steps boarding ridden kept

-- the same, where the list was passed and the values were walked in what was read of it
pub walked : {V : Type 0} (rules : Rules V) (entries : List (FrontEntry V)) (items : List (Item V))
    (head : ℕ) (boarding : Boarding) (after : ℕ) (ridden : List (RiddenLabel V)) (steps : List Step) (kept : List (Item V))
    (passed met : List (FrontEntry V)) (passed_items met_items : List (Item V))
    → passed ≡ entries → passed_items ≡ items → met ≡ entries → met_items ≡ items
    → MayInsert rules entries items head boarding.secs ridden
    → IsLate passed passed_items head boarding.departure after
    → AreKept rules (front met met_items after) steps boarding ridden kept
    → AreWalked rules entries items head boarding after ridden steps kept
walked {V} rules entries items head boarding after ridden steps kept passed met passed_items met_items
    passed_is passed_items_is met_is met_items_is may late keeps = record {
      may = may;
      late = subst (λ es. IsLate es items head boarding.departure after) passed_is
          (subst (λ ps. IsLate passed ps head boarding.departure after) passed_items_is late);
      keeps = subst (λ es. AreKept rules (front es items after) steps boarding ridden kept) met_is
          (subst (λ ps. AreKept rules (front met ps after) steps boarding ridden kept) met_items_is keeps);
    }

module _ {V : Type 0} (rules : Rules V) (laws : Laws rules) (entries : List (FrontEntry V)) (items : List (Item V))
    (head : ℕ) (boarding : Boarding) (after : ℕ) (ridden : List (RiddenLabel V)) (steps : List Step) (kept : List (Item V))
    (are : AreWalked rules entries items head boarding after ridden steps kept) where
  kept_admitted : (p : Item V) → Contains kept p → Admits rules p.value
  kept_admitted p h =
      let b = are.keeps.boarded p h in
      subst (Admits rules) (sym b.worth) (laws.walk_admits boarding.secs b.by.value are.may.short (are.may.admitted b.by b.is_ridden))

  -- each of the values is bettered by what is kept, or covered already
  bettered : (r : RiddenLabel V) → Contains ridden r
      → Betters rules kept (rules.walk boarding.secs r.value)
      ⊎ Covers rules (points_from entries items after) boarding.departure (rules.walk boarding.secs r.value)
  bettered r h = subst (λ (z : RiddenLabel V). Betters rules kept (rules.walk boarding.secs z.value)
      ⊎ Covers rules (points_from entries items after) boarding.departure (rules.walk boarding.secs z.value)) h.2
      (elim (are.keeps.all h.0 r h.1) [
        | inl b ↦ inl b
        | inr b ↦ inr (late_covers rules entries items are.may.sound boarding.departure after (rules.walk boarding.secs
            (get_or ridden h.0 r).value) are.late.late b)
      ])

  -- nothing is kept
  pub takes_none : length kept ≡ 0 → TakesBoardings rules steps boarding ridden
      (points_from entries items head) (points_from entries items head)
  takes_none none = record {
    only = λ p h. inl h;
    kept = λ d v a c. c;
    covered = λ r h. elim (bettered r h) [
      | inl b ↦ (let lt = b.1.1 in absurd (omega arith))
      | inr c ↦ (c.0, are.late.only c.0 c.1, c.2, c.3)
    ];
  }

  pub takes_may : 0 < length kept → MayPut rules entries items boarding.departure after kept
  takes_may some = record {
    sound = are.may.sound;
    within = are.late.within;
    early = are.late.late;
    some = some;
    departs = λ p h. (are.keeps.boarded p h).departs;
    admitted = kept_admitted;
    fresh = are.keeps.fresh;
  }

  pub takes_covers : (two : List (FrontEntry V)) (two_items : List (Item V)) (put : List (Item V)) → Extends entries two
      → Extends items two_items → IsUnion rules kept (points_from entries items after) put
      → CoversAll rules (points_from two two_items after) put
  takes_covers two two_items put ext ext_items union d v a c =
      union.kept_second d v a (subst (λ ps. Covers rules ps d v) (same_points rules entries two items two_items are.may.sound ext ext_items after
      are.late.within) c)

  pub takes_all : (two : List (FrontEntry V)) (two_items put new : List (Item V)) → Extends entries two
      → Extends items two_items → IsUnion rules kept (points_from entries items after) put
      → IsUnion rules (points_from two two_items head) put new
      → TakesBoardings rules steps boarding ridden (points_from entries items head) new
  takes_all two two_items put new ext ext_items union joined =
      let same = same_points rules entries two items two_items are.may.sound ext ext_items head are.may.within in
      record {
        only = λ p h. elim (joined.only p h) [
          | inl a ↦ inl (subst (λ ps. Contains ps p) same a)
          | inr b ↦ elim (union.only p b) [ inl k ↦ inr (are.keeps.boarded p k) | inr a ↦ inl (are.late.only p a) ]
        ];
        kept = λ d v a c. joined.kept_first d v a (subst (λ ps. Covers rules ps d v) (sym same) c);
        covered = λ r h.
            let v = rules.walk boarding.secs r.value in
            let a = laws.walk_admits boarding.secs r.value are.may.short (are.may.admitted r h) in
            joined.kept_second boarding.departure v a (elim (bettered r h) [
              | inl k ↦ (let at = (are.keeps.boarded k.0 k.1).departs in union.kept_first boarding.departure v a (k.0, k.1, omega arith, k.2))
              | inr c ↦ union.kept_second boarding.departure v a c
            ]);
      }

  -- what is kept is put before the whole list
  pub takes_put : (put : List (Item V)) → CoversAll rules (points_from entries items head) (points_from entries items after)
      → IsUnion rules kept (points_from entries items after) put
      → TakesBoardings rules steps boarding ridden (points_from entries items head) put
  takes_put put whole union =
      takes_all entries items put put (extends_none entries) (extends_none items) union
      (joined_here rules (points_from entries items head) put (λ d v a c. union.kept_second d v a (whole d v a c)))
