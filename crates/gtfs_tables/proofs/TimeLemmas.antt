-- The times of a trip, one row at a time, and the times that spreading gives.
use Rattle.std.proofs.Common.{◌≡◌, ◌-◌, ◌<◌, ◌≤◌, ◌∙◌, ◌⊎◌, inl, inr, ℕ, zero, suc, List, length, Bool, true}
use Rattle.std.proofs.Common.{false, ◌&&◌, Option, Some, None, IsSome, refl, sym, ap, arith, slice_index_or}
use Rattle.std.specs.Prelude.{if◌then◌else◌, is_none, is_some, nat_le, nat_lt}
use Rattle.std.specs.Option.{option_or}
use Rattle.std.proofs.lemmas.Bool.{and_cases, and_from, and_parts, cases_Bool, cases_eq, cases_order, false≢true, le-leb, leb-true, leb-false}
use Rattle.reasoning.proofs.FirstLemmas.{option_or-none, option_or-some, option_or_parts}
use Rattle.gtfs_rows.specs.declared.fault.FaultKind.{FaultKind}
use Rattle.gtfs_rows.specs.declared.fault.FaultKind.TheVariants as kinds
use Rattle.gtfs_rows.specs.declared.rows.StopTimeRow.{StopTimeRow}
use Rattle.gtfs_tables.specs.First.{first_below, first_index, index_if}
use Rattle.gtfs_tables.specs.Spread.{IsGap, IsSpread, arrival_at, departure_at}
use Rattle.gtfs_tables.specs.Times.{arrives_spread, departs_spread, end_without_time, given_before}
use Rattle.gtfs_tables.specs.Times.{given_from, goes_back, has_no_duration, is_short, is_twice, wrong_at, wrong_given}
use Rattle.gtfs_tables.proofs.SpreadLemmas.{departs, never_departs}

-- an index that passes, with none before it, or none below n
pub record IsFirstIndex (p : ℕ → Bool) (n q : ℕ) : Type 0 where
  pub found : first_index p n ≡ Some q
  pub within : q < n
  pub passes : p q ≡ true
  pub before : (m : ℕ) → m < q → p m ≡ false

pub record IsNowhere (p : ℕ → Bool) (n : ℕ) : Type 0 where
  pub none : first_index p n ≡ None
  pub fails : (m : ℕ) → m < n → p m ≡ false

index_if-true : (p : ℕ → Bool) (k : ℕ) → p k ≡ true → index_if p k ≡ Some k
index_if-true p k e = rw e refl

index_if-false : (p : ℕ → Bool) (k : ℕ) → p k ≡ false → index_if p k ≡ None
index_if-false p k e = rw e refl

pub first_index_cases : (p : ℕ → Bool) (n : ℕ) → IsNowhere p n ⊎ ((q : ℕ) × IsFirstIndex p n q)
unfolding first_below
first_index_cases p zero = inl (record { none = refl; fails = λ m lt. absurd (omega arith) })
first_index_cases p (suc n) =
    elim (first_index_cases p n) [
      | inl w ↦ elim (cases_Bool (p n)) [
        | inl t ↦ inr (
          n,
          record {
            found = option_or-none (first_index p n) (index_if p n) w.none ∙ index_if-true p n t;
            within = omega arith;
            passes = t;
            before = w.fails;
          },
        )
        | inr f ↦ inl (record {
          none = option_or-none (first_index p n) (index_if p n) w.none ∙ index_if-false p n f;
          fails = λ m lt. elim (cases_eq m n) [ inl same ↦ rw same f | inr other ↦ w.fails m (omega arith) ];
        })
      ]
      | inr w ↦ inr (
        w.0,
        record {
          found = option_or-some (first_index p n) (index_if p n) w.0 w.1.found;
          within =
              let lt = w.1.within in omega arith;
          passes = w.1.passes;
          before = w.1.before;
        },
      )
    ]

none_is : {X : Type 0} (o : Option X) → is_some o ≡ false → o ≡ None
none_is None e = refl
none_is (Some x) e = absurd (false≢true (sym e))

some_value : {X : Type 0} (o : Option X) → IsSome o → (x : X) × (o ≡ Some x)
some_value None s = absurd (false≢true s)
some_value (Some x) s = (x, refl)

-- the index behind which the rows are blank up to k
pub record IsBefore (rows : List StopTimeRow) (k p : ℕ) : Type 0 where
  pub given : IsSome (arrival_at rows p)
  pub below : p < k
  pub blank : (m : ℕ) → p < m → m < k → arrival_at rows m ≡ None

before_next : (rows : List StopTimeRow) (k : ℕ) → IsSome (arrival_at rows 0)
    → (0 < k → IsBefore rows k (given_before rows k)) → IsBefore rows (suc k) (given_before rows (suc k))
before_next rows k first earlier = by (cases_Bool (is_some (arrival_at rows k)))
  where
    by : (is_some (arrival_at rows k) ≡ true) ⊎ (is_some (arrival_at rows k) ≡ false) → IsBefore rows (suc k) (given_before rows (suc k))
    by (inl t) = rw t (record { given = t; below = omega arith; blank = λ m low high. absurd (omega arith) })
    by (inr f) = rw f (elim (cases_eq k 0) [
      | inl zero_k ↦ absurd (let s : is_some (arrival_at rows k) ≡ true = rw zero_k first in false≢true (sym f ∙ s))
      | inr other ↦
          let before = earlier (omega arith) in
          record {
            given = before.given;
            below = let lt = before.below in omega arith;
            blank = λ m low high. elim (cases_eq m k) [ inl same ↦ rw same (none_is (arrival_at rows k) f) | inr less ↦ before.blank m low (omega arith) ];
          }
    ])

pub before_is : (rows : List StopTimeRow) (k : ℕ) → IsSome (arrival_at rows 0) → 0 < k → IsBefore rows k (given_before rows k)
before_is rows zero first some = absurd (omega arith)
before_is rows (suc k) first some = before_next rows k first (λ more. before_is rows k first more)

-- the index up to which the rows are blank from k on
pub record IsAfter (rows : List StopTimeRow) (k q : ℕ) : Type 0 where
  pub given : IsSome (arrival_at rows q)
  pub from : k ≤ q
  pub blank : (m : ℕ) → k ≤ m → m < q → arrival_at rows m ≡ None

pub after_is : (rows : List StopTimeRow) (k : ℕ) → IsSome (arrival_at rows (length rows - 1)) → k < length rows → IsAfter rows k (given_from rows k)
after_is rows k last lt = by (first_index_cases (λ j. nat_le k j && is_some (arrival_at rows j)) (length rows))
  where
    by : IsNowhere (λ j. nat_le k j && is_some (arrival_at rows j)) (length rows)
        ⊎ ((q : ℕ) × IsFirstIndex (λ j. nat_le k j && is_some (arrival_at rows j)) (length rows) q)
        → IsAfter rows k (given_from rows k)
    by (inl w) =
        let fails : (nat_le k (length rows - 1) && is_some (arrival_at rows (length rows - 1))) ≡ false = w.fails (length rows - 1) (omega arith) in
        let passes : (nat_le k (length rows - 1) && is_some (arrival_at rows (length rows - 1))) ≡ true =
        and_from (nat_le k (length rows - 1)) (is_some (arrival_at rows (length rows - 1)))
        (le-leb k (length rows - 1) (omega arith)) last in
        absurd (false≢true (sym fails ∙ passes))
    by (inr (q, w)) =
        let parts = and_parts (nat_le k q) (is_some (arrival_at rows q)) w.passes in
        rw w.found (record {
          given = parts.1;
          from = leb-true k q parts.0;
          blank = λ m low high. elim (and_cases (nat_le k m) (is_some (arrival_at rows m)) (w.before m high)) [
            | inl above ↦ absurd (let gt = leb-false k m above in omega arith)
            | inr none ↦ none_is (arrival_at rows m) none
          ];
        })

-- what spreading gives at a row
pub spread_at : (rows : List StopTimeRow) (times : List (ℕ × ℕ)) (k : ℕ) → IsSpread rows times
    → IsSome (arrival_at rows 0) → IsSome (arrival_at rows (length rows - 1)) → k < length rows
    → slice_index_or times k (0, 0) ≡ (arrives_spread rows k, departs_spread rows k)
spread_at rows times k s first last lt = by (cases_Bool (is_some (arrival_at rows k)))
  where
    by : (is_some (arrival_at rows k) ≡ true) ⊎ (is_some (arrival_at rows k) ≡ false)
        → slice_index_or times k (0, 0) ≡ (arrives_spread rows k, departs_spread rows k)
    by (inl t) =
        let a = some_value (arrival_at rows k) t in
        let d = some_value (departure_at rows k) (departs rows k a.0 a.1) in
        rw (a.1, d.1) (s.spread.given k a.0 d.0 lt a.1 d.1)
    by (inr f) =
        let none = none_is (arrival_at rows k) f in
        let gone = never_departs rows k none in
        let some : 0 < k = elim (cases_eq k 0) [ inl zero_k ↦ absurd (false≢true (sym f ∙ rw zero_k first)) | inr other ↦ omega arith ] in
        let low = before_is rows k first some in
        let high = after_is rows k last lt in
        let start = some_value (arrival_at rows (given_before rows k)) low.given in
        let a = some_value (departure_at rows (given_before rows k)) (departs rows (given_before rows k) start.0 start.1) in
        let b = some_value (arrival_at rows (given_from rows k)) high.given in
        let above : k < given_from rows k = elim (cases_eq k (given_from rows k)) [
          | inl same ↦
              absurd (let s2 : IsSome (arrival_at rows k) = rw same high.given in false≢true (sym f ∙ s2))
          | inr other ↦
              let le = high.from in omega arith
        ] in
        let gap : IsGap rows (given_before rows k) (given_from rows k) a.0 b.0 = record {
          rising = let lt2 = low.below in omega arith;
          from = a.1;
          to = b.1;
          blank = λ m over under. elim (cases_order m k) [
            | inl same ↦ rw same none
            | inr (inl less) ↦ low.blank m over less
            | inr (inr more) ↦ high.blank m (omega arith) under
          ];
        } in
        rw (none, gone, a.1, b.1) (s.spread.blank (given_before rows k) (given_from rows k) a.0 b.0 k gap low.below above lt)

-- an index that isn't found has no row at fault
nowhere_at : (kind : FaultKind) (index : Option ℕ) → wrong_at kind index ≡ None → index ≡ None
nowhere_at kind None e = refl
nowhere_at kind (Some k) e = absurd cc

ends_by : (a b : Option ℕ) (last : ℕ) → (if is_none a then Some 0 else (if is_none b then Some last else None)) ≡ None → IsSome a × IsSome b
ends_by None b last e = absurd cc
ends_by (Some a) None last e = absurd cc
ends_by (Some a) (Some b) last e = (refl, refl)

pub ends_timed : (rows : List StopTimeRow) → wrong_given rows ≡ None → IsSome (arrival_at rows 0) × IsSome (arrival_at rows (length rows - 1))
ends_timed rows e =
    let behind = option_or_parts (wrong_at kinds.SequenceTwice (first_index (is_twice rows) (length rows)))
    (option_or (wrong_at kinds.EndWithoutTime (end_without_time rows))
    (wrong_at kinds.TimeGoesBack (first_index (goes_back rows) (length rows)))) e in
    let ends = option_or_parts (wrong_at kinds.EndWithoutTime (end_without_time rows))
    (wrong_at kinds.TimeGoesBack (first_index (goes_back rows) (length rows))) behind.1 in
    ends_by (arrival_at rows 0) (arrival_at rows (length rows - 1)) (length rows - 1) (nowhere_at kinds.EndWithoutTime (end_without_time rows) ends.0)

agree : {X : Type 0} (f g : ℕ → Option X) (n : ℕ) → ((k : ℕ) → k < n → f k ≡ g k) → first_below f n ≡ first_below g n
unfolding first_below
agree f g zero h = refl
agree f g (suc n) h =
    let front : first_below f n ≡ first_below g n = agree f g n (λ k lt. h k (omega arith)) in
    let last : f n ≡ g n = h n (omega arith) in
    rw (front, last) refl

-- the rows without duration are those of the spread times
pub hop_same : (rows : List StopTimeRow) (times : List (ℕ × ℕ)) → IsSpread rows times → wrong_given rows ≡ None
    → first_index (is_short times) (length times) ≡ first_index (has_no_duration rows) (length rows)
hop_same rows times s fine =
    let ends = ends_timed rows fine in
    let same : (k : ℕ) → k < length rows → is_short times k ≡ has_no_duration rows k = λ k lt.
    let here : slice_index_or times k (0, 0) ≡ (arrives_spread rows k, departs_spread rows k) = spread_at rows times k s ends.0 ends.1 lt in
    let before : slice_index_or times (k - 1) (0, 0) ≡ (arrives_spread rows (k - 1), departs_spread rows (k - 1)) =
    spread_at rows times (k - 1) s ends.0 ends.1 (omega arith) in
    ap (λ a. nat_lt 0 k && nat_le a.0 (slice_index_or times (k - 1) (0, 0)).1) here ∙ ap (λ b. nat_lt 0 k && nat_le (arrives_spread rows k) b.1) before in
    let len : length times ≡ length rows = s.same_length in
    rw len (agree (index_if (is_short times)) (index_if (has_no_duration rows)) (length rows) (λ k lt. ap (λ b. if b then Some k else None) (same k lt)))
