-- The times of a trip, one row at a time.
use Rattle.std.proofs.Common.{◌≡◌, ℕ, zero, suc, ◌+◌, ◌<◌, ◌^◌, ◌==◌, ◌&&◌, ◌||◌, ◌++◌, ◌∷◌, [], inl, inr, not, List, length, Bool, false}
use Rattle.std.proofs.Common.{Option, Some, None, IfSome, IsSome}
use Rattle.std.proofs.Common.{refl, sym, ap, ◌∙◌, arith}
use Rattle.std.specs.Prelude.{is_none}
use Rattle.std.specs.List.{list_any}
use Rattle.std.proofs.lemmas.Bool.{cases_eq}
use Rattle.std.proofs.lemmas.List.{get_or_append_left, get_or_push, length_push}
use Rattle.gtfs_rows.specs.declared.rows.StopTimeRow.{StopTimeRow}
use Rattle.gtfs_tables.specs.Spread.{arrival_at, arrival_of}
use Rattle.gtfs_tables.specs.Times.{arrives_spread, departs_spread}
use Rattle.connections.specs.Times.{AreTimesBefore, arrives, departs, is_moved, is_moved_before, lifted_by, row_times}
use Rattle.connections.specs.declared.times.RowTimes.{RowTimes}

-- if no row is blank, each has a time
timed_first : (time : Option ℕ) (rest : Bool) → (is_none time || rest) ≡ false → IsSome time
timed_first None rest none = cc
timed_first (Some t) rest none = refl

timed_rest : (time : Option ℕ) (rest : Bool) → (is_none time || rest) ≡ false → rest ≡ false
timed_rest None rest none = cc
timed_rest (Some t) rest none = none

pub all_timed : (rows : List StopTimeRow) → list_any (λ row. is_none (arrival_of row)) rows ≡ false → (k : ℕ) → k < length rows → IsSome (arrival_at rows k)
all_timed [] none k lt = absurd (omega (arith, lt))
all_timed (row ∷ rows) none zero lt = timed_first (arrival_of row) (list_any (λ r. is_none (arrival_of r)) rows) none
all_timed (row ∷ rows) none (suc k) lt =
    all_timed rows (timed_rest (arrival_of row) (list_any (λ r. is_none (arrival_of r)) rows) none) k (omega (arith, lt))

-- the departure before a row, where there is one, which is no later than a second for each row
abbrev pub IsLeft : List StopTimeRow → Option ℕ → ℕ → Type 0
IsLeft rows None n = n ≡ 0
IsLeft rows (Some time) n = (k : ℕ) × (n ≡ suc k) × (time ≡ departs rows k) × (time < 2 ^ 32 + n)

pub record IsLiftedTo (rows : List StopTimeRow) (times : List RowTimes) (moved : Bool) (left : Option ℕ) (n : ℕ) : Type 0 where
  pub same_length : length times ≡ n
  pub times_are : AreTimesBefore rows times n
  pub moved_is : moved ≡ is_moved_before rows n
  pub left_is : IsLeft rows left n

pub lifted_none : (rows : List StopTimeRow) → IsLiftedTo rows [] false None 0
unfolding is_moved_before
lifted_none rows = record { same_length = refl; times_are = λ k d lt. absurd (omega (arith, lt)); moved_is = refl; left_is = refl }

pub left_fits : (rows : List StopTimeRow) (left : Option ℕ) (n : ℕ) → IsLeft rows left n → n < 2 ^ 63 → IfSome left (λ time. time + 1 < 2 ^ 64)
left_fits rows None n h few = tt
left_fits rows (Some time) n h few = let late : time < 2 ^ 32 + n = h.3 in omega arith

-- the row's times are those that the departure before it gives
lifted_at : (rows : List StopTimeRow) (left : Option ℕ) (n : ℕ) → IsLeft rows left n
    → lifted_by left (arrives_spread rows n) (departs_spread rows n) ≡ row_times rows n
unfolding arrives departs
lifted_at rows None n h = rw h refl
lifted_at rows (Some time) n h = rw (h.1, h.2) refl

later : (rows : List StopTimeRow) (left : Option ℕ) (n a d : ℕ) → IsLeft rows left n → a < 2 ^ 32 → d < 2 ^ 32
    → (lifted_by left a d).departure < 2 ^ 32 + (n + 1)
later rows None n a d h small short = omega arith
later rows (Some time) n a d h small short = let late : time < 2 ^ 32 + n = h.3 in omega arith

moved_next : (rows : List StopTimeRow) (n : ℕ) → is_moved_before rows (n + 1) ≡ (is_moved_before rows n || is_moved rows n)
unfolding is_moved_before
moved_next rows n = let e : n + 1 ≡ suc n = omega arith in rw e refl

pub lifted_more : (rows : List StopTimeRow) (times : List RowTimes) (moved : Bool) (left : Option ℕ) (n a d : ℕ) → IsLiftedTo rows times moved left n
    → a ≡ arrives_spread rows n → d ≡ departs_spread rows n → a < 2 ^ 32 → d < 2 ^ 32
    → IsLiftedTo rows (times ++ lifted_by left a d ∷ []) (moved || not (((lifted_by left a d).arrival == a) && ((lifted_by left a d).departure == d)))
    (Some (lifted_by left a d).departure) (n + 1)
lifted_more rows times moved left n a d was from to small short =
    let is : lifted_by left a d ≡ row_times rows n = rw (from, to) (lifted_at rows left n was.left_is) in
    let len : length times ≡ n = was.same_length in
    record {
      same_length = omega (arith, length_push times (lifted_by left a d));
      times_are = λ k e lt. elim (cases_eq k n) [
        | inl same ↦ let position : length times ≡ k = omega arith in rw (get_or_push times (lifted_by left a d) e k position, same) is
        | inr other ↦ get_or_append_left times (lifted_by left a d ∷ []) e k (omega arith) ∙ was.times_are k e (omega arith)
      ];
      moved_is =
          ap (λ b. b || not (((lifted_by left a d).arrival == a) && ((lifted_by left a d).departure == d))) was.moved_is
          ∙ ap (λ (t : RowTimes). is_moved_before rows n || not ((t.arrival == a) && (t.departure == d))) is
          ∙ rw (from, to) (sym (moved_next rows n));
      left_is = (n, omega arith, ap (λ (t : RowTimes). t.departure) is, later rows left n a d was.left_is small short);
    }
