-- The connections of a run, one row at a time.
use Rattle.std.proofs.Common.{◌≡◌, ℕ, ℤ, ◌+◌, ◌<◌, inl, inr, List, [], ◌∷◌, ◌++◌, length, get_or, Option, Some, None, IsSome, All, refl, sym, ap, ◌∙◌, subst}
use Rattle.std.proofs.Common.{arith, append_assoc}
use Rattle.std.proofs.lemmas.Bool.{cases_eq}
use Rattle.std.proofs.lemmas.Int.{ints}
use Rattle.std.proofs.lemmas.List.{append-nil, get_or_append_left, get_or_push, length_push}
use Rattle.std.proofs.lemmas.Option.{slice_get-get_or}
use Rattle.reasoning.proofs.OptionLemmas.{is_some-none}
use Rattle.gtfs_rows.specs.declared.rows.StopTimeRow.{StopTimeRow}
use Rattle.timetable.specs.declared.network.Connection.{Connection}
use Rattle.connections.specs.Hops.{AddsHops, IsClock, IsHop, IsOutside, IsUsed}
use Rattle.connections.specs.Times.{AreTimesBefore}
use Rattle.connections.specs.declared.times.RowTimes.{RowTimes}

-- what has a clock doesn't lie outside
pub never_outside : (base start : ℤ) (time clock : ℕ) → IsClock base start time clock → IsOutside base start time → ⊥
never_outside base start time clock is (inl before) = let fact = is.same_instant in omega (arith, ints, before)
never_outside base start time clock is (inr late) = let fact = is.same_instant in let in_time = is.in_time in omega (arith, ints, late)

-- the arrival at a later row counts
pub used_later : (o : Option ℕ) (k : ℕ) → IsUsed o (k + 1)
used_later None k = tt
used_later (Some s) k = omega arith

pub hop_made : (base start : ℤ) (rows : List StopTimeRow) (times : List RowTimes) (run p from to dep arr : ℕ) (d : StopTimeRow) (e : RowTimes)
    → p + 1 < length rows → AreTimesBefore rows times (length rows)
    → (get_or rows p d).stop ≡ Some from → (get_or rows (p + 1) d).stop ≡ Some to → IsClock base start (get_or times p e).departure dep
    → IsClock base start (get_or times (p + 1) e).arrival arr
    → IsHop base start rows run p (record {
      from = from;
      to = to;
      dep = dep;
      arr = arr;
      trip = run;
      board = (get_or rows p d).board;
      alight =
          (get_or rows (p + 1) d).alight;
    })
hop_made base start rows times run p from to dep arr d e lt times_are leaves reaches departs arrives = record {
  row = get_or rows p d;
  next = get_or rows (p + 1) d;
  is_row = slice_get-get_or rows p d (omega arith);
  is_next = slice_get-get_or rows (p + 1) d lt;
  from = leaves;
  to = reaches;
  dep = subst (λ (t : RowTimes). IsClock base start t.departure dep) (times_are p e (omega arith)) departs;
  arr = subst (λ (t : RowTimes). IsClock base start t.arrival arr) (times_are (p + 1) e lt) arrives;
  trip = refl;
  board = refl;
  alight = refl;
}

pub hops_none : (base start : ℤ) (rows : List StopTimeRow) (run : ℕ) (old : List Connection) → AddsHops base start rows run 0 old old
hops_none base start rows run old = ([], sym (append-nil old), record { same_length = refl; hops = λ p d lt. absurd (omega (arith, lt)) })

pub hops_more : (base start : ℤ) (rows : List StopTimeRow) (run n : ℕ) (old mid new : List Connection) (hop : Connection)
    → AddsHops base start rows run n old mid → IsHop base start rows run n hop
    → new ≡ mid ++ hop ∷ [] → AddsHops base start rows run (n + 1) old new
hops_more base start rows run n old mid new hop was is now = (
  was.0 ++ hop ∷ [],
  now ∙ ap (λ cs. cs ++ hop ∷ []) was.1 ∙ append_assoc old was.0 (hop ∷ []),
  (let len : length was.0 ≡ n = was.2.same_length in
      record {
        same_length = omega (arith, length_push was.0 hop);
        hops = λ p d lt. elim (cases_eq p n) [
          | inl same ↦ let position : length was.0 ≡ p = omega arith in
              subst (λ (c : Connection). IsHop base start rows run p c) (sym (get_or_push was.0 hop d p position)) (rw same is)
          | inr other ↦ subst (λ (c : Connection). IsHop base start rows run p c) (sym (get_or_append_left was.0 (hop ∷ []) d p (omega arith)))
              (was.2.hops p d (omega arith))
        ];
      }),
)

pub has_stop : (rows : List StopTimeRow) (p : ℕ) (d : StopTimeRow) → All (λ (row : StopTimeRow). IsSome row.stop) rows → p < length rows
    → (get_or rows p d).stop ≡ None → ⊥
has_stop rows p d stops lt none = is_some-none (get_or rows p d).stop (stops p d lt) none
