-- Facts on spread times.
use Rattle.std.proofs.Common.{◌≡◌, ◌+◌, ◌-◌, ◌<◌, ◌≤◌, ◌∷◌, ◌∙◌, ◌⊎◌, inl, inr, ℕ, zero, suc, List, []}
use Rattle.std.proofs.Common.{length, Option, Some, None, IsSome, refl, sym, slice_index_or, arith}
use Rattle.std.proofs.lemmas.Bool.{cases_order}
use Rattle.reasoning.proofs.OptionLemmas.{is_some-none}
use Rattle.gtfs_tables.specs.Spread.{IsGap, IsSpreadBefore, arrival_at, departure_at, either, part_of}
use Rattle.gtfs_rows.specs.declared.rows.StopTimeRow.{StopTimeRow}

-- a row that arrives departs, and the reverse
either_some : (x y : Option ℕ) (t : ℕ) → either x y ≡ Some t → IsSome (either y x)
either_some None None t e = cc
either_some None (Some b) t e = refl
either_some (Some a) None t e = refl
either_some (Some a) (Some b) t e = refl

either_none : (x y : Option ℕ) → either x y ≡ None → either y x ≡ None
either_none None None e = refl
either_none None (Some b) e = cc
either_none (Some a) None e = cc
either_none (Some a) (Some b) e = cc

pub departs : (rows : List StopTimeRow) (i t : ℕ) → arrival_at rows i ≡ Some t → IsSome (departure_at rows i)
departs [] i t e = cc
departs (row ∷ rows) zero t e = either_some row.arrival row.departure t e
departs (row ∷ rows) (suc i) t e = departs rows i t e

pub never_departs : (rows : List StopTimeRow) (i : ℕ) → arrival_at rows i ≡ None → departure_at rows i ≡ None
never_departs [] i e = refl
never_departs (row ∷ rows) zero e = either_none row.arrival row.departure e
never_departs (row ∷ rows) (suc i) e = never_departs rows i e

-- a row that arrives is one of the rows
arrives_within : (rows : List StopTimeRow) (i t : ℕ) → arrival_at rows i ≡ Some t → i < length rows
arrives_within [] i t e = cc
arrives_within (row ∷ rows) zero t e = omega arith
arrives_within (row ∷ rows) (suc i) t e = let less : i < length rows = arrives_within rows i t e in omega arith

-- what the times of one row more, and of the blank ones after it, are
pub record IsStep (rows : List StopTimeRow) (old new : List (ℕ × ℕ)) (at next : ℕ) : Type 0 where
  pub len : length old ≡ at
  pub rising : at < next
  pub from : IsSome (arrival_at rows at)
  pub to : next < length rows → IsSome (arrival_at rows next)
  pub between : (m : ℕ) → at + 1 ≤ m → m < next → arrival_at rows m ≡ None
  pub kept : (i : ℕ) → i < length old → slice_index_or new i (0, 0) ≡ slice_index_or old i (0, 0)
  pub here : (a d : ℕ) → arrival_at rows at ≡ Some a → departure_at rows at ≡ Some d → slice_index_or new (length old) (0, 0) ≡ (a, d)
  pub parts : (d b : ℕ) → departure_at rows at ≡ Some d → arrival_at rows next ≡ Some b → (j : ℕ) → 0 < j → j < next - at
      → slice_index_or new (length old + j) (0, 0) ≡ (part_of d b (next - at) j, part_of d b (next - at) j)

-- a gap over an index behind the row is the one behind it
gap_from : (rows : List StopTimeRow) (old new : List (ℕ × ℕ)) (at next p q a b i : ℕ) → IsStep rows old new at next
    → IsGap rows p q a b → at < i → p < i → i < q → i < next → p ≡ at
gap_from rows old new at next p q a b i s g h low high less = by (cases_order p at)
  where
    by : (p ≡ at) ⊎ ((p < at) ⊎ (at < p)) → p ≡ at
    by (inl e) = e
    by (inr (inl below)) = absurd (is_some-none (arrival_at rows at) s.from (g.blank at below (omega arith)))
    by (inr (inr above)) =
        let none : departure_at rows p ≡ None = never_departs rows p (s.between p (omega arith) (omega arith)) in
        absurd (let from = g.from in cc)

gap_to : (rows : List StopTimeRow) (old new : List (ℕ × ℕ)) (at next p q a b i : ℕ) → IsStep rows old new at next
    → IsGap rows p q a b → at < i → p < i → i < q → i < next → q ≡ next
gap_to rows old new at next p q a b i s g h low high less = by (cases_order q next)
  where
    by : (q ≡ next) ⊎ ((q < next) ⊎ (next < q)) → q ≡ next
    by (inl e) = e
    by (inr (inl below)) =
        let none : arrival_at rows q ≡ None = s.between q (omega arith) below in
        absurd (let to = g.to in cc)
    by (inr (inr above)) =
        let within : q < length rows = arrives_within rows q b g.to in
        absurd (is_some-none (arrival_at rows next) (s.to (omega arith)) (g.blank next (omega arith) above))

given_more : (rows : List StopTimeRow) (old new : List (ℕ × ℕ)) (at next : ℕ) → IsStep rows old new at next → IsSpreadBefore rows old at
    → (i a d : ℕ) → i < next → arrival_at rows i ≡ Some a → departure_at rows i ≡ Some d → slice_index_or new i (0, 0) ≡ (a, d)
given_more rows old new at next s before i a d less e f = by (cases_order i at)
  where
    by : (i ≡ at) ⊎ ((i < at) ⊎ (at < i)) → slice_index_or new i (0, 0) ≡ (a, d)
    by (inl same) = let index : i ≡ length old = same ∙ sym s.len in rw index (s.here a d (rw same at e) (rw same at f))
    by (inr (inl below)) = s.kept i (omega (arith, s.len)) ∙ before.given i a d below e f
    by (inr (inr above)) = absurd (let none : arrival_at rows i ≡ None = s.between i (omega arith) less in cc)

blank_more : (rows : List StopTimeRow) (old new : List (ℕ × ℕ)) (at next : ℕ) → IsStep rows old new at next → IsSpreadBefore rows old at
    → (p q a b i : ℕ) → IsGap rows p q a b → p < i → i < q → i < next
    → slice_index_or new i (0, 0) ≡ (part_of a b (q - p) (i - p), part_of a b (q - p) (i - p))
blank_more rows old new at next s before p q a b i g low high less = by (cases_order i at)
  where
    by : (i ≡ at) ⊎ ((i < at) ⊎ (at < i)) → slice_index_or new i (0, 0) ≡ (part_of a b (q - p) (i - p), part_of a b (q - p) (i - p))
    by (inl same) = absurd (is_some-none (arrival_at rows at) s.from (rw same at (g.blank i low high)))
    by (inr (inl below)) = s.kept i (omega (arith, s.len)) ∙ before.blank p q a b i g low high below
    by (inr (inr above)) =
        let from : p ≡ at = gap_from rows old new at next p q a b i s g above low high less in
        let to : q ≡ next = gap_to rows old new at next p q a b i s g above low high less in
        let departs_here : departure_at rows at ≡ Some a = rw from at g.from in
        let arrives_there : arrival_at rows next ≡ Some b = rw to at g.to in
        let index : length old + (i - at) ≡ i = omega (arith, s.len) in
        let made : slice_index_or new (length old + (i - at)) (0, 0) ≡ (
          part_of a b (next - at) (i - at),
          part_of a b (next - at) (i - at),
        ) = s.parts a b departs_here arrives_there (i - at) (omega arith)
        (omega arith) in
        rw (from, to) (rw index at made)

pub spread_more : (rows : List StopTimeRow) (old new : List (ℕ × ℕ)) (at next : ℕ) → IsStep rows old new at next
    → IsSpreadBefore rows old at → IsSpreadBefore rows new next
spread_more rows old new at next s before = record { given = given_more rows old new at next s before; blank = blank_more rows old new at next s before }
