-- The sort keys that an order gives rows.
use Rattle.std.proofs.Common.{◌≡◌, ℕ, zero, suc, ◌+◌, ◌-◌, ◌<◌, ◌≤◌, take, drop, List, [], ◌∷◌, length, get_or, map, Bool, false, Option}
use Rattle.std.proofs.Common.{refl, ap, ◌∙◌, sym, subst, inl, inr, arith}
use Rattle.std.specs.Prelude.{IsSortedBy}
use Rattle.std.specs.List.{slice_range}
use Rattle.std.proofs.Math.ListN.{get_or-map as map_reads}
use Rattle.std.proofs.lemmas.List.{get_or-drop, get_or-take}
use Rattle.std.proofs.lemmas.Bool.{cases_eq}
use Rattle.gtfs_rows.specs.declared.rows.StopTimeRow.{StopTimeRow}
use Rattle.gtfs_tables.specs.Order.{comes_before, filed_sort_keys, no_row, numbers_from, row_of, sort_key_of, sort_keys_by, sort_keys_from, sort_keys_in}
use Rattle.gtfs_tables.specs.Rows.{linked_row}
use Rattle.gtfs_tables.specs.declared.names.StopIdTarget.{StopIdTarget}
use Rattle.gtfs_tables.specs.declared.order.RowOrder.{RowOrder}
use Rattle.gtfs_tables.specs.declared.order.RowOrder.TheVariants as orders
use Rattle.gtfs_tables.specs.declared.order.SortKey.{SortKey}
use Rattle.gtfs_tables.proofs.RowLemmas.{filed_rows, no_sort_key}

pub length-sort_keys : (trips : List (Option ℕ)) (number : ℕ) (rows : List StopTimeRow) → length (sort_keys_from trips number rows) ≡ length rows
length-sort_keys trips number [] = refl
length-sort_keys trips number (row ∷ rows) = ap (λ n. suc n) (length-sort_keys trips (number + 1) rows)

pub length-filed : (number : ℕ) (rows : List StopTimeRow) → length (filed_sort_keys number rows) ≡ length rows
length-filed number [] = refl
length-filed number (row ∷ rows) = ap (λ n. suc n) (length-filed (number + 1) rows)

numbers-sort_keys : (trips : List (Option ℕ)) (number : ℕ) (rows : List StopTimeRow) → map (λ sort_key. sort_key.number) (sort_keys_from trips number rows)
    ≡ numbers_from number (length rows)
numbers-sort_keys trips number [] = refl
numbers-sort_keys trips number (row ∷ rows) = ap (λ ns. number ∷ ns) (numbers-sort_keys trips (number + 1) rows)

-- the sort key at an index
pub sort_key-at : (trips : List (Option ℕ)) (number : ℕ) (rows : List StopTimeRow) (k : ℕ) (d : SortKey) (e : StopTimeRow) → k < length rows
    → get_or (sort_keys_from trips number rows) k d ≡ sort_key_of trips (number + k) (get_or rows k e)
sort_key-at trips number [] k d e lt = absurd (omega (arith, lt))
sort_key-at trips number (row ∷ rows) zero d e lt = let same : number ≡ number + 0 = omega arith in ap (λ n. sort_key_of trips n row) same
sort_key-at trips number (row ∷ rows) (suc k) d e lt =
    let next : number + 1 + k ≡ number + suc k = omega arith in
    sort_key-at trips (number + 1) rows k d e (omega (arith, lt)) ∙ ap (λ n. sort_key_of trips n (get_or rows k e)) next

pub filed-trip : (number : ℕ) (rows : List StopTimeRow) (k : ℕ) (d : SortKey) (e : StopTimeRow) → k < length rows
    → (get_or (filed_sort_keys number rows) k d).trip ≡ (get_or rows k e).trip
filed-trip number [] k d e lt = absurd (omega (arith, lt))
filed-trip number (row ∷ rows) zero d e lt = refl
filed-trip number (row ∷ rows) (suc k) d e lt = filed-trip (number + 1) rows k d e (omega (arith, lt))

pub filed-number : (number : ℕ) (rows : List StopTimeRow) (k : ℕ) → k < length rows
    → get_or (map (λ sort_key. sort_key.number) (filed_sort_keys number rows)) k 0 ≡ number + k
filed-number number [] k lt = absurd (omega (arith, lt))
filed-number number (row ∷ rows) zero lt = omega arith
filed-number number (row ∷ rows) (suc k) lt =
    let next : number + 1 + k ≡ number + suc k = omega arith in
    filed-number (number + 1) rows k (omega (arith, lt)) ∙ next

-- rows that were linked where they stand have the sort keys that they had
filed-linked : (trips : List (Option ℕ)) (stops : List (Option StopIdTarget)) (flex : StopTimeRow → Bool) (number : ℕ) (rows : List StopTimeRow)
    → filed_sort_keys number (map (λ row. linked_row trips stops (flex row) row) rows) ≡ sort_keys_from trips number rows
filed-linked trips stops flex number [] = refl
filed-linked trips stops flex number (row ∷ rows) = ap (λ rest. sort_key_of trips number row ∷ rest) (filed-linked trips stops flex (number + 1) rows)

-- what is made of each sort key's row is what is made of each row, where they go as they are filed
pub made_as_filed : {A : Type 0} (f : StopTimeRow → A) (trips : List (Option ℕ)) (rows : List StopTimeRow)
    → map (λ sort_key. f (row_of rows sort_key.number)) (sort_keys_from trips 1 rows) ≡ map f rows
made_as_filed f trips rows =
    let len : length (sort_keys_from trips 1 rows) ≡ length rows = length-sort_keys trips 1 rows in
    filed_rows f rows (sort_keys_from trips 1 rows) len (numbers-sort_keys trips 1 rows ∙ ap (numbers_from 1) (sym len))

-- once they are linked, an order gives rows the sort keys that it gave before
pub sort_keys_kept : (trips : List (Option ℕ)) (stops : List (Option StopIdTarget)) (flex : StopTimeRow → Bool) (order : RowOrder)
    (rows made : List StopTimeRow)
    → made ≡ map (λ sort_key. linked_row trips stops (flex (row_of rows sort_key.number)) (row_of rows sort_key.number)) (sort_keys_in trips order rows)
    → sort_keys_by order made ≡ sort_keys_in trips order rows
sort_keys_kept trips stops flex orders.Filed rows made e =
    ap (λ all. filed_sort_keys 1 all) (e ∙ made_as_filed (λ row. linked_row trips stops (flex row) row) trips rows) ∙ filed-linked trips stops flex 1 rows
sort_keys_kept trips stops flex (orders.ByKeys sort_keys) rows made e = refl

-- the rows up to an index stand in order, and the last of them has a sort key
pub record AreRising (trips : List (Option ℕ)) (rows : List StopTimeRow) (at : ℕ) (last : SortKey) : Type 0 where
  pub ends : (d : SortKey) → get_or (sort_keys_from trips 1 rows) (at - 1) d ≡ last
  pub rising : (k : ℕ) (d : SortKey) → k + 1 < at → comes_before (get_or (sort_keys_from trips 1 rows) (k + 1) d) (get_or (sort_keys_from trips 1 rows) k d)
      ≡ false

sort_key_here : (trips : List (Option ℕ)) (rows : List StopTimeRow) (at : ℕ) (sort_key d : SortKey) → at < length rows
    → sort_key ≡ sort_key_of trips (at + 1) (get_or rows at no_row) → get_or (sort_keys_from trips 1 rows) at d ≡ sort_key
sort_key_here trips rows at sort_key d lt is =
    let number : 1 + at ≡ at + 1 = omega arith in
    sort_key-at trips 1 rows at d no_row lt ∙ ap (λ n. sort_key_of trips n (get_or rows at no_row)) number ∙ sym is

pub rising_one : (trips : List (Option ℕ)) (rows : List StopTimeRow) (sort_key : SortKey) → 0 < length rows → sort_key ≡ sort_key_of trips (0 + 1)
    (get_or rows 0 no_row)
    → AreRising trips rows 1 sort_key
rising_one trips rows sort_key lt is = record {
  ends = λ d. sort_key_here trips rows 0 sort_key d lt is;
  rising = λ k d less. absurd (omega (arith, less));
}

pub rising_more : (trips : List (Option ℕ)) (rows : List StopTimeRow) (at : ℕ) (last sort_key : SortKey) → 0 < at → at < length rows
    → sort_key ≡ sort_key_of trips (at + 1) (get_or rows at no_row) → comes_before sort_key last ≡ false → AreRising trips rows at last → AreRising trips rows
    (at + 1) sort_key
rising_more trips rows at last sort_key some lt is up was = record {
  ends = λ d.
      let back : at ≡ at + 1 - 1 = omega arith in
      subst (λ (n : ℕ). get_or (sort_keys_from trips 1 rows) n d ≡ sort_key) back (sort_key_here trips rows at sort_key d lt is);
  rising = λ k d less. elim (cases_eq (k + 1) at) [
    | inl same ↦
        let before : at - 1 ≡ k = omega (arith, same) in
        let first : get_or (sort_keys_from trips 1 rows) k d ≡ last = ap (λ n. get_or (sort_keys_from trips 1 rows) n d) (sym before) ∙ was.ends d in
        let second : get_or (sort_keys_from trips 1 rows) (k + 1) d ≡ sort_key = ap (λ n. get_or (sort_keys_from trips 1 rows) n d) same
        ∙ sort_key_here trips rows at sort_key d lt is in
        rw (first, second) up
    | inr other ↦ was.rising k d (omega (arith, less, other))
  ];
}

pub rising_all : (trips : List (Option ℕ)) (rows : List StopTimeRow) (at : ℕ) (last : SortKey) → length rows ≡ at → AreRising trips rows at last
    → IsSortedBy comes_before (sort_keys_from trips 1 rows)
rising_all trips rows at last end was k d low less =
    let len : length (sort_keys_from trips 1 rows) ≡ length rows = length-sort_keys trips 1 rows in
    was.rising k d (omega (arith, less, len, end))

-- the number of one of some sort keys is its number among all
pub number_in : (sort_keys : List SortKey) (first end at : ℕ) → first ≤ end → at < end - first
    → get_or (map (λ sort_key. sort_key.number) (slice_range sort_keys first end)) at 0 ≡ get_or (map (λ sort_key. sort_key.number) sort_keys) (first + at) 0
number_in sort_keys first end at rising lt =
    map_reads (λ (sort_key : SortKey). sort_key.number) (take (end - first) (drop first sort_keys)) at no_sort_key
    ∙ ap (λ (sort_key : SortKey). sort_key.number) (get_or-take (end - first) (drop first sort_keys) at no_sort_key lt
    ∙ get_or-drop first sort_keys at no_sort_key)
    ∙ sym (map_reads (λ (sort_key : SortKey). sort_key.number) sort_keys (first + at) no_sort_key)
