-- The sort keys of rows, one row at a time, and where those of a trip begin.
use Rattle.std.proofs.Common.{◌≡◌, ℕ, zero, suc, ◌+◌, ◌<◌, ◌≤◌, ◌⊎◌, inl, inr, List, [], ◌∷◌, ◌++◌, length, get_or}
use Rattle.std.proofs.Common.{take, Bool, true, false, eqb, ltb, Option, refl, ap, ◌∙◌, sym, arith}
use Rattle.std.specs.Prelude.{count_by, filter, IsSortedBy}
use Rattle.std.specs.List.{AllWithin}
use Rattle.std.specs.List.Sorted.{IsNonDecreasingBy}
use Rattle.std.proofs.lemmas.Bool.{cases_order, false≢true, le-ltb, lt-ltb, ne_eqb}
use Rattle.std.proofs.lemmas.List.Sums.{length-filter}
use Rattle.std.proofs.lemmas.List.Sorted.{IsNonDecreasingBy-from_all_adjacent}
use Rattle.std.proofs.lemmas.List.{get_or_default, length-take-le, take_more}
use Rattle.gtfs_rows.specs.declared.rows.StopTimeRow.{StopTimeRow}
use Rattle.gtfs_tables.specs.Order.{comes_before, first_row_of, sort_key_of, sort_keys_from}
use Rattle.gtfs_tables.specs.declared.order.SortKey.{SortKey}

sort_keys-push : (trips : List (Option ℕ)) (k index : ℕ) (rows : List StopTimeRow) (row : StopTimeRow) → index ≡ k + length rows
    → sort_keys_from trips k (rows ++ row ∷ []) ≡ sort_keys_from trips k rows ++ sort_key_of trips index row ∷ []
sort_keys-push trips k index [] row e = let same : index ≡ k = omega (arith, e) in rw same refl
sort_keys-push trips k index (first ∷ rows) row e = ap (λ rest. sort_key_of trips k first ∷ rest)
    (sort_keys-push trips (k + 1) index rows row (omega (arith, e)))

pub sort_keys-more : (trips : List (Option ℕ)) (rows : List StopTimeRow) (i : ℕ) (row : StopTimeRow) → i < length rows → row ≡ get_or rows i row
    → sort_keys_from trips 1 (take (i + 1) rows) ≡ sort_keys_from trips 1 (take i rows) ++ sort_key_of trips (i + 1) row ∷ []
sort_keys-more trips rows i row lt e =
    let len : length (take i rows) ≡ i = length-take-le i rows (omega arith) in
    let front : take (i + 1) rows ≡ take i rows ++ row ∷ [] = take_more rows i row lt ∙ ap (λ x. take i rows ++ x ∷ []) (sym e) in
    rw front (sort_keys-push trips 1 (i + 1) (take i rows) row (omega (arith, len)))

pub sort_keys-pushed : (trips : List (Option ℕ)) (rows : List StopTimeRow) (i : ℕ) (d : StopTimeRow) (sort_keys : List SortKey) → i < length rows
    → sort_keys ≡ sort_keys_from trips 1 (take i rows) → sort_keys ++ sort_key_of trips (i + 1) (get_or rows i d) ∷ []
    ≡ sort_keys_from trips 1 (take (i + 1) rows)
sort_keys-pushed trips rows i d sort_keys lt e =
    rw e (sym (sort_keys-more trips rows i (get_or rows i d) lt (get_or_default rows i d (get_or rows i d) lt)))

-- the trips rise along the sort keys
trip_rises : (a b : SortKey) → comes_before b a ≡ false → a.trip ≤ b.trip
trip_rises a b e = by (cases_order b.trip a.trip)
  where
    by : (b.trip ≡ a.trip) ⊎ ((b.trip < a.trip) ⊎ (a.trip < b.trip)) → a.trip ≤ b.trip
    by (inl same) = omega (arith, same)
    by (inr (inl less)) =
        let differs : eqb b.trip a.trip ≡ false = ne_eqb b.trip a.trip (λ s. omega (arith, s)) in
        let below : ltb b.trip a.trip ≡ true = lt-ltb b.trip a.trip less in
        absurd (false≢true (sym e ∙ rw (differs, below) refl))
    by (inr (inr more)) = omega arith

pub trips_rise : (sort_keys : List SortKey) → IsSortedBy comes_before sort_keys → IsNonDecreasingBy (λ sort_key. sort_key.trip) sort_keys
trips_rise sort_keys sorted = IsNonDecreasingBy-from_all_adjacent (λ sort_key. sort_key.trip) sort_keys
    (λ k d lt. trip_rises (get_or sort_keys k d) (get_or sort_keys (k + 1) d) (sorted k d (omega arith) lt))

-- a test that passes exactly below an index passes so often
filter_front : {X : Type 0} (p : X → Bool) (xs : List X) (n : ℕ) → n ≤ length xs → ((k : ℕ) (d : X) → k < n → p (get_or xs k d) ≡ true)
    → ((k : ℕ) (d : X) → n ≤ k → k < length xs → p (get_or xs k d) ≡ false) → length (filter p xs) ≡ n
filter_front p [] zero le under over = refl
filter_front p [] (suc n) le under over = absurd (omega arith)
filter_front p (x ∷ xs) zero le under over =
    let here : p x ≡ false = over 0 x (omega arith) (omega arith) in
    rw here (filter_front p xs 0 (omega arith) (λ k d lt. absurd (omega arith)) (λ k d low lt. over (suc k) d (omega arith) (omega arith)))
filter_front p (x ∷ xs) (suc n) le under over =
    let here : p x ≡ true = under 0 x (omega arith) in
    let rest : length (filter p xs) ≡ n = filter_front p xs n (omega arith) (λ k d lt. under (suc k) d (omega arith))
    (λ k d low lt. over (suc k) d (omega arith) (omega arith)) in
    rw here (ap (λ m. suc m) rest)

count_front : {X : Type 0} (p : X → Bool) (xs : List X) (n : ℕ) → n ≤ length xs → ((k : ℕ) (d : X) → k < n → p (get_or xs k d) ≡ true)
    → ((k : ℕ) (d : X) → n ≤ k → k < length xs → p (get_or xs k d) ≡ false) → count_by p xs ≡ n
count_front p xs n le under over = sym (length-filter p xs) ∙ filter_front p xs n le under over

-- the index up to which the trips are below t, and from which they aren't
pub first_row_of-is : (sort_keys : List SortKey) (t at : ℕ) → IsSortedBy comes_before sort_keys → at ≤ length sort_keys
    → AllWithin (λ sort_key. sort_key.trip < t) sort_keys 0 at
    → ((d : SortKey) → at < length sort_keys → t ≤ (get_or sort_keys at d).trip) → at ≡ first_row_of sort_keys t
first_row_of-is sort_keys t at sorted le below here =
    sym (count_front (λ sort_key. ltb sort_key.trip t) sort_keys at le
    (λ k d lt. lt-ltb (get_or sort_keys k d).trip t (below k d (omega arith) lt))
    (λ k d low lt.
    let up : (get_or sort_keys at d).trip ≤ (get_or sort_keys k d).trip = trips_rise sort_keys sorted at k d low lt in
    let from : t ≤ (get_or sort_keys at d).trip = here d (omega arith) in
    le-ltb (get_or sort_keys k d).trip t (omega arith)))
