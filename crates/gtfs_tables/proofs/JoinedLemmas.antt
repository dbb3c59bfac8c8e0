-- What holds for a joined feed.
use Rattle.std.proofs.Common.{◌≡◌, ℕ, zero, suc, ◌+◌, ◌-◌, ◌<◌, ◌≤◌, inl, inr, ◌∙◌, sym, ap, refl, subst, arith, Bool}
use Rattle.std.proofs.Common.{true, false, not, ◌||◌, List, [], ◌∷◌, length, map, take, drop, get_or, Option, Some}
use Rattle.std.proofs.Common.{None, IsSomeAnd}
use Rattle.std.specs.Prelude.{count_by, filter, is_none, nat_le, nat_lt, option_and_then, option_map, if◌then◌else◌}
use Rattle.std.specs.List.{AllZip, list_any, slice_get, slice_index_or, slice_range}
use Rattle.std.specs.Option.{option_or}
use Rattle.std.specs.Str.{bytes_eq}
use Rattle.std.specs.String.{string_bytes}
use Rattle.std.proofs.lemmas.Bool.{and_parts, cases_Bool, false≢true, leb-true, ltb-true, le-ltb, lt-ltb, not-true}
use Rattle.std.proofs.lemmas.List.{get_or-drop, get_or-take, length-drop, length-map, length-take}
use Rattle.std.proofs.lemmas.List.Folds.{list_any_at}
use Rattle.std.proofs.lemmas.List.Sums.{count_by-le-length, length-filter}
use Rattle.reasoning.proofs.FirstLemmas.{option_or-none, option_or-some, option_or_parts, first_below-none}
use Rattle.reasoning.proofs.OptionLemmas.{option_cases}
use Rattle.gtfs_rows.specs.Tables.{is_stop}
use Rattle.gtfs_rows.specs.declared.fault.FaultKind.{FaultKind}
use Rattle.gtfs_rows.specs.declared.fault.Table.TheVariants as tables
use Rattle.gtfs_rows.specs.declared.rows.Location.{Location}
use Rattle.gtfs_rows.specs.declared.rows.Location.TheVariants as locations
use Rattle.gtfs_rows.specs.declared.rows.StopRow.{StopRow}
use Rattle.gtfs_rows.specs.declared.rows.StopTimeRow.{StopTimeRow}
use Rattle.gtfs_rows.specs.declared.rows.TripRow.{TripRow}
use Rattle.gtfs_tables.specs.Feeds.{feed_stop, feed_trip, feed_trips, first_fault, link_by, naming_fault}
use Rattle.gtfs_tables.specs.Feeds.{rows_by, fault_of_row, stops_by, trip_fault, trips_by}
use Rattle.gtfs_tables.specs.First.{first_below, first_fault_of}
use Rattle.gtfs_tables.specs.Joined.{AreRunnable, HasTimedEnds, IsRunnableTrip, NameStopsBelow, NamesBelow}
use Rattle.gtfs_tables.specs.Names.{named_as, named_at, stop_named, stop_with, trip_named}
use Rattle.gtfs_tables.specs.Order.{first_row_of, of_trip, row_of}
use Rattle.gtfs_tables.specs.Rows.{IsTransferOf, is_flex_id, is_kept, is_repeated, named_by, stop_number, stop_of, transfer_fault}
use Rattle.gtfs_tables.specs.Times.{first_wrong, is_flex, wrong_given, wrong_times}
use Rattle.gtfs_tables.specs.declared.names.StopIdTarget.{StopIdTarget}
use Rattle.gtfs_tables.specs.declared.names.StopIdTarget.TheVariants as names
use Rattle.gtfs_tables.specs.declared.order.SortKey.{SortKey}
use Rattle.gtfs_tables.specs.declared.tables.TransferEnd.{TransferEnd}
use Rattle.gtfs_tables.specs.declared.tables.TransferEnd.TheVariants as indices
use Rattle.gtfs_tables.specs.declared.tables.Stop.{Stop}
use Rattle.gtfs_tables.specs.declared.tables.Tables.{Tables}
use Rattle.gtfs_tables.specs.declared.tables.Transfer.{Transfer}
use Rattle.gtfs_tables.specs.declared.tables.Trip.{Trip}
use Rattle.gtfs_tables.proofs.TimeLemmas.{ends_timed}

-- ---- what an id names is one of the stops

-- what is found below an index is found at one
found_at : {X : Type 0} (f : ℕ → Option X) (n : ℕ) (x : X) → first_below f n ≡ Some x → (k : ℕ) × (k < n) × (f k ≡ Some x)
unfolding first_below
found_at f zero x e = absurd cc
found_at f (suc n) x e = elim (option_cases (first_below f n)) [
  | inl none ↦ (n, omega arith, sym (option_or-none (first_below f n) (f n) none) ∙ e)
  | inr some ↦
      let same : Some some.0 ≡ Some x = sym (option_or-some (first_below f n) (f n) some.0 some.1) ∙ e in
      let rest = found_at f n x (some.1 ∙ same) in
      (rest.0, (let lt = rest.1 in omega arith), rest.2)
]

-- a stop has fewer before it than there are
fewer_kept : (stops : List StopRow) (k : ℕ) (row : StopRow) → slice_get stops k ≡ Some row → is_stop row ≡ true
    → length (filter is_stop (take k stops)) < length (filter is_stop stops)
fewer_kept [] k row e s = absurd cc
fewer_kept (first ∷ stops) zero row e s =
    let same : first ≡ row = cc in
    let here : is_stop first ≡ true = rw same s in
    rw here (omega arith)
fewer_kept (first ∷ stops) (suc k) row e s =
    let fewer : length (filter is_stop (take k stops)) < length (filter is_stop stops) = fewer_kept stops k row e s in
    elim (cases_Bool (is_stop first)) [ inl t ↦ rw t (omega arith) | inr f ↦ rw f fewer ]

fewer_before : (stops : List StopRow) (k : ℕ) (row : StopRow) → slice_get stops k ≡ Some row → is_stop row ≡ true
    → count_by is_stop (take k stops) < count_by is_stop stops
fewer_before stops k row e s =
    let fewer = fewer_kept stops k row e s in
    omega (arith, length-filter is_stop (take k stops), length-filter is_stop stops)

stop_as : (location : Location) (number index s : ℕ) → named_as location number index ≡ names.Stop s → (location ≡ locations.Stop) × (number ≡ s)
stop_as locations.Stop number index s e = (refl, cc)
stop_as locations.Station number index s e = absurd cc
stop_as locations.Entrance number index s e = absurd cc
stop_as locations.Node number index s e = absurd cc
stop_as locations.BoardingArea number index s e = absurd cc

stop_here : (b : Bool) (x y : StopIdTarget) → (if b then Some x else None) ≡ Some y → x ≡ y
stop_here true x y e = cc
stop_here false x y e = absurd cc

with_below : (stops : List StopRow) (id : List ℕ) (k s : ℕ) (o : Option StopRow) → slice_get stops k ≡ o
    → option_and_then (λ row. if bytes_eq id (string_bytes row.id) then Some
    (named_as row.location (count_by is_stop (take k stops)) k) else None) o ≡ Some (names.Stop s)
    → s < count_by is_stop stops
with_below stops id k s None found e = absurd cc
with_below stops id k s (Some row) found e =
    let here = stop_as row.location (count_by is_stop (take k stops)) k s
    (stop_here (bytes_eq id (string_bytes row.id)) (named_as row.location (count_by is_stop (take k stops)) k)
    (names.Stop s) e) in
    let stands : is_stop row ≡ true = rw here.0 refl in
    let fewer = fewer_before stops k row found stands in
    subst (λ n. n < count_by is_stop stops) here.1 fewer

pub named_below : (stops : List StopRow) (id : List ℕ) (s : ℕ) → stop_named stops id ≡ Some (names.Stop s) → s < count_by is_stop stops
named_below stops id s e =
    let found = found_at (stop_with stops id) (length stops) (names.Stop s) e in
    with_below stops id found.0 s (slice_get stops found.0) refl found.2

-- ---- transfers

stop_index : (index : TransferEnd) (s : ℕ) → index ≡ indices.Stop s → named_by index ≡ names.Stop s
stop_index index s e = rw e refl

index_below : (stops : List StopRow) (id : List ℕ) (index : TransferEnd) → stop_named stops id ≡ Some (named_by index) → NamesBelow
    (count_by is_stop stops) index
index_below stops id (indices.Stop s) e = named_below stops id s e
index_below stops id (indices.Station p) e = tt

-- the feed has as many stops as stops.txt has rows that stand for one
stops_counted : (t : Tables) (stops : List Stop) (named : List ℕ → Option StopIdTarget)
    → stops ≡ map (feed_stop named) (filter is_stop t.stops.items) → length stops ≡ count_by is_stop t.stops.items
stops_counted t stops named e = ap length e ∙ length-map (filter is_stop t.stops.items) (feed_stop named) ∙ length-filter is_stop t.stops.items

zip_at : {A B : Type 0} (R : A → B → Type 0) (xs : List A) (ys : List B) (k : ℕ) (e : B) → AllZip R xs ys
    → k < length ys → (x : A) × R x (slice_index_or ys k e)
zip_at R [] [] k e zipped lt = absurd (omega (arith, lt))
zip_at R [] (y ∷ ys) k e zipped lt = absurd zipped
zip_at R (x ∷ xs) [] k e zipped lt = absurd zipped
zip_at R (x ∷ xs) (y ∷ ys) zero e zipped lt = (x, zipped.0)
zip_at R (x ∷ xs) (y ∷ ys) (suc k) e zipped lt = zip_at R xs ys k e zipped.1 (omega (arith, lt))

pub joined_names : (t : Tables) (stops : List Stop) (transfers : List Transfer)
    → stops ≡ map (feed_stop (stop_named t.stops.items)) (filter is_stop t.stops.items)
    → AllZip (IsTransferOf (stop_named t.stops.items)) (filter is_kept t.transfers.items) transfers → NameStopsBelow (length stops) transfers
joined_names t stops transfers stops_are zipped k d lt =
    let count = stops_counted t stops (stop_named t.stops.items) stops_are in
    let row = zip_at (IsTransferOf (stop_named t.stops.items)) (filter is_kept t.transfers.items) transfers k d zipped lt in
    rw count (
      index_below t.stops.items (string_bytes row.0.from) (slice_index_or transfers k d).from row.1.from,
      index_below t.stops.items (string_bytes row.0.to) (slice_index_or transfers k d).to row.1.to,
    )

-- ---- where the rows of a trip stand

test_more : (trip t u : ℕ) → t ≤ u → nat_lt trip t ≡ true → nat_lt trip u ≡ true
test_more trip t u le e = lt-ltb trip u (let less = ltb-true trip t e in omega arith)

kept_more : {X : Type 0} (p q : X → Bool) (xs : List X) → ((x : X) → p x ≡ true → q x ≡ true) → length (filter p xs) ≤ length (filter q xs)
kept_more p q [] h = omega arith
kept_more p q (x ∷ xs) h =
    let rest : length (filter p xs) ≤ length (filter q xs) = kept_more p q xs h in
    elim (cases_Bool (p x)) [
      | inl t ↦ let u : q x ≡ true = h x t in rw (t, u) (omega arith)
      | inr t ↦ elim (cases_Bool (q x)) [ inl u ↦ rw (t, u) (omega arith) | inr u ↦ rw (t, u) rest ]
    ]

sort_key_rises : (sort_keys : List SortKey) (t : ℕ) → first_row_of sort_keys t ≤ first_row_of sort_keys (t + 1)
sort_key_rises sort_keys t =
    let more = kept_more (λ (sort_key : SortKey). nat_lt sort_key.trip t) (λ (sort_key : SortKey). nat_lt sort_key.trip (t + 1)) sort_keys
    (λ sort_key e. test_more sort_key.trip t (t + 1) (omega arith) e) in
    omega (
      arith,
      length-filter (λ (sort_key : SortKey). nat_lt sort_key.trip t) sort_keys,
      length-filter (λ (sort_key : SortKey). nat_lt sort_key.trip (t + 1))
          sort_keys,
    )

sort_key_within : (sort_keys : List SortKey) (t : ℕ) → first_row_of sort_keys t ≤ length sort_keys
sort_key_within sort_keys t = count_by-le-length (λ sort_key. nat_lt sort_key.trip t) sort_keys

trip_at : (sort_keys : List SortKey) (rows : List StopTimeRow) (repeats : ℕ → Bool) (from k : ℕ) (trips : List TripRow) (d : Trip) → k < length trips
    → (row : TripRow) × (get_or (feed_trips sort_keys rows repeats from trips) k d ≡ feed_trip sort_keys rows repeats (from + k) row)
trip_at sort_keys rows repeats from k [] d lt = absurd (omega (arith, lt))
trip_at sort_keys rows repeats from zero (row ∷ trips) d lt = (row, let e : from + zero ≡ from = omega arith in rw e refl)
trip_at sort_keys rows repeats from (suc k) (row ∷ trips) d lt =
    let rest = trip_at sort_keys rows repeats (from + 1) k trips d (omega (arith, lt)) in
    (rest.0, let e : from + suc k ≡ from + 1 + k = omega arith in rw e rest.1)

trips_counted : (sort_keys : List SortKey) (rows : List StopTimeRow) (repeats : ℕ → Bool) (from : ℕ) (trips : List TripRow)
    → length (feed_trips sort_keys rows repeats from trips) ≡ length trips
trips_counted sort_keys rows repeats from [] = refl
trips_counted sort_keys rows repeats from (row ∷ trips) = ap (λ n. suc n) (trips_counted sort_keys rows repeats (from + 1) trips)

-- ---- their times and stops

unmapped : {X Y : Type 0} (f : X → Y) (o : Option X) → option_map f o ≡ None → o ≡ None
unmapped f None e = refl
unmapped f (Some x) e = absurd cc

judged : (short flex : Bool) (x : Option (ℕ × FaultKind)) → short ≡ false → flex ≡ false → (if short || flex then None else x) ≡ None → x ≡ None
judged short flex x s f e = rw (s, f) at e

timed_by : (strict : Bool) (rows : List StopTimeRow) → nat_lt (length rows) 2 ≡ false → is_flex rows ≡ false
    → first_wrong strict rows ≡ None → HasTimedEnds rows
timed_by strict rows long steady e =
    let fine : wrong_times strict rows ≡ None = judged (nat_lt (length rows) 2) (is_flex rows) (wrong_times strict rows) long steady e in
    ends_timed rows (option_or_parts (wrong_given rows) _ fine).0

slice_length : {X : Type 0} (xs : List X) (first end : ℕ) → end ≤ length xs → length (slice_range xs first end) ≡ end - first
slice_length xs first end le = omega (arith, length-take (end - first) (drop first xs), length-drop first xs)

slice_at : {X : Type 0} (xs : List X) (first end k : ℕ) (d : X) → k < end - first → get_or (slice_range xs first end) k d ≡ get_or xs (first + k) d
slice_at xs first end k d lt = get_or-take (end - first) (drop first xs) k d lt ∙ get_or-drop first xs k d

mapped_at : {A B : Type 0} (f : A → B) (xs : List A) (k : ℕ) (d : B) → k < length xs → (x : A) × (get_or (map f xs) k d ≡ f x)
mapped_at f [] k d lt = absurd (omega (arith, lt))
mapped_at f (x ∷ xs) zero d lt = (x, refl)
mapped_at f (x ∷ xs) (suc k) d lt = mapped_at f xs k d (omega (arith, lt))

mapped_some : {A B : Type 0} (f : A → Option B) (xs : List A) (k : ℕ) (y : B) → get_or (map f xs) k None ≡ Some y → (x : A) × (f x ≡ Some y)
mapped_some f [] k y e = absurd cc
mapped_some f (x ∷ xs) zero y e = (x, e)
mapped_some f (x ∷ xs) (suc k) y e = mapped_some f xs k y e

none_any : {X : Type 0} (p : X → Bool) (xs : List X) (k : ℕ) (d : X) → list_any p xs ≡ false → k < length xs → p (get_or xs k d) ≡ false
none_any p xs k d e lt = elim (cases_Bool (p (get_or xs k d))) [
  | inl t ↦ absurd (false≢true (sym e ∙ list_any_at p xs k d lt t))
  | inr f ↦ f
]

numbered : (o : Option StopIdTarget) (s : ℕ) → stop_number o ≡ Some s → o ≡ Some (names.Stop s)
numbered (Some (names.Stop n)) s e = cc
numbered (Some (names.Station p)) s e = absurd cc
numbered (Some names.Elsewhere) s e = absurd cc
numbered None s e = absurd cc

placed_at : {Y : Type 0} (f : ℕ → Option Y) (index : Option ℕ) (y : Y) → option_and_then f index ≡ Some y → (k : ℕ) × (f k ≡ Some y)
placed_at f None y e = absurd cc
placed_at f (Some k) y e = (k, e)

-- a row that is replaced has one of the stops, if any
linked_below : {K : Type 0} (stops : List StopRow) (bytes : K → List ℕ) (keys : List K) (row : StopTimeRow) (s : ℕ)
    → stop_number (stop_of (map (λ id. stop_named stops (bytes id)) keys) row) ≡ Some s → s < count_by is_stop stops
linked_below stops bytes keys row s e =
    let named = numbered (stop_of (map (λ id. stop_named stops (bytes id)) keys) row) s e in
    let index = placed_at (named_at (map (λ id. stop_named stops (bytes id)) keys)) row.stop (names.Stop s) named in
    let id = mapped_some (λ id. stop_named stops (bytes id)) keys index.0 (names.Stop s) index.1 in
    named_below stops (bytes id.0) s id.1

unless : (b : Bool) (x : Option ℕ) (s : ℕ) → (if b then None else x) ≡ Some s → x ≡ Some s
unless true x s e = absurd cc
unless false x s e = e

stop_below : (n : ℕ) (o : Option ℕ) → is_none o ≡ false → ((s : ℕ) → o ≡ Some s → s < n) → IsSomeAnd o (λ s. s < n)
stop_below n None e h = absurd (false≢true (sym e))
stop_below n (Some s) e h = h s refl

-- a row of the feed has one of the stops, if any
row_below : (t : Tables) (sort_keys : List SortKey) (k s : ℕ) (d : StopTimeRow) → k < length sort_keys
    → (get_or (rows_by (stop_named t.stops.items) (trip_named t.trips.items) t sort_keys) k d).stop ≡ Some s → s < count_by is_stop t.stops.items
row_below t sort_keys k s d lt e =
    let sort_key = mapped_at (λ (sort_key : SortKey). link_by (stop_named t.stops.items) (trip_named t.trips.items) t
    (row_of t.stop_times.rows.items sort_key.number)) sort_keys k d lt in
    let raw = row_of t.stop_times.rows.items sort_key.0.number in
    let here = sym (ap (λ (row : StopTimeRow). row.stop) sort_key.1) ∙ e in
    let some = unless (is_none (named_at (trips_by (trip_named t.trips.items) t) raw.trip) || is_flex_id
    t.stop_times.rows.items raw.trip) (stop_number (stop_of (stops_by (stop_named t.stops.items) t) raw)) s here
    in
    linked_below t.stops.items string_bytes t.stop_times.stops.keys raw s some

-- ---- the trips of a joined feed

fault_none : (strict : Bool) (t : Tables) (sort_keys : List SortKey) (k : ℕ)
    → first_fault (stop_named t.stops.items) (trip_named t.trips.items) strict t sort_keys ≡ None → k < length t.trips.items
    → first_wrong strict (of_trip sort_keys k (rows_by (stop_named t.stops.items) (trip_named t.trips.items) t sort_keys)) ≡ None
fault_none strict t sort_keys k e lt =
    let rows = rows_by (stop_named t.stops.items) (trip_named t.trips.items) t sort_keys in
    let behind = option_or_parts (naming_fault (stop_named t.stops.items) (trip_named t.trips.items) t)
    (option_or (first_below (trip_fault strict sort_keys rows) (length t.trips.items))
    (first_fault_of tables.Transfers (transfer_fault (stop_named t.stops.items)) t.transfers.items)) e in
    let trips = option_or_parts (first_below (trip_fault strict sort_keys rows) (length t.trips.items))
    (first_fault_of tables.Transfers (transfer_fault (stop_named t.stops.items)) t.transfers.items) behind.1 in
    unmapped (fault_of_row (of_trip sort_keys k sort_keys)) (first_wrong strict (of_trip sort_keys k rows))
    (first_below-none (trip_fault strict sort_keys rows) (length t.trips.items) k lt trips.0)

-- the trip at an index, as it is made, is runnable
made_runnable : (strict : Bool) (t : Tables) (sort_keys : List SortKey) (k : ℕ) (row : TripRow)
    → first_fault (stop_named t.stops.items) (trip_named t.trips.items) strict t sort_keys ≡ None → k < length t.trips.items
    → IsRunnableTrip (count_by is_stop t.stops.items) (rows_by (stop_named t.stops.items) (trip_named t.trips.items) t sort_keys)
    (feed_trip sort_keys (rows_by (stop_named t.stops.items) (trip_named t.trips.items) t sort_keys)
    (is_repeated (trip_named t.trips.items) t.frequencies.items) k row)
made_runnable strict t sort_keys k row faultless lt =
    let rows = rows_by (stop_named t.stops.items) (trip_named t.trips.items) t sort_keys in
    let up = sort_key_rises sort_keys k in
    let len : length rows ≡ length sort_keys = length-map sort_keys
    (λ (sort_key : SortKey). link_by (stop_named t.stops.items) (trip_named t.trips.items) t
    (row_of t.stop_times.rows.items sort_key.number)) in
    let inside : first_row_of sort_keys (k + 1) ≤ length rows = let w = sort_key_within sort_keys (k + 1) in omega arith in
    let count : length (of_trip sort_keys k rows) ≡ first_row_of sort_keys (k + 1) - first_row_of sort_keys k =
    slice_length rows (first_row_of sort_keys k) (first_row_of sort_keys (k + 1)) inside in
    record {
      rising = up;
      within = inside;
      timed = λ makes.
          let parts = and_parts (not (is_flex (of_trip sort_keys k rows))) (nat_le 2 (first_row_of sort_keys (k + 1) - first_row_of sort_keys k)) makes in
          let two = leb-true 2 (first_row_of sort_keys (k + 1) - first_row_of sort_keys k) parts.1 in
          timed_by strict (of_trip sort_keys k rows) (le-ltb (length (of_trip sort_keys k rows)) 2 (omega arith))
          (not-true (is_flex (of_trip sort_keys k rows)) parts.0) (fault_none strict t sort_keys k faultless lt);
      stops_below = λ makes i d less.
          let parts = and_parts (not (is_flex (of_trip sort_keys k rows))) (nat_le 2 (first_row_of sort_keys (k + 1) - first_row_of sort_keys k)) makes in
          let steady = not-true (is_flex (of_trip sort_keys k rows)) parts.0 in
          let at : get_or (of_trip sort_keys k rows) i d ≡ get_or rows (first_row_of sort_keys k + i) d =
          slice_at rows (first_row_of sort_keys k) (first_row_of sort_keys (k + 1)) i d (omega arith) in
          stop_below (count_by is_stop t.stops.items) (get_or (of_trip sort_keys k rows) i d).stop
          (none_any (λ (row : StopTimeRow). is_none row.stop) (of_trip sort_keys k rows) i d steady less)
          (λ s e. row_below t sort_keys (first_row_of sort_keys k + i) s d (omega arith) (sym (ap (λ (row : StopTimeRow). row.stop) at) ∙ e));
    }

pub joined_trips : (strict : Bool) (t : Tables) (sort_keys : List SortKey) (stops : List Stop) (times : List StopTimeRow) (trips : List Trip)
    → first_fault (stop_named t.stops.items) (trip_named t.trips.items) strict t sort_keys ≡ None
    → stops ≡ map (feed_stop (stop_named t.stops.items)) (filter is_stop t.stops.items)
    → times ≡ rows_by (stop_named t.stops.items) (trip_named t.trips.items) t sort_keys
    → trips ≡ feed_trips sort_keys (rows_by (stop_named t.stops.items) (trip_named t.trips.items) t sort_keys)
    (is_repeated (trip_named t.trips.items) t.frequencies.items) 0 t.trips.items
    → AreRunnable (length stops) times trips
joined_trips strict t sort_keys stops times trips faultless stops_are times_are trips_are k d lt =
    let rows = rows_by (stop_named t.stops.items) (trip_named t.trips.items) t sort_keys in
    let repeats = is_repeated (trip_named t.trips.items) t.frequencies.items in
    let count = stops_counted t stops (stop_named t.stops.items) stops_are in
    let many : length trips ≡ length t.trips.items = ap length trips_are ∙ trips_counted sort_keys rows repeats 0 t.trips.items in
    let made = trip_at sort_keys rows repeats 0 k t.trips.items d (omega arith) in
    let index : 0 + k ≡ k = omega arith in
    let is : get_or trips k d ≡ feed_trip sort_keys rows repeats k made.0 =
    ap (λ (all : List Trip). get_or all k d) trips_are ∙ made.1 ∙ ap (λ n. feed_trip sort_keys rows repeats n made.0) index in
    rw (is, times_are, count) (made_runnable strict t sort_keys k made.0 faultless (omega arith))
