-- How keys and ids change with one more record.
use Rattle.std.proofs.Common.{◌≡◌, ◌≤◌, ◌<◌, ◌∷◌, ◌++◌, ◌∙◌, ℕ, zero, suc, List, [], length, map, fold, Option, Some, None, Bool, true, false, refl, sym, ap}
use Rattle.std.proofs.Common.{arith, String, Global, string_bytes, option_map}
use Rattle.std.specs.List.{AllZip, find, list_any, slice_get}
use Rattle.std.specs.Str.{bytes_eq}
use Rattle.std.specs.String.{string_eq}
use Rattle.std.proofs.lemmas.List.{length-map, map-append}
use Rattle.std.proofs.lemmas.List.Sums.{fold-append}
use Rattle.std.proofs.lemmas.Option.{slice_get-map}
use Rattle.std.proofs.lemmas.Slice.Eq.{bytes_eq-Decides}
use Rattle.std.proofs.lemmas.Grind.{common_steps}
use Rattle.reasoning.proofs.ListLemmas.{all_zip-push, slice_get-append}
use Rattle.indexmap.specs.IndexSet.{insert_key}
use Rattle.gtfs_rows.specs.Source.{Record}
use Rattle.gtfs_rows.specs.Cells.{ColumnIndices}
use Rattle.gtfs_rows.specs.Ids.{StandsAt, given_also, seen_also}
use Rattle.gtfs_rows.specs.Tables.{AreStopTimes, IsStopId, SpellsStopTime, key_fault, texts_kept, value}
use Rattle.gtfs_rows.specs.declared.columns.Key.TheVariants as keys
use Rattle.gtfs_rows.specs.declared.fault.FaultKind.TheVariants as kinds
use Rattle.gtfs_rows.specs.declared.rows.StopTimeRow.{StopTimeRow}
use Rattle.gtfs_rows.specs.declared.stop_times.StopTimes.{StopTimes}

pub any_map : {A B : Type 0} (p : B → Bool) (f : A → B) (xs : List A) → list_any p (map f xs) ≡ list_any (λ x. p (f x)) xs
any_map p f [] = refl
any_map p f (x ∷ xs) = rw (any_map p f xs) refl

-- the texts of one record more
pub texts_more : (text : Record → List ℕ) (before : List Record) (r : Record) → map text (before ++ r ∷ []) ≡ map text before ++ text r ∷ []
texts_more text before r = map-append text before (r ∷ [])

-- a text that all records must have, and one more record
pub shared_more : (k : ℕ) (indices : ColumnIndices) (before : List Record) (r : Record) (old : List (List ℕ)) (new : List (String Global))
    → old ≡ texts_kept (keys.Shared k) indices before → map string_bytes new ≡ seen_also old (value indices k r)
    → (length new ≤ 1 → (key_fault (keys.Shared k) indices before r ≡ None) × (map string_bytes new ≡ texts_kept (keys.Shared k) indices (before ++ r ∷ [])))
    × (1 < length new → key_fault (keys.Shared k) indices before r ≡ Some kinds.ZonesDiffer)
shared_more k indices [] r old new held more = let long = length-map new string_bytes in grind (arith, common_steps, long)
shared_more k indices (first ∷ rest) r old new held more = let long = length-map new string_bytes in grind (arith, common_steps, long)

-- an id of a set at its index
pub stands : (keys : List (String Global)) (i : ℕ) (k : String Global) (id : List ℕ) → slice_get keys i ≡ Some k
    → bytes_eq id (string_bytes k) ≡ true → StandsAt (map string_bytes keys) i id
stands keys i k id e same =
    let is : id ≡ string_bytes k = (bytes_eq-Decides id (string_bytes k)).0 same in
    slice_get-map string_bytes keys i ∙ ap (option_map string_bytes) e ∙ ap Some (sym is)

-- what a search finds passes
pub find_passes : {X : Type 0} (p : X → Bool) (xs : List X) (x : X) → find p xs ≡ Some x → p x ≡ true
find_passes p [] x e = cc
find_passes p (y ∷ ys) x e = by (p y) refl (find_passes p ys x)
  where
    by : (b : Bool) → p y ≡ b → (find p ys ≡ Some x → p x ≡ true) → p x ≡ true
    by true h rest = let f : Some y ≡ Some x = rw h at e in let s : y ≡ x = cc in rw (← s) h
    by false h rest = rest (rw h at e)

-- the ids of one record more
pub ids_more : (add_to : List (List ℕ) → List ℕ → List (List ℕ)) (k : ℕ) (indices : ColumnIndices) (before : List Record) (r : Record) (ids new : List (List ℕ))
    → ids ≡ fold add_to [] (map (value indices k) before) → new ≡ add_to ids (value indices k r)
    → new ≡ fold add_to [] (map (value indices k) (before ++ r ∷ []))
ids_more add_to k indices before r ids new held e =
    rw (e, held, texts_more) (sym (fold-append add_to [] (map (value indices k) before) (value indices k r ∷ [])))

-- a text that stands somewhere is among the texts
pub stands_among : (texts : List (List ℕ)) (k : ℕ) (text : List ℕ) → StandsAt texts k text → texts ≡ seen_also texts text
stands_among [] k text h = cc
stands_among (x ∷ xs) zero text h = let same = bytes_eq-Decides text text in grind (arith, common_steps, same)
stands_among (x ∷ xs) (suc k) text h = let more = stands_among xs k text h in let same = bytes_eq-Decides text x in grind (arith, common_steps, more, same)

-- a set with one more id
pub seen_insert : (keys new : List (String Global)) (k : String Global) → new ≡ insert_key string_eq keys k
    → map string_bytes new ≡ seen_also (map string_bytes keys) (string_bytes k)
seen_insert keys new k e = grind (arith, common_steps, any_map)

-- what a set's insertion rests on
pub ruleset insertion = (stands, seen_insert, any_map)

-- ids stay at their indices as one more is seen
pub stands_also : (texts : List (List ℕ)) (new : List ℕ) (k : ℕ) (text : List ℕ) → StandsAt texts k text → StandsAt (seen_also texts new) k text
stands_also texts new k text h = let more = slice_get-append texts (new ∷ []) k text h in grind (arith, common_steps, more)

-- rows of stop times as more ids are seen
stop_id_also : (stops : List (List ℕ)) (new : List ℕ) (index : Option ℕ) (text : List ℕ) → IsStopId stops index text
    → IsStopId (given_also stops new) index text
stop_id_also stops [] index text h = h
stop_id_also stops (b ∷ new) None text h = h
stop_id_also stops (b ∷ new) (Some k) text h = (h.0, stands_also stops (b ∷ new) k text h.1)

spells_also : (trips stops : List (List ℕ)) (trip stop : List ℕ) (indices : ColumnIndices) (records : List Record) (rows : List StopTimeRow)
    → AllZip (SpellsStopTime trips stops indices) records rows → AllZip (SpellsStopTime (seen_also trips trip) (given_also stops stop) indices) records rows
spells_also trips stops trip stop indices [] [] h = h
spells_also trips stops trip stop indices [] (row ∷ rows) h = absurd h
spells_also trips stops trip stop indices (r ∷ records) [] h = absurd h
spells_also trips stops trip stop indices (r ∷ records) (row ∷ rows) h = (
  record {
    trip = stands_also trips trip row.trip (value indices 0 r) h.0.trip;
    arrival = h.0.arrival;
    departure = h.0.departure;
    stop = stop_id_also stops stop row.stop (value indices 3 r) h.0.stop;
    sequence = h.0.sequence;
    board = h.0.board;
    alight = h.0.alight;
  },
  spells_also trips stops trip stop indices records rows h.1,
)

-- the stop times of one record more
pub stop_times_more : (old new : StopTimes) (indices : ColumnIndices) (before : List Record) (r : Record) (row : StopTimeRow)
    → map string_bytes new.trips.keys ≡ seen_also (map string_bytes old.trips.keys) (value indices 0 r)
    → map string_bytes new.stops.keys ≡ given_also (map string_bytes old.stops.keys) (value indices 3 r) → new.rows.items ≡ old.rows.items ++ row ∷ []
    → SpellsStopTime (map string_bytes new.trips.keys) (map string_bytes new.stops.keys) indices r row → AreStopTimes indices before old
    → AreStopTimes indices (before ++ r ∷ []) new
stop_times_more old new indices before r row t s n spelled held =
    let spells = SpellsStopTime (map string_bytes new.trips.keys) (map string_bytes new.stops.keys) indices in
    let earlier : AllZip spells before old.rows.items = rw (t, s) (spells_also _ _ _ _ indices before old.rows.items held.rows) in
    record {
      trips = ids_more seen_also 0 indices before r _ _ held.trips t;
      stops = ids_more given_also 3 indices before r _ _ held.stops s;
      rows = rw n (all_zip-push spells before old.rows.items r row earlier spelled);
    }
