-- The first fault of several steps, and the links made with maps of what the ids name.
use Rattle.std.proofs.Common.{◌≡◌, ℕ, ◌+◌, ◌<◌, List, [], ◌∷◌, length, Bool, false, Option, Some, None, refl, ap, ◌∙◌, arith, subst, slice_index_or}
use Rattle.std.specs.Prelude.{Result, Ok, Err, IfOk, IfErr, ◌≢◌}
use Rattle.std.specs.Global.{Vec}
use Rattle.std.specs.Option.{option_or}
use Rattle.gtfs_rows.specs.declared.fault.Table.TheVariants as kinds
use Rattle.gtfs_rows.specs.declared.fault.TableFault.{TableFault}
use Rattle.gtfs_rows.specs.declared.rows.FrequencyRow.{FrequencyRow}
use Rattle.gtfs_rows.specs.declared.rows.StopRow.{StopRow}
use Rattle.gtfs_rows.specs.declared.rows.StopTimeRow.{StopTimeRow}
use Rattle.gtfs_rows.specs.declared.rows.TripRow.{TripRow}
use Rattle.gtfs_tables.specs.Feeds.{IsFirstFault, IsLinked, IsNamingFault, feed_trip, feed_trips, first_fault, linked_by}
use Rattle.gtfs_tables.specs.Feeds.{rows_by, stop_time_fault, stops_by, trip_fault, trips_by}
use Rattle.gtfs_tables.specs.First.{first_below, first_fault_of, no_memory}
use Rattle.gtfs_tables.specs.Names.{stop_named, trip_named}
use Rattle.gtfs_tables.specs.Order.{IsInOrder, sort_keys_by, sort_keys_in}
use Rattle.gtfs_tables.specs.Rows.{frequency_fault, is_flex_id, is_repeated, linked_fault, parent_fault, transfer_fault}
use Rattle.gtfs_tables.specs.declared.joining.Links.{Links}
use Rattle.gtfs_tables.specs.declared.names.StopIdTarget.{StopIdTarget}
use Rattle.gtfs_tables.specs.declared.order.RowOrder.{RowOrder}
use Rattle.gtfs_tables.specs.declared.order.SortKey.{SortKey}
use Rattle.gtfs_tables.specs.declared.tables.Tables.{Tables}
use Rattle.gtfs_tables.specs.declared.tables.Transfer.{Transfer}
use Rattle.gtfs_tables.specs.declared.tables.Trip.{Trip}
use Rattle.gtfs_tables.proofs.SortKeyLemmas.{sort_keys_kept}

pub of_two : {X : Type 0} (a b c : Option X) (x : X) → a ≡ None → b ≡ Some x → option_or a (option_or b c) ≡ Some x
of_two a b c x e f = rw (e, f) refl

pub of_three : {X : Type 0} (a b c : Option X) (x : X) → a ≡ None → b ≡ None → c ≡ Some x → option_or a (option_or b c) ≡ Some x
of_three a b c x e f g = rw (e, f, g) refl

pub of_none : {X : Type 0} (a b c : Option X) → a ≡ None → b ≡ None → c ≡ None → option_or a (option_or b c) ≡ None
of_none a b c e f g = rw (e, f, g) refl

-- the trips with what is the same of each
pub same_trips : (sort_keys : List SortKey) (rows : List StopTimeRow) (f g : ℕ → Bool) (from : ℕ) (trips : List TripRow)
    → ((t : ℕ) → t < from + length trips → f t ≡ g t)
    → feed_trips sort_keys rows f from trips ≡ feed_trips sort_keys rows g from trips
same_trips sort_keys rows f g from [] same = refl
same_trips sort_keys rows f g from (trip ∷ trips) same =
    let here : f from ≡ g from = same from (omega arith) in
    let rest : feed_trips sort_keys rows f (from + 1) trips ≡ feed_trips sort_keys rows g (from + 1) trips = same_trips sort_keys rows f g (from + 1) trips
    (λ t lt. same t (omega arith)) in
    ap (λ again. record {
      id = trip.id;
      service = trip.service;
      first = (feed_trip sort_keys rows f from trip).first;
      end =
          (feed_trip sort_keys rows f from trip).end;
      repeats = again;
      flex = (feed_trip sort_keys rows f from trip).flex;
    } ∷ feed_trips sort_keys rows f (from + 1) trips)
    here
    ∙ ap (λ rest. feed_trip sort_keys rows g from trip ∷ rest) rest

-- what was judged or made of lists that are those of the tables
pub order_as_given : (placed : List ℕ → Option ℕ) (t : Tables) (rows : List StopTimeRow) (ts : List (Option ℕ)) (order : RowOrder) → rows
    ≡ t.stop_times.rows.items → ts ≡ trips_by placed t
    → IsInOrder ts rows (sort_keys_in ts order rows)
    → IsInOrder (trips_by placed t) t.stop_times.rows.items (sort_keys_in (trips_by placed t) order t.stop_times.rows.items)
order_as_given placed t rows ts order e f is =
    subst (λ (x : List StopTimeRow). IsInOrder (trips_by placed t) x (sort_keys_in (trips_by placed t) order x)) e
    (subst (λ (x : List (Option ℕ)). IsInOrder x rows (sort_keys_in x order rows)) f is)

pub stops_as_given : (named : List ℕ → Option StopIdTarget) (given stops : List StopRow) (r : Option TableFault) → given ≡ stops
    → first_fault_of kinds.Stops (parent_fault named) given ≡ r → first_fault_of kinds.Stops (parent_fault named) stops ≡ r
stops_as_given named given stops r e h = subst (λ (x : List StopRow). first_fault_of kinds.Stops (parent_fault named) x ≡ r) e h

pub times_as_given : (named : List ℕ → Option StopIdTarget) (placed : List ℕ → Option ℕ) (t : Tables) (ts : List (Option ℕ)) (r : Option TableFault) → ts
    ≡ trips_by placed t
    → first_fault_of kinds.StopTimes (λ row. linked_fault ts (stops_by named t) (is_flex_id t.stop_times.rows.items row.trip) row) t.stop_times.rows.items ≡ r
    → first_fault_of kinds.StopTimes (stop_time_fault named placed t) t.stop_times.rows.items ≡ r
times_as_given named placed t ts r e h = subst (λ (x : List (Option ℕ)). first_fault_of kinds.StopTimes
    (λ row. linked_fault x (stops_by named t) (is_flex_id t.stop_times.rows.items row.trip) row) t.stop_times.rows.items ≡ r) e h

pub rows_as_given : (ts trips : List (Option ℕ)) (ss stops : List (Option StopIdTarget)) (order : RowOrder) (rows made : List StopTimeRow)
    → ts ≡ trips → ss ≡ stops → made ≡ linked_by ts ss order rows → made ≡ linked_by trips stops order rows
rows_as_given ts trips ss stops order rows made e s h = subst (λ (x : List (Option StopIdTarget)). made ≡ linked_by trips x order rows) s
    (subst (λ (x : List (Option ℕ)). made ≡ linked_by x ss order rows) e h)

-- the linked rows' sort keys are those of the rows
pub keys_as_given : (trips : List (Option ℕ)) (stops : List (Option StopIdTarget)) (order : RowOrder) (rows made : List StopTimeRow)
    → made ≡ linked_by trips stops order rows → sort_keys_by order made ≡ sort_keys_in trips order rows
keys_as_given trips stops order rows made h = sort_keys_kept trips stops (λ row. is_flex_id rows row.trip) order rows made h

-- the marks of flex trips, of lists that are those of the tables
pub flex_as_given : (rows : List StopTimeRow) (ts trips : List (Option ℕ)) (given flex : List Bool) → ts ≡ trips → given ≡ flex
    → ((id : ℕ) → id < length trips → slice_index_or flex id false ≡ is_flex_id rows id)
    → (id : ℕ) → id < length ts → slice_index_or given id false ≡ is_flex_id rows id
flex_as_given rows ts trips given flex e f marked id lt =
    let within : id < length trips = subst (λ (x : List (Option ℕ)). id < length x) e lt in
    ap (λ (x : List Bool). slice_index_or x id false) f ∙ marked id within

pub frequencies_as_given : (placed : List ℕ → Option ℕ) (given rows : List FrequencyRow) (r : Option TableFault) → given ≡ rows
    → first_fault_of kinds.Frequencies (frequency_fault placed) given ≡ r → first_fault_of kinds.Frequencies (frequency_fault placed) rows ≡ r
frequencies_as_given placed given rows r e h = subst (λ (x : List FrequencyRow). first_fault_of kinds.Frequencies (frequency_fault placed) x ≡ r) e h

-- functions that agree are one: what holds of the ones holds of the others
both_as_given : (P : (List ℕ → Option StopIdTarget) → (List ℕ → Option ℕ) → Type 0) (f g : List ℕ → Option StopIdTarget) (h k : List ℕ → Option ℕ)
    → ((id : List ℕ) → f id ≡ g id) → ((id : List ℕ) → h id ≡ k id) → P f h → P g k
both_as_given P f g h k e d held = subst (λ (x : List ℕ → Option ℕ). P g x) d_path (subst (λ (x : List ℕ → Option StopIdTarget). P x h) e_path held)
  where
    e_path : f ≡ g
    e_path = λ i id. e id i

    d_path : h ≡ k
    d_path = λ i id. d id i

-- what a call gives of the ones is given of the others
pub links_as_given : (f g : List ℕ → Option StopIdTarget) (h k : List ℕ → Option ℕ) (t : Tables) (r : Result Links TableFault) → ((id : List ℕ) → f id ≡ g id)
    → ((id : List ℕ) → h id ≡ k id) → IfOk r (IsLinked f h t) → IfOk r (IsLinked g k t)
links_as_given f g h k t r = both_as_given (λ x y. IfOk r (IsLinked x y t)) f g h k

pub fault_as_given : (f g : List ℕ → Option StopIdTarget) (h k : List ℕ → Option ℕ) (t : Tables) (r : Result Links TableFault) → ((id : List ℕ) → f id ≡ g id)
    → ((id : List ℕ) → h id ≡ k id)
    → IfErr r (λ fault. fault ≢ no_memory → IsNamingFault f h t fault) → IfErr r (λ fault. fault ≢ no_memory → IsNamingFault g k t fault)
fault_as_given f g h k t r = both_as_given (λ x y. IfErr r (λ fault. fault ≢ no_memory → IsNamingFault x y t fault)) f g h k

pub of_err : {X E : Type 0} (r : Result X E) (fault : E) (Q : E → Type 0) → r ≡ Err fault → IfErr r Q → Q fault
of_err {X = X} {E = E} r fault Q e h = subst (λ (x : Result X E). IfErr x Q) e h

pub of_ok : {X E : Type 0} (r : Result X E) (kept : X) (Q : X → Type 0) → r ≡ Ok kept → IfOk r Q → Q kept
of_ok {X = X} {E = E} r kept Q e h = subst (λ (x : Result X E). IfOk x Q) e h

-- what is said of trips, by sort keys and rows that are others'
pub trips_as_given : (strict : Bool) (given sort_keys : List SortKey) (listed rows : List StopTimeRow) (n : ℕ) (r : Option TableFault) → given ≡ sort_keys
    → listed
    ≡ rows
    → first_below (trip_fault strict given listed) n ≡ r → first_below (trip_fault strict sort_keys rows) n ≡ r
trips_as_given strict given sort_keys listed rows n r e f h =
    subst (λ (x : List SortKey). first_below (trip_fault strict x rows) n ≡ r) e
    (subst (λ (x : List StopTimeRow). first_below (trip_fault strict given x) n ≡ r) f h)

pub trips_made : (given sort_keys : List SortKey) (listed rows : List StopTimeRow) (marked repeats : List Bool) (trips : List TripRow) (made : List Trip)
    → given ≡ sort_keys → listed ≡ rows → marked ≡ repeats → made ≡ feed_trips given listed (λ t. slice_index_or marked t false) 0 trips
    → made ≡ feed_trips sort_keys rows (λ t. slice_index_or repeats t false) 0 trips
trips_made given sort_keys listed rows marked repeats trips made e d m h =
    subst (λ (x : List SortKey). made ≡ feed_trips x rows (λ t. slice_index_or repeats t false) 0 trips) e
    (subst (λ (x : List StopTimeRow). made ≡ feed_trips given x (λ t. slice_index_or repeats t false) 0 trips) d
    (subst (λ (x : List Bool). made ≡ feed_trips given listed (λ t. slice_index_or x t false) 0 trips) m h))

-- what links tell of the tables whose ids they link
module _ (strict : Bool) (t : Tables) (links : Links) (linked : IsLinked (stop_named t.stops.items) (trip_named t.trips.items) t links) where
  sort_keys_are : sort_keys_in links.names.trips.items links.order t.stop_times.rows.items
      ≡ sort_keys_in (trips_by (trip_named t.trips.items) t) links.order t.stop_times.rows.items
  sort_keys_are = ap (λ (x : List (Option ℕ)). sort_keys_in x links.order t.stop_times.rows.items) linked.trips

  pub rows_are : linked_by links.names.trips.items links.names.stops.items links.order t.stop_times.rows.items
      ≡ rows_by (stop_named t.stops.items) (trip_named t.trips.items) t (sort_keys_in (trips_by (trip_named t.trips.items) t) links.order
      t.stop_times.rows.items)
  rows_are = rows_as_given links.names.trips.items (trips_by (trip_named t.trips.items) t) links.names.stops.items (stops_by (stop_named t.stops.items) t)
      links.order t.stop_times.rows.items (linked_by links.names.trips.items links.names.stops.items links.order t.stop_times.rows.items)
      linked.trips linked.stops refl

  -- the first fault of the trips' times
  judged : (r : Option TableFault) → first_below (trip_fault strict (sort_keys_in links.names.trips.items links.order t.stop_times.rows.items)
      (linked_by links.names.trips.items links.names.stops.items links.order t.stop_times.rows.items)) (length t.trips.items) ≡ r
      → first_below (trip_fault strict (sort_keys_in (trips_by (trip_named t.trips.items) t) links.order t.stop_times.rows.items)
      (rows_by (stop_named t.stops.items) (trip_named t.trips.items) t (sort_keys_in (trips_by (trip_named t.trips.items) t) links.order
      t.stop_times.rows.items)))
      (length t.trips.items) ≡ r
  judged r h = trips_as_given strict (sort_keys_in links.names.trips.items links.order t.stop_times.rows.items)
      (sort_keys_in (trips_by (trip_named t.trips.items) t) links.order t.stop_times.rows.items)
      (linked_by links.names.trips.items links.names.stops.items links.order t.stop_times.rows.items)
      (rows_by (stop_named t.stops.items) (trip_named t.trips.items) t (sort_keys_in (trips_by (trip_named t.trips.items) t) links.order
      t.stop_times.rows.items))
      (length t.trips.items) r sort_keys_are rows_are h

  -- a fault of the trips' times
  pub trip_first : (fault : TableFault) → first_below (trip_fault strict (sort_keys_in links.names.trips.items links.order t.stop_times.rows.items)
      (linked_by links.names.trips.items links.names.stops.items links.order t.stop_times.rows.items)) (length t.trips.items) ≡ Some fault
      → IsFirstFault strict t fault
  trip_first fault h = record {
    sort_keys = sort_keys_in (trips_by (trip_named t.trips.items) t) links.order t.stop_times.rows.items;
    in_order = linked.in_order;
    first = of_two _ _ _ fault linked.fine (judged (Some fault) h);
  }

  -- trips whose times have none, and a fault of the transfers
  pub transfer_first : (fault : TableFault) → first_below (trip_fault strict (sort_keys_in links.names.trips.items links.order t.stop_times.rows.items)
      (linked_by links.names.trips.items links.names.stops.items links.order t.stop_times.rows.items)) (length t.trips.items) ≡ None
      → links.transfers ≡ Err fault → fault ≢ no_memory → IsFirstFault strict t fault
  transfer_first fault none is other = record {
    sort_keys = sort_keys_in (trips_by (trip_named t.trips.items) t) links.order t.stop_times.rows.items;
    in_order = linked.in_order;
    first = of_three _ _ _ fault linked.fine (judged None none) (of_err links.transfers fault (λ fault. fault ≢ no_memory
        → first_fault_of kinds.Transfers (transfer_fault (stop_named t.stops.items)) t.transfers.items ≡ Some fault) is linked.transfers_wrong other);
  }

  -- neither of both
  pub none_first : (kept : Vec Transfer) → first_below (trip_fault strict (sort_keys_in links.names.trips.items links.order t.stop_times.rows.items)
      (linked_by links.names.trips.items links.names.stops.items links.order t.stop_times.rows.items)) (length t.trips.items) ≡ None
      → links.transfers ≡ Ok kept → first_fault (stop_named t.stops.items) (trip_named t.trips.items) strict t
      (sort_keys_in (trips_by (trip_named t.trips.items) t) links.order t.stop_times.rows.items) ≡ None
  none_first kept none is = of_none _ _ _ linked.fine (judged None none) (of_ok links.transfers kept
      (λ kept. first_fault_of kinds.Transfers (transfer_fault (stop_named t.stops.items)) t.transfers.items ≡ None) is linked.transfers_fine)

  -- the trips
  pub trips_are : (made : List Trip) → made ≡ feed_trips (sort_keys_in links.names.trips.items links.order t.stop_times.rows.items)
      (linked_by links.names.trips.items links.names.stops.items links.order t.stop_times.rows.items)
      (λ i. slice_index_or links.repeats.items i false) 0 t.trips.items
      → made ≡ feed_trips (sort_keys_in (trips_by (trip_named t.trips.items) t) links.order t.stop_times.rows.items)
      (rows_by (stop_named t.stops.items) (trip_named t.trips.items) t (sort_keys_in (trips_by (trip_named t.trips.items) t) links.order
      t.stop_times.rows.items))
      (is_repeated (trip_named t.trips.items) t.frequencies.items) 0 t.trips.items
  trips_are made h = trips_made (sort_keys_in links.names.trips.items links.order t.stop_times.rows.items)
      (sort_keys_in (trips_by (trip_named t.trips.items) t) links.order t.stop_times.rows.items)
      (linked_by links.names.trips.items links.names.stops.items links.order t.stop_times.rows.items)
      (rows_by (stop_named t.stops.items) (trip_named t.trips.items) t (sort_keys_in (trips_by (trip_named t.trips.items) t) links.order
      t.stop_times.rows.items))
      links.repeats.items links.repeats.items t.trips.items made sort_keys_are rows_are refl h
      ∙ same_trips (sort_keys_in (trips_by (trip_named t.trips.items) t) links.order t.stop_times.rows.items)
      (rows_by (stop_named t.stops.items) (trip_named t.trips.items) t (sort_keys_in (trips_by (trip_named t.trips.items) t) links.order
      t.stop_times.rows.items))
      (λ i. slice_index_or links.repeats.items i false) (is_repeated (trip_named t.trips.items) t.frequencies.items) 0 t.trips.items
      (λ i lt. linked.repeats i (omega arith))
