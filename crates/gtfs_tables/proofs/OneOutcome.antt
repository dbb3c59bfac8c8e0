-- Tables have at most one feed, at most one first fault, and never both.
use Rattle.std.proofs.Common.{◌≡◌, ◌∙◌, ℕ, List, [], ◌∷◌, Option, Some, None, Bool, length, refl, sym, ap}
use Rattle.std.specs.Prelude.{filter}
use Rattle.std.specs.List.{AllZip, slice_get}
use Rattle.std.specs.String.{string_bytes}
use Rattle.std.proofs.lemmas.Option.{none-some, same_Some}
use Rattle.gtfs_rows.specs.declared.fault.TableFault.{TableFault}
use Rattle.gtfs_rows.specs.declared.rows.TransferRow.{TransferRow}
use Rattle.gtfs_tables.specs.Names.{stop_named, trip_named}
use Rattle.gtfs_tables.specs.Feeds.{IsFirstFault, IsJoined, first_fault, naming_fault, stops_by, trips_by}
use Rattle.gtfs_tables.specs.Rows.{IsTransferOf, is_kept, named_by}
use Rattle.gtfs_tables.specs.Outcome.{IsSameFeed}
use Rattle.gtfs_tables.specs.TimeFaults.{AreTimeFaults}
use Rattle.gtfs_tables.specs.declared.names.StopIdTarget.{StopIdTarget}
use Rattle.gtfs_tables.specs.declared.names.StopIdTarget.TheVariants as names
use Rattle.gtfs_tables.specs.declared.order.SortKey.{SortKey}
use Rattle.gtfs_tables.specs.declared.tables.Feed.{Feed}
use Rattle.gtfs_tables.specs.declared.tables.TransferEnd.{TransferEnd}
use Rattle.gtfs_tables.specs.declared.tables.TransferEnd.TheVariants as indices
use Rattle.gtfs_tables.specs.declared.tables.Tables.{Tables}
use Rattle.gtfs_tables.specs.declared.tables.Transfer.{Transfer}
use Rattle.gtfs_tables.proofs.FirstLemmas.{first_of_all}
use Rattle.gtfs_tables.proofs.JoinLemmas.{of_two}
use Rattle.gtfs_tables.proofs.OneOrder.{one_order}

-- the tables' first fault by the sort keys of the one and of the other
found : Bool → Tables → List SortKey → Option TableFault
found strict t sort_keys = first_fault (stop_named t.stops.items) (trip_named t.trips.items) strict t sort_keys

pub one_fault : (strict : Bool) (t : Tables) (x y : TableFault) → IsFirstFault strict t x → IsFirstFault strict t y → x ≡ y
unfolding found
one_fault strict t x y a b =
    let sort_keys : a.sort_keys ≡ b.sort_keys = one_order (trips_by (trip_named t.trips.items) t) t.stop_times.rows.items a.sort_keys b.sort_keys a.in_order
    b.in_order in
    let first : found strict t a.sort_keys ≡ Some x = a.first in
    let equal_too : found strict t b.sort_keys ≡ Some y = b.first in
    same_Some x y (sym first ∙ ap (found strict t) sort_keys ∙ equal_too)

pub no_fault : (strict : Bool) (t : Tables) (feed : Feed) (x : TableFault) → IsJoined strict t feed → IsFirstFault strict t x → ⊥
unfolding found
no_fault strict t feed x a b =
    let sort_keys : a.sort_keys ≡ b.sort_keys = one_order (trips_by (trip_named t.trips.items) t) t.stop_times.rows.items a.sort_keys b.sort_keys a.in_order
    b.in_order in
    let none : found strict t a.sort_keys ≡ None = a.faultless in
    let first : found strict t b.sort_keys ≡ Some x = b.first in
    none-some x (sym none ∙ ap (found strict t) sort_keys ∙ first)

-- the first of all faults in the times of trips is the tables', if no id is at fault
pub first_time_fault : (strict : Bool) (t : Tables) (faults : List TableFault) (fault : TableFault)
    → naming_fault (stop_named t.stops.items) (trip_named t.trips.items) t ≡ None
    → AreTimeFaults (trips_by (trip_named t.trips.items) t) (stops_by (stop_named t.stops.items) t) t.stop_times.rows.items
    (length t.trips.items) strict faults → slice_get faults 0 ≡ Some fault → IsFirstFault strict t fault
first_time_fault strict t faults fault fine are first = record {
  sort_keys = are.sort_keys;
  in_order = are.in_order;
  first = of_two _ _ _ fault fine (sym (first_of_all _ (length t.trips.items)) ∙ ap (λ (all : List TableFault). slice_get all 0) (sym are.faults_are) ∙ first);
}

-- what stands at an end is known by its name
abbrev index_of : Option StopIdTarget → TransferEnd
index_of None = indices.Stop 0
index_of (Some (names.Stop number)) = indices.Stop number
index_of (Some (names.Station index)) = indices.Station index
index_of (Some names.Elsewhere) = indices.Stop 0

index_back : (p : TransferEnd) → index_of (Some (named_by p)) ≡ p
index_back (indices.Stop number) = refl
index_back (indices.Station index) = refl

one_end : (o : Option StopIdTarget) (p q : TransferEnd) → o ≡ Some (named_by p) → o ≡ Some (named_by q) → p ≡ q
one_end o p q a b = sym (index_back p) ∙ ap index_of (sym a ∙ b) ∙ index_back q

one_transfer : (named : List ℕ → Option StopIdTarget) (row : TransferRow) (a b : Transfer) → IsTransferOf named row a → IsTransferOf named row b → a ≡ b
one_transfer named row a b x y =
    let from : a.from ≡ b.from = one_end (named (string_bytes row.from)) a.from b.from x.from y.from in
    let to : a.to ≡ b.to = one_end (named (string_bytes row.to)) a.to b.to x.to y.to in
    let kind : a.kind ≡ b.kind = x.kind ∙ sym y.kind in
    let seconds : a.seconds ≡ b.seconds = x.seconds ∙ sym y.seconds in
    λ i. record { from = from i; to = to i; kind = kind i; seconds = seconds i }

one_list : (named : List ℕ → Option StopIdTarget) (rows : List TransferRow) (xs ys : List Transfer)
    → AllZip (IsTransferOf named) rows xs → AllZip (IsTransferOf named) rows ys → xs ≡ ys
one_list named [] [] [] a b = refl
one_list named [] [] (y ∷ ys) a b = absurd b
one_list named [] (x ∷ xs) ys a b = absurd a
one_list named (row ∷ rows) [] ys a b = absurd a
one_list named (row ∷ rows) (x ∷ xs) [] a b = absurd b
one_list named (row ∷ rows) (x ∷ xs) (y ∷ ys) a b =
    let first : x ≡ y = one_transfer named row x y a.0 b.0 in
    let rest : xs ≡ ys = one_list named rows xs ys a.1 b.1 in
    λ i. first i ∷ rest i

pub one_feed : (strict : Bool) (t : Tables) (f g : Feed) → IsJoined strict t f → IsJoined strict t g → IsSameFeed f g
one_feed strict t f g a b =
    let sort_keys : a.sort_keys ≡ b.sort_keys = one_order (trips_by (trip_named t.trips.items) t) t.stop_times.rows.items a.sort_keys b.sort_keys a.in_order
    b.in_order in
    record {
      stops = a.feed_is.stops ∙ sym b.feed_is.stops;
      trips = a.feed_is.trips ∙ rw sort_keys (sym b.feed_is.trips);
      stop_times = a.feed_is.stop_times ∙ rw sort_keys (sym b.feed_is.stop_times);
      frequencies = a.feed_is.frequencies ∙ sym b.feed_is.frequencies;
      transfers = one_list (stop_named t.stops.items) (filter is_kept t.transfers.items) f.transfers.items
          g.transfers.items a.feed_is.transfers b.feed_is.transfers;
      skipped = a.feed_is.skipped ∙ sym b.feed_is.skipped;
      calendar = a.feed_is.calendar ∙ sym b.feed_is.calendar;
      calendar_dates = a.feed_is.calendar_dates ∙ sym b.feed_is.calendar_dates;
    }
