use Rattle.std.proofs.Common.{◌≡◌, ◌+◌, ◌≤◌, ◌<◌, None, false, length, slice_index_or}
use Rattle.std.specs.List.{AllWithin}
use Rattle.gtfs_tables.specs.First.{first_below}
use Rattle.gtfs_tables.specs.Order.{first_row_of, sort_keys_by}
use Rattle.gtfs_tables.specs.Feeds.{feed_trips, trip_fault}
use Rattle.gtfs_tables.proofs.joining.timed_trips.Given as goal

abbrev pub invariant-loop-row : goal.invariant-loop-row
invariant-loop-row l = record {
  index : l.index ≡ length l.yielded;
  left : length l.yielded + length l.row-iterator.rest.items ≡ length l.fn.trips.items;
  within : l.first ≤ length l.rows;
  first : l.first ≡ first_row_of (sort_keys_by l.order l.rows) l.index;
  before : AllWithin (λ sort_key. sort_key.trip < l.index) (sort_keys_by l.order l.rows) 0 l.first;
  fine : first_below (trip_fault l.strict (sort_keys_by l.order l.rows) l.rows) l.index ≡ None;
  timed : l.timed.items ≡ feed_trips (sort_keys_by l.order l.rows) l.rows (λ t. slice_index_or l.repeats t false) 0 l.yielded;
}
