use Rattle.std.proofs.Common.{◌≡◌, ◌≤◌, ◌<◌, length}
use Rattle.std.specs.List.{AllWithin}
use Rattle.gtfs_tables.specs.Feeds.{trip_fault}
use Rattle.gtfs_tables.specs.First.{all_below}
use Rattle.gtfs_tables.specs.Order.{first_row_of, sort_keys_by}
use Rattle.gtfs_tables.proofs.trip_faults.faults_of_trips.Given as goal

abbrev pub invariant-loop-trip : goal.invariant-loop-trip
invariant-loop-trip l = record {
  within : l.first ≤ length l.rows;
  first : l.first ≡ first_row_of (sort_keys_by l.order l.rows) l.trip;
  before : AllWithin (λ sort_key. sort_key.trip < l.trip) (sort_keys_by l.order l.rows) 0 l.first;
  found : l.faults.items ≡ all_below (trip_fault l.strict (sort_keys_by l.order l.rows) l.rows) l.trip;
}
