-- The facts that hold for each feed have at most one proof, so that a ghost field can keep them.
use Rattle.std.specs.Prelude.{◌<◌, ℕ, List, Option, Some, None, IsSomeAnd}
use Rattle.std.specs.Coded.{Unit-prop, le_prop}
use Rattle.std.proofs.Props.{props}
use Rattle.gtfs_rows.specs.declared.rows.StopTimeRow.{StopTimeRow}
use Rattle.gtfs_tables.specs.Joined.{AreRunnable, NameStopsBelow, NamesBelow}
use Rattle.gtfs_tables.specs.declared.tables.TransferEnd.{TransferEnd}
use Rattle.gtfs_tables.specs.declared.tables.TransferEnd.TheVariants as ends
use Rattle.gtfs_tables.specs.declared.tables.Transfer.{Transfer}
use Rattle.gtfs_tables.specs.declared.tables.Trip.{Trip}

stop_prop : (stops : ℕ) (stop : Option ℕ) → IsProp (IsSomeAnd stop (λ s. s < stops))
stop_prop stops None = λ a b. absurd a
stop_prop stops (Some s) = le_prop

end_prop : (stops : ℕ) (end : TransferEnd) → IsProp (NamesBelow stops end)
end_prop stops (ends.Stop stop) = le_prop
end_prop stops (ends.Station station) = Unit-prop

pub AreRunnable-prop : (stops : ℕ) (stop_times : List StopTimeRow) (trips : List Trip) → IsProp (AreRunnable stops stop_times trips)
AreRunnable-prop stops stop_times trips = let stop = stop_prop stops in hlevel (props, stop)

pub NameStopsBelow-prop : (stops : ℕ) (transfers : List Transfer) → IsProp (NameStopsBelow stops transfers)
NameStopsBelow-prop stops transfers = let end = end_prop stops in hlevel (props, end)
