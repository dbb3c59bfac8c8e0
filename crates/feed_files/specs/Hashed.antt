-- The hash by which a feed's ids are looked up.
use Rattle.std.specs.Prelude.{◌≡◌}
use Rattle.std.specs.HashSet.{hasher_of}
use Rattle.gtfs_rows.specs.declared.id_hash.IdHash.{IdHash}
use Rattle.gtfs_rows.specs.declared.stop_times.StopTimes.{StopTimes}

-- the trip_ids and the stop_ids of stop_times.txt are looked up by this hash
abbrev pub AreHashed : IdHash → StopTimes → Type 0
AreHashed hash times = (hasher_of times.trips ≡ hash) × (hasher_of times.stops ≡ hash)
