-- Why runs are refused.
use Rattle.gtfs_rows.specs.declared.fault.FaultKind.TheVariants.{OutOfMemory as TableMemory, TooMany}
use Rattle.gtfs_rows.specs.declared.fault.Table.{Table}
use Rattle.gtfs_rows.specs.declared.fault.Table.TheVariants as tables
use Rattle.gtfs_rows.specs.declared.values.Day.{Day}
use Rattle.service_days.specs.declared.fault.DayFault.TheVariants.{OutOfMemory as DayMemory}
use Rattle.connections.specs.declared.fault.OutOfRange.TheVariants as ranges
use Rattle.connections.specs.declared.fault.RunsFault.{RunsFault}
use Rattle.connections.specs.declared.fault.RunsFault.TheVariants as faults
use Rattle.connections.specs.declared.runs.Run.{Run}

-- there are too many runs (trips.txt) or connections (stop_times.txt)
abbrev pub too_many_of : Table → RunsFault
too_many_of table = faults.Table (record { file = table; row = 0; kind = TooMany })

-- a day has no start
abbrev pub day_fault : Day → RunsFault
day_fault day = faults.Range (ranges.Day day)

-- a time of a run is out of range
abbrev pub run_fault : Run → RunsFault
run_fault run = faults.Range (ranges.Run run)

-- memory ran out for the days
abbrev pub no_memory_for_days : RunsFault
no_memory_for_days = faults.Day DayMemory

-- memory ran out for the runs or their connections: stop_times.txt is named
abbrev pub no_memory_for_runs : RunsFault
no_memory_for_runs = faults.Table (record { file = tables.StopTimes; row = 0; kind = TableMemory })
