-- How a fault is reported: the number and the name of its kind, and the name of the file.
use Rattle.std.specs.Prelude.{ℕ, List, codes}
use Rattle.gtfs_rows.specs.declared.fault.FaultKind.{FaultKind}
use Rattle.gtfs_rows.specs.declared.fault.FaultKind.TheVariants as kinds
use Rattle.gtfs_rows.specs.declared.fault.Table.{Table}
use Rattle.gtfs_rows.specs.declared.fault.Table.TheVariants as tables

-- the number and the name of a kind
abbrev pub numbered_fault : FaultKind → ℕ × List ℕ
numbered_fault kinds.MissingFile = (1, codes "MissingFile")
numbered_fault kinds.MissingColumn = (2, codes "MissingColumn")
numbered_fault kinds.BadUtf8 = (3, codes "BadUtf8")
numbered_fault kinds.RowLength = (4, codes "RowLength")
numbered_fault kinds.BadTime = (5, codes "BadTime")
numbered_fault kinds.BadDate = (6, codes "BadDate")
numbered_fault kinds.BadNumber = (7, codes "BadNumber")
numbered_fault kinds.IdTwice = (8, codes "IdTwice")
numbered_fault kinds.UnknownId = (9, codes "UnknownId")
numbered_fault kinds.ZonesDiffer = (10, codes "ZonesDiffer")
numbered_fault kinds.SequenceTwice = (11, codes "SequenceTwice")
numbered_fault kinds.EndWithoutTime = (12, codes "EndWithoutTime")
numbered_fault kinds.TimeGoesBack = (13, codes "TimeGoesBack")
numbered_fault kinds.HopWithoutDuration = (14, codes "HopWithoutDuration")
numbered_fault kinds.NotAStop = (15, codes "NotAStop")
numbered_fault kinds.TooMany = (16, codes "TooMany")
numbered_fault kinds.OutOfMemory = (17, codes "OutOfMemory")
numbered_fault kinds.BadHeadway = (18, codes "BadHeadway")

-- the name of a table's file
abbrev pub file_name : Table → List ℕ
file_name tables.Agency = codes "agency.txt"
file_name tables.Stops = codes "stops.txt"
file_name tables.Trips = codes "trips.txt"
file_name tables.StopTimes = codes "stop_times.txt"
file_name tables.Calendar = codes "calendar.txt"
file_name tables.CalendarDates = codes "calendar_dates.txt"
file_name tables.Transfers = codes "transfers.txt"
file_name tables.Frequencies = codes "frequencies.txt"
