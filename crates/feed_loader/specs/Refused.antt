-- Why no image is made of a feed.
use Rattle.std.specs.Prelude.{◌≡◌, ◌≢◌, ◌<◌, ◌≤◌, ◌⊎◌, ℕ, List, length, Bool}
use Rattle.timetable.specs.NamesValue.{NamesValue}
use Rattle.timetable.specs.TimetableValue.{TimetableValue}
use Rattle.timetable.specs.declared.limits.TheConstants.{MAX_FOOTPATHS, MAX_NAME_BYTES, MAX_STOPS, MAX_WALK_SECS}
use Rattle.timetable.specs.declared.network.Connection.{Connection}
use Rattle.timetable.specs.declared.network.Footpath.{Footpath}
use Rattle.image_layout.specs.Image.{IsImage}
use Rattle.image_layout.specs.Spelling.{text}
use Rattle.image_verifier.specs.declared.fault.ImageFault.TheVariants as images
use Rattle.gtfs_rows.specs.declared.fault.FaultKind.TheVariants as kinds
use Rattle.gtfs_rows.specs.declared.fault.Table.TheVariants as tables
use Rattle.gtfs_rows.specs.declared.fault.TableFault.{TableFault}
use Rattle.gtfs_tables.specs.Feeds.{IsJoined, IsFirstFault}
use Rattle.gtfs_tables.specs.First.{no_memory}
use Rattle.gtfs_tables.specs.declared.tables.Feed.{Feed}
use Rattle.gtfs_tables.specs.declared.tables.Tables.{Tables}
use Rattle.feed_files.specs.Reading.{Content, HoldsTables, NoTables}
use Rattle.feed_files.specs.declared.reading.ReadFault.{ReadFault}
use Rattle.footpaths.specs.Closure.{IsFault}
use Rattle.footpaths.specs.declared.fault.FootFault.{FootFault}
use Rattle.footpaths.specs.declared.fault.FootFault.TheVariants as paths
use Rattle.service_days.specs.declared.fault.DayFault.TheVariants as days
use Rattle.connections.specs.Days.{days_from}
use Rattle.connections.specs.Outcome.{IsFirstRefusal, IsListing, RanOut}
use Rattle.connections.specs.declared.fault.RunsFault.{RunsFault}
use Rattle.connections.specs.declared.report.Report.{Report}
use Rattle.connections.specs.declared.runs.Run.{Run}
use Rattle.feed_loader.specs.Faults.{load_fault_of_read, load_fault_of_runs, out_of_memory, too_many}
use Rattle.feed_loader.specs.Loaded.{AreFeedPaths, AreNames, IsMade}
use Rattle.feed_loader.specs.declared.fault.LoadFault.{LoadFault}
use Rattle.feed_loader.specs.declared.fault.LoadFault.TheVariants as faults
use Rattle.feed_loader.specs.declared.plan.Plan.{Plan}

-- memory ran out
abbrev pub IsWantOfMemory : LoadFault → Type 0
IsWantOfMemory (faults.Table fault) = fault.kind ≡ kinds.OutOfMemory
IsWantOfMemory (faults.Day fault) = fault ≡ days.OutOfMemory
IsWantOfMemory (faults.Range range) = ⊥
IsWantOfMemory (faults.Footpaths fault) = fault ≡ paths.OutOfMemory
IsWantOfMemory (faults.Image fault) = fault ≡ images.OutOfMemory
IsWantOfMemory (faults.FileFailed table) = ⊥

-- there are too many stops
pub record AreTooManyStops (feed : Feed) (fault : LoadFault) : Type 0 where
  pub is : fault ≡ too_many tables.Stops
  pub many : MAX_STOPS < length feed.stops.items

-- the runs or their connections are refused
pub record AreRunsRefused (feed : Feed) (plan : Plan) (fault : LoadFault) : Type 0 where
  pub refusal : RunsFault
  pub is : fault ≡ load_fault_of_runs refusal
  pub few_stops : length feed.stops.items ≤ MAX_STOPS
  pub first : IsFirstRefusal feed plan.zone plan.first_day plan.days refusal

-- the runs and connections aren't refused, and these are the names
pub record IsNamed (feed : Feed) (plan : Plan) (names : NamesValue) : Type 0 where
  pub connections : List Connection
  pub runs : List Run
  pub few_stops : length feed.stops.items ≤ MAX_STOPS
  pub listing : IsListing feed plan.zone plan.first_day plan.days connections runs
  pub names_are : AreNames feed plan runs names

-- the names are too long together
pub record AreNamesTooLong (feed : Feed) (plan : Plan) (fault : LoadFault) : Type 0 where
  pub is : fault ≡ too_many tables.Trips
  pub names : NamesValue
  pub named : IsNamed feed plan names
  pub long : MAX_NAME_BYTES < length (text names)

-- the fault is that of the closure of these footpaths
abbrev pub IsTooLarge : List Footpath → FootFault → Type 0
IsTooLarge listed fault = (fault ≢ paths.OutOfMemory) × IsFault listed MAX_FOOTPATHS MAX_WALK_SECS fault

-- there is no memory for the words of an image, or, once they are written, for their verification
abbrev pub HasNoMemory : TimetableValue → NamesValue → LoadFault → Type 0
HasNoMemory t names fault =
    (fault ≡ out_of_memory tables.Trips) ⊎ ((fault ≡ faults.Image images.OutOfMemory) × (words : List ℕ) × IsImage words t names)

-- the closure has too many footpaths, or one that takes too long
pub record AreFootpathsRefused (feed : Feed) (plan : Plan) (fault : LoadFault) : Type 0 where
  pub refusal : FootFault
  pub is : fault ≡ faults.Footpaths refusal
  pub names : NamesValue
  pub named : IsNamed feed plan names
  pub short : length (text names) ≤ MAX_NAME_BYTES
  pub listed : List Footpath
  pub listed_are : AreFeedPaths feed listed
  pub too_large : IsTooLarge listed refusal

-- ---- what memory ran out for while an image was made of a joined feed: each part comes once those before it have their results

-- for the days (23), or the runs and their connections (17 of stop_times.txt)
pub record RanOutForRuns (feed : Feed) (plan : Plan) (fault : LoadFault) : Type 0 where
  pub refusal : RunsFault
  pub is : fault ≡ load_fault_of_runs refusal
  pub few_stops : length feed.stops.items ≤ MAX_STOPS
  pub ran_out : RanOut plan.zone (days_from plan.first_day plan.days) refusal

-- for the names of the stops or of the runs (17 of stops.txt or trips.txt)
abbrev pub IsNamesMemory : LoadFault → Type 0
IsNamesMemory fault = (fault ≡ out_of_memory tables.Stops) ⊎ (fault ≡ out_of_memory tables.Trips)

-- for names that aren't too long, or, once they are made, for the footpaths (43)
pub record RanOutForNames (feed : Feed) (plan : Plan) (fault : LoadFault) : Type 0 where
  pub names : NamesValue
  pub named : IsNamed feed plan names
  pub short : length (text names) ≤ MAX_NAME_BYTES
  pub is : IsNamesMemory fault ⊎ (fault ≡ faults.Footpaths paths.OutOfMemory)

-- for the image of a timetable that was made: its words (17 of trips.txt), or, once they are written, their verification (76)
pub record RanOutForImage (feed : Feed) (plan : Plan) (fault : LoadFault) : Type 0 where
  pub t : TimetableValue
  pub names : NamesValue
  pub report : Report
  pub made : IsMade feed plan t names report
  pub is : HasNoMemory t names fault

-- memory ran out for one of these parts
abbrev pub RunsOut : Feed → Plan → LoadFault → Type 0
RunsOut feed plan fault = RanOutForRuns feed plan fault ⊎ (RanOutForNames feed plan fault ⊎ RanOutForImage feed plan fault)

-- why there are no names: memory ran out for them, or they are too long together
pub record AreNamesRefused (feed : Feed) (plan : Plan) (runs : List Run) (fault : LoadFault) : Type 0 where
  pub names : NamesValue
  pub names_are : AreNames feed plan runs names
  pub why : (IsNamesMemory fault × (length (text names) ≤ MAX_NAME_BYTES)) ⊎ ((fault ≡ too_many tables.Trips) × (MAX_NAME_BYTES < length (text names)))

-- the first thing that is wrong with a joined feed: its number of stops, then its runs, then their names, then the footpaths
abbrev pub IsFeedRefusal : Feed → Plan → LoadFault → Type 0
IsFeedRefusal feed plan fault =
    AreTooManyStops feed fault ⊎ (AreRunsRefused feed plan fault ⊎ (AreNamesTooLong feed plan fault ⊎ AreFootpathsRefused feed plan fault))

-- the files are refused, or one can't be read
pub record AreFilesRefused (content : Content) (fault : LoadFault) : Type 0 where
  pub refusal : ReadFault
  pub is : fault ≡ load_fault_of_read refusal
  pub first : NoTables content refusal

-- the tables of the files don't join
pub record AreTablesRefused (content : Content) (strict : Bool) (fault : LoadFault) : Type 0 where
  pub t : Tables
  pub held : HoldsTables content t
  pub refusal : TableFault
  pub is : fault ≡ faults.Table refusal
  pub first : IsFirstFault strict t refusal

-- a feed is joined from the files
pub record IsRead (content : Content) (strict : Bool) (feed : Feed) : Type 0 where
  pub t : Tables
  pub held : HoldsTables content t
  pub joined : IsJoined strict t feed

-- a feed is joined from the files, but no image is made of it
pub record IsFeedRefused (content : Content) (plan : Plan) (fault : LoadFault) : Type 0 where
  pub feed : Feed
  pub read : IsRead content plan.strict feed
  pub first : IsFeedRefusal feed plan fault

-- the first thing that is wrong: when files are read, when their tables are joined, or when the image is made
abbrev pub IsLoadRefusal : Content → Plan → LoadFault → Type 0
IsLoadRefusal content plan fault = AreFilesRefused content fault ⊎ (AreTablesRefused content plan.strict fault ⊎ IsFeedRefused content plan fault)

-- these are the timetable, the names and the counts of a feed that is joined from the files
pub record IsLoaded (content : Content) (plan : Plan) (t : TimetableValue) (names : NamesValue) (report : Report) : Type 0 where
  pub feed : Feed
  pub read : IsRead content plan.strict feed
  pub made : IsMade feed plan t names report

-- the tables of the files aren't joined: memory ran out (17 of stop_times.txt), or the fault is their first
pub record AreNotJoined (content : Content) (strict : Bool) (fault : LoadFault) : Type 0 where
  pub t : Tables
  pub held : HoldsTables content t
  pub refusal : TableFault
  pub is : fault ≡ faults.Table refusal
  pub first : refusal ≢ no_memory → IsFirstFault strict t refusal

-- no image is made of the feed that is joined from the files: memory ran out, or the fault is the feed's first
pub record IsNotMade (content : Content) (plan : Plan) (fault : LoadFault) : Type 0 where
  pub feed : Feed
  pub read : IsRead content plan.strict feed
  pub why : RunsOut feed plan fault ⊎ IsFeedRefusal feed plan fault

-- why a load ends without an image: when a file was read, and nothing is wrong with the files before it (17 of that file if memory ran out); when their
-- tables were joined; or when the image was made
abbrev pub IsLoadEnd : Content → Plan → LoadFault → Type 0
IsLoadEnd content plan fault = AreFilesRefused content fault ⊎ (AreNotJoined content plan.strict fault ⊎ IsNotMade content plan fault)
