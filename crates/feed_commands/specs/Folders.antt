-- What a command reads from a folder.
use Rattle.std.specs.Prelude.{◌⊎◌, ℕ, ℤ, List, [], All, Bool, Err, Option, false, true}
use Rattle.connections.specs.declared.report.Report.{Report}
use Rattle.feed_days.specs.Days.{AreDayLines, IsDaysJson}
use Rattle.feed_files.specs.Files.{FileRead, Gives, MayBeRead, MayFail}
use Rattle.feed_files.specs.Reading.{Content, HoldsTables}
use Rattle.feed_files.specs.Reads.{AreRead, MayHold, SomeWereRead, all_tables}
use Rattle.feed_files.specs.declared.disk.NodeState.{NodeState}
use Rattle.feed_loader.specs.Faults.{failed_by}
use Rattle.feed_loader.specs.Refused.{AreFilesRefused, AreTablesRefused, IsLoadRefusal, IsLoaded}
use Rattle.feed_loader.specs.declared.fault.LoadFault.{LoadFault}
use Rattle.feed_loader.specs.declared.plan.Plan.{Plan}
use Rattle.feed_plans.specs.Zoning.{IsNoZoneOf, IsPlanAskedBy}
use Rattle.gtfs_rows.specs.declared.fault.Table.{Table}
use Rattle.command_requests.specs.declared.plans.PlanText.{PlanText}
use Rattle.gtfs_tables.specs.Feeds.{IsJoined}
use Rattle.gtfs_tables.specs.declared.tables.Feed.{Feed}
use Rattle.gtfs_tables.specs.declared.tables.Tables.{Tables}
use Rattle.timetable.specs.NamesValue.{NamesValue}
use Rattle.timetable.specs.TimetableValue.{TimetableValue}

-- the first files of a folder were read; in one state of the folder some disk may give what was read, and may fail to read the files that failed; and
-- this holds of every content that agrees with these reads
pub record HoldsOfRead {D : Type 0} (gives : Gives D) (folder : List ℕ) (failed : List (List ℕ)) (Is : Content → Type 0) : Type 0 where
  pub disk : D
  pub state : Option NodeState
  pub reads : List FileRead
  pub first : SomeWereRead [] reads
  pub given : ∥ All (MayBeRead (gives disk folder state)) reads ∥₁
  pub unread : ∥ All (MayFail (gives disk folder state)) failed ∥₁
  pub holds : (content : Content) (ts : List Table) → AreRead content ts [] reads → Is content

-- the names of the files whose reads failed, once a load has ended with this fault
abbrev pub failed_as : List (List ℕ) → LoadFault → List (List ℕ)
failed_as before fault = failed_by {T = ℕ} before (Err fault)

-- the first fault of a feed's tables, found as its files are read or as the tables are joined
abbrev pub IsTablesRefusal : LoadFault → Content → Type 0
IsTablesRefusal fault content = AreFilesRefused content fault ⊎ AreTablesRefused content false fault

-- the text is that of the service days of a feed, as JSON or as lines
abbrev pub IsDays : Bool → Feed → List ℕ → Type 0
IsDays true feed text = IsDaysJson feed text
IsDays false feed text = AreDayLines feed text

-- `gives` says what a disk of some kind may give for a folder in some state and the name of a file
module _ {D : Type 0} (gives : Gives D) (folder : List ℕ) where
  -- the files of the folder may hold this content: in one state of the folder some disk may give for each file what the content has of it
  abbrev pub MayBeOf : Content → Type 0
  MayBeOf content = (disk : D) × (state : Option NodeState) × MayHold (gives disk folder state) content all_tables

  -- the tables are those of the folder's files
  abbrev pub AreTablesOf : Tables → Type 0
  AreTablesOf t = (content : Content) × MayBeOf content × HoldsTables content t

  -- the feed is that of the folder's files; its hops may take no time
  abbrev pub IsFeedOf : Feed → Type 0
  IsFeedOf feed = (t : Tables) × AreTablesOf t × IsJoined false t feed

  -- the text is that of the days of the folder's feed
  abbrev pub AreDaysOf : Bool → List ℕ → Type 0
  AreDaysOf json text = (feed : Feed) × IsFeedOf feed × IsDays json feed text

  -- the fault is the first of the folder's tables
  abbrev pub IsTablesRefusalOf : LoadFault → Type 0
  IsTablesRefusalOf fault = HoldsOfRead gives folder (failed_as [] fault) (IsTablesRefusal fault)

  -- the fault is the first of the folder's files by this plan
  abbrev pub IsRefusalBy : Plan → LoadFault → Type 0
  IsRefusalBy plan fault = HoldsOfRead gives folder (failed_as [] fault) (λ content. IsLoadRefusal content plan fault)

  -- `may_hold` says what the zone's file may hold, and `may_show` what the clock may show
  module _ (may_hold : List ℕ → Option (List ℕ) → Type 0) (may_show : Option ℤ → Type 0) where
    -- the timetable, its names and the counts are those of the folder's files, by the plan that was asked for
    abbrev pub IsBuiltFrom : PlanText → TimetableValue → NamesValue → Report → Type 0
    IsBuiltFrom asked t names report =
        (plan : Plan) × (content : Content) × IsPlanAskedBy may_hold may_show asked plan × MayBeOf content × IsLoaded content plan t names report

    -- the fault is that of the zone that was asked for, or the first of the folder's files by the plan that was asked for
    abbrev pub IsBuildRefusal : PlanText → LoadFault → Type 0
    IsBuildRefusal asked fault = IsNoZoneOf may_hold asked fault ⊎ ((plan : Plan) × IsPlanAskedBy may_hold may_show asked plan × IsRefusalBy plan fault)
