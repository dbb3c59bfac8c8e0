-- What `csa stations` prints of a folder's stops.txt.
use Rattle.std.specs.Prelude.{◌≡◌, ◌⊎◌, ℕ, List, Bool, true, false, Option, Some, None, Ok, Err, Vec}
use Rattle.std.specs.declared.alloc.Global.{Global}
use Rattle.feed_files.specs.Files.{FileAnswer, Gives}
use Rattle.feed_files.specs.declared.disk.NodeState.{NodeState}
use Rattle.feed_files.specs.declared.files.FileFault.TheVariants.{Failed}
use Rattle.feed_loader.specs.declared.fault.LoadFault.{LoadFault}
use Rattle.feed_loader.specs.declared.fault.LoadFault.TheVariants.{FileFailed, Table as OfTable}
use Rattle.gtfs_rows.specs.Tables.{HoldsStopsWithin, IsStopsFault}
use Rattle.gtfs_rows.specs.FaultNumber.{file_name}
use Rattle.gtfs_rows.specs.declared.fault.FaultKind.TheVariants.{MissingFile}
use Rattle.gtfs_rows.specs.declared.fault.Table.TheVariants.{Stops}
use Rattle.gtfs_rows.specs.declared.fault.TableFault.{TableFault}
use Rattle.gtfs_rows.specs.declared.limited.TheConstants.{MAX_STOPS}
use Rattle.gtfs_rows.specs.declared.rows.StopRow.{StopRow}
use Rattle.gtfs_tables.specs.First.{first_fault_of}
use Rattle.feed_stations.specs.Choosing.{AreLines, IsJson}
use Rattle.feed_stations.specs.Homes.{AreHomes, orphan_fault, station_named}
use Rattle.feed_stations.specs.Labels.{AreLabels}
use Rattle.feed_stations.specs.declared.stop_table.StopTable.{StopTable}
use Rattle.command_requests.specs.declared.requests.StationsRequest.{StationsRequest}

-- the bytes of stops.txt have no fault, and each parent is a station; these are their rows, the labels of these, and the rows by which they are listed
pub record IsStopTableOf (bytes : List ℕ) (stop_table : StopTable) : Type 0 where
  pub rows : HoldsStopsWithin MAX_STOPS bytes stop_table.rows.items
  pub fine : first_fault_of Stops (orphan_fault (station_named stop_table.rows.items)) stop_table.rows.items ≡ None
  pub homes : AreHomes stop_table.rows.items stop_table.homes.items
  pub labels : AreLabels bytes stop_table.labels.items

-- the first fault of the bytes of stops.txt; or, if they have none, that of the first stop whose parent isn't a station
abbrev pub IsFaultIn : List ℕ → TableFault → Type 0
IsFaultIn bytes fault =
    ((fault.file ≡ Stops) × IsStopsFault MAX_STOPS bytes fault.row fault.kind)
    ⊎ ((rows : List StopRow) × HoldsStopsWithin MAX_STOPS bytes rows × (first_fault_of Stops (orphan_fault (station_named rows)) rows ≡ Some fault))

-- the text is that of the stations and stops in which a text is found, as lines or as JSON
abbrev pub IsTextAsked : Bool → StopTable → List ℕ → List ℕ → Type 0
IsTextAsked true stop_table asked text = IsJson stop_table asked text
IsTextAsked false stop_table asked text = AreLines stop_table asked text

-- `gives` says what a disk of some kind may give for a folder in some state and the name of a file
module _ {D : Type 0} (gives : Gives D) (folder : List ℕ) where
  -- in some state of the folder some disk may give this for its stops.txt
  abbrev pub MayGiveStops : FileAnswer → Type 0
  MayGiveStops answer = (disk : D) × (state : Option NodeState) × gives disk folder state (file_name Stops) answer

  abbrev pub MayHoldStops : List ℕ → Type 0
  MayHoldStops bytes = (file : Vec ℕ Global) × MayGiveStops (Ok (Some file)) × (file.items ≡ bytes)

  -- the table is that of the folder's stops.txt
  abbrev pub IsStopTableIn : StopTable → Type 0
  IsStopTableIn stop_table = (bytes : List ℕ) × MayHoldStops bytes × IsStopTableOf bytes stop_table

  -- the text is the one that is asked for
  abbrev pub IsTextOf : StationsRequest → List ℕ → Type 0
  IsTextOf request text = (stop_table : StopTable) × IsStopTableIn stop_table × IsTextAsked request.json stop_table request.text.now text

  -- the folder has no stops.txt, or one that can't be read, or one with this fault
  abbrev pub IsStopsRefusal : LoadFault → Type 0
  IsStopsRefusal fault =
      (MayGiveStops (Ok None) × (fault ≡ OfTable (record { file = Stops; row = 0; kind = MissingFile })))
      ⊎ (MayGiveStops (Err Failed) × (fault ≡ FileFailed Stops))
      ⊎ ((refusal : TableFault) × (bytes : List ℕ) × MayHoldStops bytes × IsFaultIn bytes refusal × (fault ≡ OfTable refusal))
