-- What `csa matrix` prints, over which stops, and why it is refused.
use Rattle.std.specs.Prelude.{◌≡◌, ◌≢◌, ◌⊎◌, ◌<◌, ◌≤◌, ◌++◌, ℕ, List, [], ◌∷◌, Option, None, Some, codes, decimal, length}
use Rattle.std.specs.Borrow.{Bor}
use Rattle.std.specs.Global.{Vec}
use Rattle.std.specs.Io.KnownBytes.{Appends}
use Rattle.std.specs.List.{AllZip, range_with_len}
use Rattle.std.specs.Str.Lines.{lines}
use Rattle.std.specs.declared.io.ErrorKind.{ErrorKind}
use Rattle.image_files.specs.Out.{OutFiles}
use Rattle.image_files.specs.declared.names.NameForm.{NameForm}
use Rattle.image_files.specs.Writing.{IsPut, IsUnwritable}
use Rattle.image_layout.specs.Image.{ImageValue}
use Rattle.scan_state.specs.SetQuery.{SetQueryValue}
use Rattle.station_answers.specs.Asking.{HasBadTimes}
use Rattle.timetable.specs.declared.limits.TheConstants.{TIME_END}
use Rattle.timetable.specs.declared.query.QueryFault.TheVariants.{BadWindow}
use Rattle.matrix_rows.specs.Listed.{AreAllNamed, AreListed, HasStopTwice, IsLineTwice, IsUnknownLine}
use Rattle.matrix_rows.specs.Tables.{AreWithin, IsTable, IsTableBegun}
use Rattle.matrix_rows.specs.declared.lists.SetListFault.{SetListFault}
use Rattle.matrix_rows.specs.declared.lists.SetListFault.TheVariants.{Empty, LineTwice, OutOfMemory, StopTwice, UnknownStop}
use Rattle.matrix_rows.specs.declared.table.TravelTable.{TravelTable}
use Rattle.command_requests.specs.declared.requests.MatrixRequest.{MatrixRequest}
use Rattle.command_requests.specs.declared.statuses.TheConstants.{ACCEPTED, COMMAND_LINE, INPUT_OUTPUT, OUT_OF_MEMORY, REFUSED}
use Rattle.command_endings.specs.Ending.{Ends, EndsUndone}
use Rattle.image_files.specs.Texts.{HoldsOfText, IsNoTextAt}
use Rattle.image_files.specs.Watching.{HasFault, IsBegun}
use Rattle.image_commands.specs.Answering.{IsApart, IsOverFile}
use Rattle.image_commands.specs.Departing.{IsListUnreadable}
use Rattle.image_commands.specs.Refusing.{refusal_line}
use Rattle.image_commands.specs.declared.refusal.CommandRefusal.TheVariants.{Query as OfQuery}

-- a list can't be asked for, or else the command ends as others do
abbrev pub EndsUnlisted : ℕ → Type 0
EndsUnlisted status = EndsUndone status ⊎ (status ≡ COMMAND_LINE)

abbrev pub EndsTable : ℕ → Type 0
EndsTable status = Ends status ⊎ (status ≡ COMMAND_LINE)

-- the table was written, or a file or a line can't be, or memory ran out
abbrev pub EndsWritten : ℕ → Type 0
EndsWritten status = (status ≡ ACCEPTED) ⊎ (status ≡ INPUT_OUTPUT) ⊎ (status ≡ OUT_OF_MEMORY)

-- the sets of stops that a list names, one at least
pub record AreListedIn (image : ImageValue) (sets : List (Vec ℕ)) (list : List ℕ) : Type 0 where
  pub listed : AreListed image.names (lines list) sets
  pub within : AreWithin image sets
  pub some : 0 < length sets

-- those that the file at a path names
abbrev pub AreOfList : (List ℕ → Option (List ℕ) → Type 0) → List ℕ → ImageValue → List (Vec ℕ) → Type 0
AreOfList may_hold path image sets = HoldsOfText may_hold path (AreListedIn image sets)

-- those of a file, if one is given, or else a set of each stop, in the image's order
abbrev pub AreSources : (List ℕ → Option (List ℕ) → Type 0) → Option (Bor (List ℕ)) → ImageValue → List (Vec ℕ) → Type 0
AreSources may_hold None image sets = AllZip (λ stop set. set.items ≡ stop ∷ []) (range_with_len 0 image.timetable.stops) sets
AreSources may_hold (Some path) image sets = AreOfList may_hold path.now image sets

-- a list says nothing that can be asked for: it has no line; or all that it has are stop_ids, and one is twice in a line, or a line is there twice
abbrev pub IsNoList : ImageValue → List ℕ → Type 0
IsNoList image list =
    (lines list ≡ [])
    ⊎ (AreAllNamed image.names (lines list)
    × (((number : ℕ) × HasStopTwice (lines list) number) ⊎ ((first : ℕ) × (second : ℕ) × IsLineTwice (lines list) first second)))

-- a line of a list has what is no stop_id
abbrev pub HasUnknown : ImageValue → List ℕ → Type 0
HasUnknown image list = (number : ℕ) × IsUnknownLine image.names (lines list) number

-- the status for a list that doesn't say which stops are meant
abbrev pub fault_status : SetListFault → ℕ
fault_status (UnknownStop number) = REFUSED
fault_status (StopTwice number) = COMMAND_LINE
fault_status (LineTwice first second) = COMMAND_LINE
fault_status Empty = COMMAND_LINE
fault_status OutOfMemory = OUT_OF_MEMORY

-- why a list doesn't say which stops are meant, by the status
pub record IsUnlistedIn (image : ImageValue) (list : List ℕ) (status : ℕ) : Type 0 where
  pub ends : EndsUnlisted status
  pub unknown : status ≡ REFUSED → HasUnknown image list
  pub bad : status ≡ COMMAND_LINE → IsNoList image list
  pub read : status ≢ INPUT_OUTPUT

-- the same of the file at a path, which may not have been read
pub record IsUnlisted (may_hold : List ℕ → Option (List ℕ) → Type 0) (may_fail : List ℕ → Type 0) (path : List ℕ) (image : ImageValue)
    (status : ℕ) : Type 0 where
  pub ends : EndsUnlisted status
  pub unknown : status ≡ REFUSED → HoldsOfText may_hold path (HasUnknown image)
  pub bad : status ≡ COMMAND_LINE → HoldsOfText may_hold path (IsNoList image)
  pub unread : status ≡ INPUT_OUTPUT → IsNoTextAt may_fail may_hold path

-- the same of the sources: without a file, only memory can run out
abbrev pub AreNoSources : (List ℕ → Option (List ℕ) → Type 0) → (List ℕ → Type 0) → Option (Bor (List ℕ)) → ImageValue → ℕ → Type 0
AreNoSources may_hold may_fail None image status = status ≡ OUT_OF_MEMORY
AreNoSources may_hold may_fail (Some path) image status = IsUnlisted may_hold may_fail path.now image status

-- the list of the targets may not be read, or is no text; or it names some, and that of the sources may not be read, or is no text
abbrev pub AreListsUnreadable : (List ℕ → Type 0) → (List ℕ → Option (List ℕ) → Type 0) → ImageValue → MatrixRequest → Type 0
AreListsUnreadable may_fail may_hold image request =
    IsNoTextAt may_fail may_hold request.to.now
    ⊎ (IsListUnreadable may_fail may_hold request.from × ((targets : List (Vec ℕ)) × AreOfList may_hold request.to.now image targets))

-- Is holds of the list of the targets; or this list names some, and Is holds of that of the sources, if a file is given
abbrev pub HoldsOfList : (List ℕ → Option (List ℕ) → Type 0) → MatrixRequest → ImageValue → (List ℕ → Type 0) → Type 0
HoldsOfList may_hold request image Is =
    HoldsOfText may_hold request.to.now Is
    ⊎ ((targets : List (Vec ℕ)) × (path : Bor (List ℕ)) × AreOfList may_hold request.to.now image targets × (request.from ≡ Some path)
    × HoldsOfText may_hold path.now Is)

-- why it isn't known which stops a request means, by the status
pub record IsUnasked (may_hold : List ℕ → Option (List ℕ) → Type 0) (may_fail : List ℕ → Type 0) (request : MatrixRequest) (image : ImageValue)
    (status : ℕ) : Type 0 where
  pub ends : EndsUnlisted status
  pub unknown : status ≡ REFUSED → HoldsOfList may_hold request image (HasUnknown image)
  pub bad : status ≡ COMMAND_LINE → HoldsOfList may_hold request image (IsNoList image)
  pub unread : status ≡ INPUT_OUTPUT → AreListsUnreadable may_fail may_hold image request

-- how stop_ids are written in a table: in a file as they are, and otherwise as names are written to the output
abbrev pub IsWrittenAt : List ℕ → NameForm → NameForm → Type 0
IsWrittenAt out names written = (out ≡ codes "-" → written ≡ names) × (out ≢ codes "-" → written ≡ NameForm.Raw)

-- a table is the one that is asked for; `names` says how names are written to the output
pub record IsTableOf (may_hold : List ℕ → Option (List ℕ) → Type 0) (names : NameForm) (image : ImageValue) (request : MatrixRequest)
    (table : TravelTable) : Type 0 where
  pub image_is : table.image.now ≡ image
  pub targets : AreOfList may_hold request.to.now image table.targets.now
  pub sources : AreSources may_hold request.from image table.sources.now
  pub times : (table.after ≡ request.after) × (table.until ≡ request.until) × (table.by ≡ request.by)
  pub form : (table.criterion ≡ request.criterion) × (table.each ≡ request.each)
  pub written : IsWrittenAt request.out.now names table.names

-- the earliest departure, the latest one and the latest arrival make a window
pub record HasWindow (request : MatrixRequest) : Type 0 where
  pub window : request.after ≤ request.until
  pub in_time : request.after ≤ request.by
  pub small : (request.after < TIME_END) × (request.until < TIME_END) × (request.by < TIME_END)

-- they make none
abbrev pub HasNoWindow : MatrixRequest → Type 0
HasNoWindow request =
    let b : SetQueryValue = record { sources = []; targets = []; from = request.after; until = request.until; by = request.by } in HasBadTimes b

-- the line that says how many sets of stops a table has
unfoldable pub counts_text : ℕ → ℕ → List ℕ
counts_text targets sources = (codes "targets " ++ decimal targets) ++ (codes " sources " ++ decimal sources) ++ codes "\n"

abbrev pub counts_of : TravelTable → List ℕ
counts_of table = counts_text (length table.targets.now) (length table.sources.now)

-- a table was put at `out`, and its counts were printed; or it was printed itself, if that is `-`
pub record IsTableShown (disk : OutFiles) (table : TravelTable) (out : List ℕ) (before after : Option (List ℕ)) : Type 0 where
  pub shown : out ≡ codes "-" → (text : List ℕ) × IsTable table text × Appends before after text
  pub put : out ≢ codes "-" → (text : List ℕ) × IsTable table text × IsPut disk out text
  pub counted : out ≢ codes "-" → Appends before after (counts_of table)

-- a first part of that was printed; a table in a file is there before its counts are printed
pub record IsShownInPart (disk : OutFiles) (table : TravelTable) (out : List ℕ) (before after : Option (List ℕ)) : Type 0 where
  pub begun : out ≡ codes "-" → IsTableBegun table before after
  pub put : out ≢ codes "-" → (text : List ℕ) × IsTable table text × IsPut disk out text
  pub counted : out ≢ codes "-" → IsBegun before after (counts_of table)

-- the file of a table may be none of those that are read
abbrev pub IsOverNone : OutFiles → MatrixRequest → Type 0
IsOverNone disk request =
    (request.image.now ≢ codes "-" → disk.may_be_apart request.image.now request.out.now)
    × disk.may_be_apart request.to.now request.out.now × IsApart disk request.out.now request.from

-- a table is asked for whose times make a window, and it was printed, or put at its path, where none of the files that are read may be
abbrev pub IsTablePrinted : (List ℕ → Option (List ℕ) → Type 0) → OutFiles → NameForm → ImageValue → MatrixRequest → Option (List ℕ) → Option (List ℕ)
    → Type 0
IsTablePrinted may_hold disk names image request before after =
    HasWindow request × (request.out.now ≢ codes "-" → IsOverNone disk request)
    × ((table : TravelTable) × IsTableOf may_hold names image request table × IsTableShown disk table request.out.now before after)

-- a table is refused for its times, whose line was printed; or these make a window, a line of a list has what is no stop_id, and nothing was printed
abbrev pub IsTableRefused : (List ℕ → Option (List ℕ) → Type 0) → ImageValue → MatrixRequest → Option (List ℕ) → Option (List ℕ) → Type 0
IsTableRefused may_hold image request before after =
    (HasNoWindow request × Appends before after (refusal_line (OfQuery BadWindow)))
    ⊎ (HasWindow request × HoldsOfList may_hold request image (HasUnknown image) × (after ≡ before))

-- the times make a window, but a table can't be asked for because of a list, and nothing was printed
abbrev pub IsTableUnlisted : (List ℕ → Option (List ℕ) → Type 0) → ImageValue → MatrixRequest → Option (List ℕ) → Option (List ℕ) → Type 0
IsTableUnlisted may_hold image request before after = HasWindow request × HoldsOfList may_hold request image (IsNoList image) × (after ≡ before)

-- the file of a table may be one that is read: the image's, or that of a list
abbrev pub IsOverRead : OutFiles → MatrixRequest → Type 0
IsOverRead disk request =
    ((request.image.now ≢ codes "-") × disk.may_be_one request.image.now request.out.now)
    ⊎ disk.may_be_one request.to.now request.out.now ⊎ IsOverFile disk request.out.now request.from

abbrev pub IsTableUnwritable : OutFiles → MatrixRequest → Type 0
IsTableUnwritable disk request = (request.out.now ≢ codes "-") × (IsOverRead disk request ⊎ IsUnwritable disk request.out.now)

-- what was printed of a table if it can't be written: nothing, since its file may not be; or, since the output has a fault, a first part of what is printed
abbrev pub IsCutShort : OutFiles → MatrixRequest → TravelTable → Option ErrorKind → Option (List ℕ) → Option (List ℕ) → Type 0
IsCutShort disk request table fault before after =
    (IsTableUnwritable disk request × (after ≡ before)) ⊎ (HasFault fault × IsShownInPart disk table request.out.now before after)

-- the same of the table that is asked for; or nothing, since a list may not be read, or has what is no stop_id while the output has a fault
abbrev pub IsReadCutShort : (List ℕ → Option (List ℕ) → Type 0) → (List ℕ → Type 0) → OutFiles → NameForm → ImageValue → MatrixRequest
    → Option ErrorKind → Option (List ℕ) → Option (List ℕ) → Type 0
IsReadCutShort may_hold may_fail disk names image request fault before after =
    (AreListsUnreadable may_fail may_hold image request × (after ≡ before))
    ⊎ (HasFault fault × HoldsOfList may_hold request image (HasUnknown image) × (after ≡ before))
    ⊎ ((table : TravelTable) × IsTableOf may_hold names image request table × IsCutShort disk request table fault before after)

-- the same if the times make a window; or they make none, and since the output has a fault a first part of the line for them was printed
abbrev pub IsTableCutShort : (List ℕ → Option (List ℕ) → Type 0) → (List ℕ → Type 0) → OutFiles → NameForm → ImageValue → MatrixRequest
    → Option ErrorKind → Option (List ℕ) → Option (List ℕ) → Type 0
IsTableCutShort may_hold may_fail disk names image request fault before after =
    (HasFault fault × HasNoWindow request × IsBegun before after (refusal_line (OfQuery BadWindow)))
    ⊎ (HasWindow request × IsReadCutShort may_hold may_fail disk names image request fault before after)

-- what was printed of a table if memory ran out: nothing, or its first rows, if it is to be printed itself
abbrev pub IsSpent : TravelTable → List ℕ → Option (List ℕ) → Option (List ℕ) → Type 0
IsSpent table out before after = (after ≡ before) ⊎ ((out ≡ codes "-") × IsTableBegun table before after)

-- the same of the table that is asked for, whose times make a window; or nothing
abbrev pub IsTableSpent : (List ℕ → Option (List ℕ) → Type 0) → NameForm → ImageValue → MatrixRequest → Option (List ℕ) → Option (List ℕ) → Type 0
IsTableSpent may_hold names image request before after =
    (after ≡ before)
    ⊎ (HasWindow request × ((table : TravelTable) × IsTableOf may_hold names image request table × IsSpent table request.out.now before after))
