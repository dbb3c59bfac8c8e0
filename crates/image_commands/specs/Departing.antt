-- What `csa departures` prints of an image.
use Rattle.std.specs.Prelude.{◌≡◌, ◌≢◌, ◌⊎◌, ℕ, List, [], Option, None, Some, map}
use Rattle.std.specs.Borrow.{Bor}
use Rattle.std.specs.Str.Lines.{lines}
use Rattle.std.specs.declared.io.ErrorKind.{ErrorKind}
use Rattle.std.specs.declared.io.ErrorKind.TheVariants as kinds
use Rattle.criteria.specs.declared.name.CriterionName.{CriterionName}
use Rattle.timetable.specs.NamesValue.{NamesValue}
use Rattle.timetable.specs.declared.query.QueryFault.{QueryFault}
use Rattle.image_layout.specs.Image.{ImageValue}
use Rattle.scan_state.specs.SetQuery.{SetQueryValue, IsAskableBetween}
use Rattle.station_answers.specs.Naming.{AsksBetween, IsFaultBetween}
use Rattle.journeys.specs.declared.question.Window.{Window}
use Rattle.answer_replies.specs.Valuing.{arrival_figures, by_arrival, by_trips, by_walking, trips_figures, walking_figures}
use Rattle.command_requests.specs.declared.requests.DeparturesForm.{DeparturesForm}
use Rattle.command_requests.specs.declared.requests.DeparturesRequest.{DeparturesRequest}
use Rattle.command_requests.specs.declared.statuses.TheConstants.{INPUT_OUTPUT, OUT_OF_MEMORY, REFUSED}
use Rattle.departure_lines.specs.Naming.{AreWanted, IsUnknownLine}
use Rattle.departure_lines.specs.Showing.{AreShown, names_of}
use Rattle.departure_lines.specs.declared.stop_lists.WantedStops.{WantedStops}
use Rattle.departure_lines.specs.declared.stop_lists.WantedStops.TheVariants.{All}
use Rattle.image_files.specs.Naming.{printed}
use Rattle.image_files.specs.declared.names.NameForm.{NameForm}
use Rattle.image_files.specs.Texts.{HoldsOfText, IsNoTextAt}
use Rattle.image_commands.specs.Refusing.{refusal_line}
use Rattle.image_commands.specs.declared.refusal.CommandRefusal.TheVariants.{Query}
use Rattle.image_commands.specs.declared.wanted_stops.NoList.{NoList}
use Rattle.image_commands.specs.declared.wanted_stops.NoList.TheVariants.{NotText, UnknownStop, Unreadable, OutOfMemory}

-- the text shows the departures from the stops that are wanted, under the criterion of this name
abbrev pub AreShownBy : CriterionName → DeparturesForm → ImageValue → SetQueryValue → WantedStops → List ℕ → Type 0
AreShownBy CriterionName.Arrival form image b wanted text = AreShown arrival_figures by_arrival form image b wanted text
AreShownBy CriterionName.ArrivalTrips form image b wanted text = AreShown trips_figures by_trips form image b wanted text
AreShownBy CriterionName.ArrivalTripsWalk form image b wanted text = AreShown walking_figures by_walking form image b wanted text

-- the names of the stops to go to, and the window that the command line asks for
abbrev pub targets_asked : DeparturesRequest → List (List ℕ)
targets_asked request = map (λ name. name.now) request.to.items

abbrev pub window_asked : DeparturesRequest → Window
window_asked request = record { from = request.after; until = request.until; by = request.by }

-- why a list that was read names no stops: a line that is reported as unknown, the first one that is no stop_id; or memory ran out
abbrev pub IsUnknown : NamesValue → NoList → List ℕ → Type 0
IsUnknown names (UnknownStop number) list = IsUnknownLine names (lines list) number
IsUnknown names Unreadable list = ⊥
IsUnknown names NotText list = ⊥
IsUnknown names OutOfMemory list = Unit {0}

-- `may_hold` says what a file at a path may hold
module _ (may_hold : List ℕ → Option (List ℕ) → Type 0) where
  -- the stops that are wanted are those that the file at the path names
  abbrev pub IsListed : List ℕ → NamesValue → WantedStops → Type 0
  IsListed path names wanted = HoldsOfText may_hold path (λ list. AreWanted names (lines list) wanted)

  -- .. if a file is given; or else all stops are wanted
  abbrev pub IsWantedFrom : Option (Bor (List ℕ)) → NamesValue → WantedStops → Type 0
  IsWantedFrom None names wanted = wanted ≡ All
  IsWantedFrom (Some path) names wanted = IsListed path.now names wanted

  -- if a line is reported as unknown, it is the first line of the file at the path that is no stop_id; or that file may not be read, or is no text
  abbrev pub IsNoListAt : (List ℕ → Type 0) → List ℕ → NamesValue → NoList → Type 0
  IsNoListAt may_fail path names (UnknownStop number) = HoldsOfText may_hold path (IsUnknown names (UnknownStop number))
  IsNoListAt may_fail path names Unreadable = IsNoTextAt may_fail may_hold path
  IsNoListAt may_fail path names NotText = IsNoTextAt may_fail may_hold path
  IsNoListAt may_fail path names OutOfMemory = Unit {0}

  -- .. if a file is given; or else it is known which stops are wanted
  abbrev pub IsNoListFrom : (List ℕ → Type 0) → Option (Bor (List ℕ)) → NamesValue → NoList → Type 0
  IsNoListFrom may_fail None names failure = ⊥
  IsNoListFrom may_fail (Some path) names failure = IsNoListAt may_fail path.now names failure

  -- a file is given, and has a line that is no stop_id
  abbrev pub HasUnknownFrom : Option (Bor (List ℕ)) → NamesValue → Type 0
  HasUnknownFrom None names = ⊥
  HasUnknownFrom (Some path) names = HoldsOfText may_hold path.now (λ list. (number : ℕ) × IsUnknownLine names (lines list) number)

-- a file is given that may not be read, or is no text
abbrev pub IsListUnreadable : (List ℕ → Type 0) → (List ℕ → Option (List ℕ) → Type 0) → Option (Bor (List ℕ)) → Type 0
IsListUnreadable may_fail may_hold None = ⊥
IsListUnreadable may_fail may_hold (Some path) = IsNoTextAt may_fail may_hold path.now

-- why a list can't be read, by the kind of the error: memory ran out, it isn't UTF-8, or there is another reason
abbrev pub IsUnlisted : ErrorKind → NoList → Type 0
IsUnlisted kind (UnknownStop number) = ⊥
IsUnlisted kind Unreadable = (kind ≢ kinds.OutOfMemory) × (kind ≢ kinds.InvalidData)
IsUnlisted kind NotText = (kind ≢ kinds.OutOfMemory) × (kind ≡ kinds.InvalidData)
IsUnlisted kind OutOfMemory = kind ≡ kinds.OutOfMemory

-- the status if it isn't known which stops are wanted
abbrev pub list_status : NoList → ℕ
list_status (UnknownStop number) = REFUSED
list_status Unreadable = INPUT_OUTPUT
list_status NotText = INPUT_OUTPUT
list_status OutOfMemory = OUT_OF_MEMORY

-- the request asks this question of the image, and it can be asked
abbrev pub AsksOfAll : ImageValue → DeparturesRequest → SetQueryValue → Type 0
AsksOfAll image request b =
    IsAskableBetween image.timetable.stops b × AsksBetween image.names [] (targets_asked request) (window_asked request) b

-- the request can be asked, and its list may not be read, or is no text
abbrev pub LacksList : (List ℕ → Type 0) → (List ℕ → Option (List ℕ) → Type 0) → ImageValue → DeparturesRequest → Type 0
LacksList may_fail may_hold image request = IsListUnreadable may_fail may_hold request.from × ((b : SetQueryValue) × AsksOfAll image request b)

-- the text shows the departures to the stops that are asked for, and which can be asked, from the stops that are wanted, with names in this form in lines
abbrev pub AreAllShown : (List ℕ → Option (List ℕ) → Type 0) → NameForm → ImageValue → DeparturesRequest → List ℕ → Type 0
AreAllShown may_hold names image request text =
    (b : SetQueryValue) × (wanted : WantedStops) × AsksOfAll image request b × IsWantedFrom may_hold request.from image.names wanted
    × AreShownBy request.criterion request.form (printed (names_of request.form names) image) b wanted text

-- the request can't be asked of the image: it has a fault, and this is its line
abbrev pub IsBadQueryOfAll : ImageValue → DeparturesRequest → List ℕ → Type 0
IsBadQueryOfAll image request line =
    (fault : QueryFault) × IsFaultBetween image [] (targets_asked request) (window_asked request) fault × (line ≡ refusal_line (Query fault))

-- the request has such a fault; or it has none, but a file is given that has a line that is no stop_id, and nothing is printed
abbrev pub IsNoneAsked : (List ℕ → Option (List ℕ) → Type 0) → ImageValue → DeparturesRequest → List ℕ → Type 0
IsNoneAsked may_hold image request line =
    IsBadQueryOfAll image request line
    ⊎ ((b : SetQueryValue) × AsksOfAll image request b × HasUnknownFrom may_hold request.from image.names × (line ≡ []))
