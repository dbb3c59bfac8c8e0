-- The request of each command, an argument a line: where its value stands, and what it spells.
use Rattle.std.specs.Prelude.{◌≡◌, ◌≢◌, ◌≤◌, ◌⊎◌, ℕ, Bool, true, false, List, [], Option, Some, None, MatchOption, length, codes}
use Rattle.std.specs.Prelude.{IsSome, MatchResult, Result, map, unwrap_or}
use Rattle.std.specs.List.{AllPairs, AllZip}
use Rattle.clap.specs.Walk.{Row, Text, first_of}
use Rattle.command_requests.specs.Naming.{IsWordOf}
use Rattle.clap.specs.Matches.{found_of}
use Rattle.clap.specs.Walk.{rows_of}
use Rattle.clap.specs.declared.parser.matches.ArgMatches.{ArgMatches}
use Rattle.command_requests.specs.declared.plans.PictureRows.{PictureRows}
use Rattle.command_requests.specs.declared.plans.PlanText.{PlanText}
use Rattle.command_requests.specs.declared.plans.Seconds.{Seconds}
use Rattle.command_requests.specs.declared.plans.TableWorkers.{TableWorkers}
use Rattle.command_requests.specs.declared.requests.AnswerForm.{AnswerForm}
use Rattle.command_requests.specs.declared.requests.AnswerForm.TheVariants as answer
use Rattle.command_requests.specs.declared.requests.BuildRequest.{BuildRequest}
use Rattle.command_requests.specs.declared.requests.CommandRequest.{CommandRequest}
use Rattle.command_requests.specs.declared.requests.CommandRequest.TheVariants as command
use Rattle.command_requests.specs.declared.requests.DaysRequest.{DaysRequest}
use Rattle.command_requests.specs.declared.requests.DeparturesForm.{DeparturesForm}
use Rattle.command_requests.specs.declared.requests.DeparturesForm.TheVariants as departures
use Rattle.command_requests.specs.declared.requests.DeparturesRequest.{DeparturesRequest}
use Rattle.command_requests.specs.declared.requests.ImageRequest.{ImageRequest}
use Rattle.command_requests.specs.declared.requests.ImageRequest.TheVariants as over
use Rattle.command_requests.specs.declared.requests.InfoRequest.{InfoRequest}
use Rattle.command_requests.specs.declared.requests.JourneyRequest.{JourneyRequest}
use Rattle.command_requests.specs.declared.requests.MatrixRequest.{MatrixRequest}
use Rattle.command_requests.specs.declared.requests.NamedFolder.{NamedFolder}
use Rattle.command_requests.specs.declared.requests.ProfileRequest.{ProfileRequest}
use Rattle.command_requests.specs.declared.requests.ServeRequest.{ServeRequest}
use Rattle.command_requests.specs.declared.requests.StationsRequest.{StationsRequest}
use Rattle.command_requests.specs.declared.requests.StopsRequest.{StopsRequest}
use Rattle.command_requests.specs.declared.requests.TablesRequest.{TablesRequest}
use Rattle.command_requests.specs.declared.requests.UpgradeRequest.{UpgradeRequest}
use Rattle.criteria.specs.Names.{name_text}
use Rattle.criteria.specs.declared.name.CriterionName.{CriterionName}
use Rattle.command_line.specs.Options.{HasBits, HasClock, HasMaybeText, HasNumber, HasText, Spells, is_given, values_of}
use Rattle.command_line.specs.Values.{SpellsFolder, SpellsZone}
use Rattle.command_line.specs.declared.reading.NoCommand.{NoCommand}
use Rattle.command_line.specs.declared.reading.NoCommand.TheVariants.{Help, Mistake, OutOfMemory}

-- no two of the texts are alike
abbrev pub AreDistinct : List Text → Type 0
AreDistinct texts = AllPairs (λ a b. a ≢ b) texts

module _ (rows : List Row) where
  abbrev pub IsInfo : InfoRequest → Type 0
  IsInfo r = HasText rows (codes "image") r.image.now
      × (r.json ≡ is_given rows (codes "json"))

  -- a text that is looked for; none is the empty one
  abbrev pub text_sought : Text
  text_sought = unwrap_or (first_of (codes "text") rows) []

  abbrev pub IsStops : StopsRequest → Type 0
  IsStops r = HasText rows (codes "image") r.image.now
      × (r.text.now ≡ text_sought)
      × (r.json ≡ is_given rows (codes "json"))

  abbrev pub IsStations : StationsRequest → Type 0
  IsStations r = HasText rows (codes "folder") r.folder.now
      × (r.text.now ≡ text_sought)
      × (r.json ≡ is_given rows (codes "json"))

  abbrev pub IsTables : TablesRequest → Type 0
  IsTables r = HasText rows (codes "folder") r.folder.now
      × (r.all_faults ≡ is_given rows (codes "all-faults"))
      × (r.json ≡ is_given rows (codes "json"))

  abbrev pub IsDays : DaysRequest → Type 0
  IsDays r = HasText rows (codes "folder") r.folder.now
      × (r.json ≡ is_given rows (codes "json"))

  abbrev pub IsUpgrade : UpgradeRequest → Type 0
  IsUpgrade r = HasText rows (codes "image") r.image.now
      × HasText rows (codes "out") r.out.now

  -- the three clocks of a query
  abbrev pub HasTimes : ℕ → ℕ → ℕ → Type 0
  HasTimes after until by = HasClock rows (codes "after") after
      × HasClock rows (codes "until") until
      × HasClock rows (codes "by") by

  abbrev pub IsJourney : JourneyRequest → Type 0
  IsJourney r = HasText rows (codes "image") r.image.now
      × HasText rows (codes "text") r.text.now
      × HasText rows (codes "from") r.question.from.now
      × HasText rows (codes "to") r.question.to.now
      × HasTimes r.question.after r.question.until r.question.by

  -- the flags of a profile
  abbrev pub ProfileFlags : Bool → Bool → Bool → Type 0
  ProfileFlags names json legs = (is_given rows (codes "names") ≡ names)
      × (is_given rows (codes "json") ≡ json)
      × (is_given rows (codes "legs") ≡ legs)

  -- which flags ask for which form; no others stand together
  abbrev pub AsksAnswer : AnswerForm → Type 0
  AsksAnswer answer.Numbers = ProfileFlags false false false
  AsksAnswer answer.Names = ProfileFlags true false false
  AsksAnswer answer.Json = ProfileFlags false true false
  AsksAnswer answer.JsonLegs = ProfileFlags false true true

  -- the flags of departures
  abbrev pub DeparturesFlags : Bool → Bool → Bool → Type 0
  DeparturesFlags summary json no_journeys = (is_given rows (codes "summary") ≡ summary)
      × (is_given rows (codes "json") ≡ json)
      × (is_given rows (codes "no-journeys") ≡ no_journeys)

  abbrev pub AsksDepartures : DeparturesForm → Type 0
  AsksDepartures departures.Journeys = DeparturesFlags false false false
  AsksDepartures departures.Points = DeparturesFlags false false true
  AsksDepartures departures.Summary = DeparturesFlags true false false
  AsksDepartures departures.Json = DeparturesFlags false true false
  AsksDepartures departures.JsonPoints = DeparturesFlags false true true
  AsksDepartures departures.JsonSummary = DeparturesFlags true true false

  abbrev pub HasCriterion : CriterionName → Type 0
  HasCriterion criterion = Spells rows (codes "criterion") (λ text. text ≡ name_text criterion)

  -- at most 1000 stop_ids, in the order in which they are given, no two alike
  abbrev pub HasStops : Text → List Text → Type 0
  HasStops id stops = (stops ≡ values_of rows id) × (length stops ≤ 1000) × AreDistinct stops

  -- without --rows a picture has 200; with it there is a picture
  abbrev pub HasPictureRows : PictureRows → Type 0
  HasPictureRows picture = ((first_of (codes "rows") rows ≡ None) × (picture.number ≡ 200))
      ⊎ (HasNumber rows (codes "rows") picture.number × IsSome (first_of (codes "picture") rows))

  abbrev pub HasProfileOptions : ProfileRequest → Type 0
  HasProfileOptions r = HasText rows (codes "image") r.image.now
      × HasTimes r.after r.until r.by
      × HasCriterion r.criterion
      × AsksAnswer r.form
      × HasMaybeText rows (codes "picture") r.picture
      × HasPictureRows r.rows

  abbrev pub IsProfile : ProfileRequest → Type 0
  IsProfile r = HasStops (codes "from") (map (λ stop. stop.now) r.from.items)
      × HasStops (codes "to") (map (λ stop. stop.now) r.to.items)
      × HasProfileOptions r

  abbrev pub HasDeparturesOptions : DeparturesRequest → Type 0
  HasDeparturesOptions r = HasText rows (codes "image") r.image.now
      × HasTimes r.after r.until r.by
      × HasCriterion r.criterion
      × AsksDepartures r.form
      × HasMaybeText rows (codes "from") r.from

  abbrev pub IsDepartures : DeparturesRequest → Type 0
  IsDepartures r = HasStops (codes "to") (map (λ stop. stop.now) r.to.items)
      × HasDeparturesOptions r

  abbrev pub HasWorkers : Option TableWorkers → Type 0
  HasWorkers None = first_of (codes "workers") rows ≡ None
  HasWorkers (Some workers) = HasNumber rows (codes "workers") workers.number

  abbrev pub IsMatrix : MatrixRequest → Type 0
  IsMatrix r = HasText rows (codes "image") r.image.now
      × HasText rows (codes "out") r.out.now
      × HasText rows (codes "to") r.to.now
      × HasMaybeText rows (codes "from") r.from
      × HasTimes r.after r.until r.by
      × HasCriterion r.criterion
      × (r.each ≡ is_given rows (codes "each"))
      × HasWorkers r.workers
      × (r.progress ≡ is_given rows (codes "progress"))

  abbrev pub HasPlan : Bool → PlanText → Type 0
  HasPlan strict plan = (plan.strict ≡ strict)
      × Spells rows (codes "first") (λ text. IsWordOf text plan.first)
      × HasNumber rows (codes "days") plan.days
      × Spells rows (codes "zone") (λ text. SpellsZone text plan.zone)

  abbrev pub IsBuild : BuildRequest → Type 0
  IsBuild r = HasText rows (codes "folder") r.folder.now
      × HasText rows (codes "out") r.out.now
      × HasPlan (is_given rows (codes "strict")) r.plan
      × (r.progress ≡ is_given rows (codes "progress"))
      × (r.all_faults ≡ is_given rows (codes "all-faults"))
      × (r.json ≡ is_given rows (codes "json"))

  -- a number of seconds that may be left out
  abbrev pub HasSeconds : Text → Option Seconds → Type 0
  HasSeconds id None = first_of id rows ≡ None
  HasSeconds id (Some seconds) = HasBits rows id 32 seconds.number

  -- the folder that each word names, no two by one name
  abbrev pub HasFeeds : List NamedFolder → Type 0
  HasFeeds feeds = AllZip SpellsFolder (values_of rows (codes "feeds")) feeds
      × AreDistinct (map (λ feed. feed.name.now) feeds)

  abbrev pub HasServeOptions : ServeRequest → Type 0
  HasServeOptions r = HasText rows (codes "image") r.image.now
      × HasBits rows (codes "port") 16 r.port
      × HasNumber rows (codes "workers") r.workers.number
      × HasBits rows (codes "sessions") 64 r.sessions
      × (r.legs ≡ is_given rows (codes "legs"))
      × (r.log ≡ is_given rows (codes "log"))
      × HasSeconds (codes "idle") r.idle
      × HasSeconds (codes "longest") r.longest
      × (r.sets ≡ is_given rows (codes "sets"))
      × HasPlan false r.plan

  abbrev pub IsServe : ServeRequest → Type 0
  IsServe r = HasFeeds r.feeds.items × HasServeOptions r

-- the command of this name over an image, with these values, is the request
abbrev pub IsImageRequest : Text → List Row → ImageRequest → Type 0
IsImageRequest name rows (over.Verify image) = (name ≡ codes "verify") × HasText rows (codes "image") image.now
IsImageRequest name rows (over.Info r) = (name ≡ codes "info") × IsInfo rows r
IsImageRequest name rows (over.Journey r) = (name ≡ codes "journey") × IsJourney rows r
IsImageRequest name rows (over.Profile r) = (name ≡ codes "profile") × IsProfile rows r
IsImageRequest name rows (over.Departures r) = (name ≡ codes "departures") × IsDepartures rows r
IsImageRequest name rows (over.Stops r) = (name ≡ codes "stops") × IsStops rows r
IsImageRequest name rows (over.Upgrade r) = (name ≡ codes "upgrade") × IsUpgrade rows r

-- the same of any command
abbrev pub IsRequest : Text → List Row → CommandRequest → Type 0
IsRequest name rows (command.OverImage r) = IsImageRequest name rows r
IsRequest name rows (command.Matrix r) = (name ≡ codes "matrix") × IsMatrix rows r
IsRequest name rows (command.Tables r) = (name ≡ codes "tables") × IsTables rows r
IsRequest name rows (command.Days r) = (name ≡ codes "days") × IsDays rows r
IsRequest name rows (command.Stations r) = (name ≡ codes "stations") × IsStations rows r
IsRequest name rows (command.Build r) = (name ≡ codes "build") × IsBuild rows r
IsRequest name rows (command.Serve r) = (name ≡ codes "serve") × IsServe rows r

-- the request has a list, which takes memory
abbrev pub HasStopList : ImageRequest → Type 0
HasStopList (over.Profile r) = Unit {0}
HasStopList (over.Departures r) = Unit {0}
HasStopList _ = ⊥

abbrev pub HasList : CommandRequest → Type 0
HasList (command.OverImage r) = HasStopList r
HasList (command.Serve r) = Unit {0}
HasList _ = ⊥

-- it is the text of the help, or of the version
abbrev pub IsHelp : NoCommand → Type 0
IsHelp (Help text) = Unit {0}
IsHelp _ = ⊥

-- it is a message about a mistake
abbrev pub IsMistake : NoCommand → Type 0
IsMistake (Mistake text) = Unit {0}
IsMistake _ = ⊥

-- such a one comes; or there is none, as a message says, or memory ran out
abbrev pub Finds : {R : Type 0} → (R → Type 0) → Result R NoCommand → Type 0
Finds {R} Is result = MatchResult result Is (λ fault. (¬ (IsHelp fault)) × (fault ≢ OutOfMemory → (r : R) → ¬ (Is r)))

-- what is read of the values is such a request, or there is none
abbrev pub Reads : {R : Type 0} → (List Row → R → Type 0) → ArgMatches → Option R → Type 0
Reads {R} IsR matches result =
    MatchOption result ((r : R) → ¬ (IsR (rows_of (found_of matches)) r)) (IsR (rows_of (found_of matches)))
