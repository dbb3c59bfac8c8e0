-- What `csa profile` prints.
use Rattle.std.specs.Prelude.{◌≡◌, ◌≢◌, ◌⊎◌, ℕ, List, Option, None, Some, Result, Ok, Err, Contains, String, codes, length, map}
use Rattle.std.specs.Prelude.{string_bytes}
use Rattle.std.specs.Borrow.{Bor}
use Rattle.std.specs.declared.alloc.Global.{Global}
use Rattle.criteria.specs.Laws.{Rules}
use Rattle.criteria.specs.declared.name.CriterionName.{CriterionName}
use Rattle.criteria.specs.declared.figures.Figures.{Figures}
use Rattle.timetable.specs.declared.query.QueryFault.{QueryFault}
use Rattle.image_files.specs.Out.{OutFiles}
use Rattle.image_files.specs.declared.names.NameForm.{NameForm}
use Rattle.image_files.specs.Writing.{IsPutInto, IsUnwritableInto}
use Rattle.image_layout.specs.Image.{ImageValue}
use Rattle.journeys.specs.Answer.{point_of}
use Rattle.journeys.specs.Extracted.{AttainsBetween}
use Rattle.journeys.specs.declared.answering.Departure.{Departure}
use Rattle.journeys.specs.declared.question.Window.{Window}
use Rattle.scan_state.specs.SetQuery.{SetQueryValue, IsAnswerBetween, IsAskableBetween}
use Rattle.answer_replies.specs.Valuing.{arrival_figures, by_arrival, by_trips, by_walking, trips_figures, walking_figures}
use Rattle.station_answers.specs.Naming.{AsksBetween, IsFaultBetween}
use Rattle.station_answers.specs.Reading.{window_between}
use Rattle.station_answers.specs.Walks.{IsDirectTime}
use Rattle.station_answers.specs.declared.naming.NoQuestion.{NoQuestion}
use Rattle.station_answers.specs.declared.naming.NoQuestion.TheVariants.{Bad, OutOfMemory}
use Rattle.command_requests.specs.declared.requests.ProfileRequest.{ProfileRequest}
use Rattle.image_commands.specs.Listing.{IsInForm}
use Rattle.image_commands.specs.Picturing.{IsDrawn}
use Rattle.image_commands.specs.Refusing.{refusal_line}
use Rattle.image_commands.specs.declared.profile.Profile.{Profile}
use Rattle.image_commands.specs.declared.refusal.CommandRefusal.TheVariants.{Query as OfQuery}

-- the question is answered: the departures' points are exactly the undominated points of all journeys that count for any of its pairs, in order, each once,
-- and each departure has a journey that attains its point for one of the pairs, and whose last walk isn't from a target. The text shows the departures and
-- the direct walk, and in lines also how many connections the window has. A picture, if one is asked for, shows the same departures. Between a single stop and
-- a single other this is the answer of the plain query (the law `one_is_plain` of profile_scan)
pub record IsShown {V : Type 0} (figures : V → Figures) (rules : Rules V) (names : NameForm) (request : ProfileRequest) (image : ImageValue)
    (b : SetQueryValue) (profile : Profile) : Type 0 where
  pub departures : List (Departure V)
  pub walk : Option ℕ
  pub answer : IsAnswerBetween rules image.timetable b (map point_of departures)
  pub attained : (departure : Departure V) → Contains departures departure
      → AttainsBetween rules image.timetable b (point_of departure) departure.journey
  pub direct : IsDirectTime image.timetable b walk
  pub text_is : IsInForm figures names image request.form departures (length (window_between image.timetable b)) walk (string_bytes profile.text)
  pub drawn : IsDrawn figures image request b departures walk profile.picture

-- the question is answered under the criterion of this name
abbrev pub IsShownBy : CriterionName → NameForm → ProfileRequest → ImageValue → SetQueryValue → Profile → Type 0
IsShownBy CriterionName.Arrival names request image b profile = IsShown arrival_figures by_arrival names request image b profile
IsShownBy CriterionName.ArrivalTrips names request image b profile = IsShown trips_figures by_trips names request image b profile
IsShownBy CriterionName.ArrivalTripsWalk names request image b profile = IsShown walking_figures by_walking names request image b profile

-- the names of the stops on each side, and the window
abbrev pub names_from : ProfileRequest → List (List ℕ)
names_from request = map (λ name. name.now) request.from.items

abbrev pub names_to : ProfileRequest → List (List ℕ)
names_to request = map (λ name. name.now) request.to.items

abbrev pub window_of_profile : ProfileRequest → Window
window_of_profile request = record { from = request.after; until = request.until; by = request.by }

-- the request makes a question that can be asked of the image, and the profile answers it, with names in this form in lines
pub record AnswersRequest (names : NameForm) (image : ImageValue) (request : ProfileRequest) (profile : Profile) : Type 0 where
  pub question : SetQueryValue
  pub askable : IsAskableBetween image.timetable.stops question
  pub asks : AsksBetween image.names (names_from request) (names_to request) (window_of_profile request) question
  pub shown : IsShownBy request.criterion names request image question profile

-- the request makes no question of the image: it has this fault
abbrev pub HasFault : ImageValue → ProfileRequest → QueryFault → Type 0
HasFault image request fault = IsFaultBetween image (names_from request) (names_to request) (window_of_profile request) fault

-- the answer, or why there is none
abbrev pub IsProfile : NameForm → ImageValue → ProfileRequest → Result Profile NoQuestion → Type 0
IsProfile names image request (Ok profile) = AnswersRequest names image request profile
IsProfile names image request (Err (Bad fault)) = HasFault image request fault
IsProfile names image request (Err OutOfMemory) = Unit {0}

-- the picture, if there is one and it is asked for, was put into the file at its path
abbrev pub IsPicturePut : OutFiles → Option (Bor (List ℕ)) → Option (String Global) → Type 0
IsPicturePut disk None picture = Unit {0}
IsPicturePut disk (Some path) None = Unit {0}
IsPicturePut disk (Some path) (Some picture) = IsPutInto disk path.now (string_bytes picture)

-- a picture is asked for, and may not be written into the file at its path
abbrev pub IsPictureUnwritten : OutFiles → Option (Bor (List ℕ)) → Type 0
IsPictureUnwritten disk None = ⊥
IsPictureUnwritten disk (Some path) = IsUnwritableInto disk path.now

-- a path is given at which may be the file that is at the other path
abbrev pub IsOverFile : OutFiles → List ℕ → Option (Bor (List ℕ)) → Type 0
IsOverFile disk other None = ⊥
IsOverFile disk other (Some path) = disk.may_be_one path.now other

-- at a path, if one is given, may not be the file that is at the other path
abbrev pub IsApart : OutFiles → List ℕ → Option (Bor (List ℕ)) → Type 0
IsApart disk other None = Unit {0}
IsApart disk other (Some path) = disk.may_be_apart path.now other

-- the image is no input, and its file may be the one at a path
abbrev pub IsOverImage : OutFiles → List ℕ → Option (Bor (List ℕ)) → Type 0
IsOverImage disk image path = (image ≢ codes "-") × IsOverFile disk image path

-- a picture that is asked for was put into its file, which isn't that of the image
abbrev pub IsPictureAt : OutFiles → List ℕ → Option (Bor (List ℕ)) → Option (String Global) → Type 0
IsPictureAt disk image path picture = (image ≢ codes "-" → IsApart disk image path) × IsPicturePut disk path picture

abbrev pub IsPictureUnwritable : OutFiles → List ℕ → Option (Bor (List ℕ)) → Type 0
IsPictureUnwritable disk image picture = IsPictureUnwritten disk picture ⊎ IsOverImage disk image picture

-- the question is answered, and its picture may not be written
abbrev pub LacksPicture : OutFiles → ImageValue → ProfileRequest → Type 0
LacksPicture disk image request =
    IsPictureUnwritable disk request.image.now request.picture × ((names : NameForm) × (profile : Profile) × AnswersRequest names image request profile)

-- the text is that of an answer, whose picture, if one is asked for, is in its file
abbrev pub IsAnswered : OutFiles → NameForm → ImageValue → ProfileRequest → List ℕ → Type 0
IsAnswered disk names image request text =
    (profile : Profile) × AnswersRequest names image request profile × IsPictureAt disk request.image.now request.picture profile.picture
    × (text ≡ string_bytes profile.text)

-- the request makes no question of the image: this is the line of its fault
abbrev pub IsNoRequest : ImageValue → ProfileRequest → List ℕ → Type 0
IsNoRequest image request line = (fault : QueryFault) × HasFault image request fault × (line ≡ refusal_line (OfQuery fault))
