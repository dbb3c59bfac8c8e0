-- An answer that was found is one that is shown.
use Rattle.std.proofs.Common.{◌≡◌, ◌∙◌, ℕ, List, Option, Contains, length, map, ap, string_bytes, subst}
use Rattle.criteria.specs.Laws.{Rules}
use Rattle.criteria.specs.declared.figures.Figures.{Figures}
use Rattle.timetable.specs.TimetableValue.{TimetableValue}
use Rattle.image_files.specs.declared.names.NameForm.{NameForm}
use Rattle.image_layout.specs.Image.{ImageValue}
use Rattle.scan_state.specs.SetQuery.{SetQueryValue, IsAnswerBetween}
use Rattle.journeys.specs.Answer.{point_of}
use Rattle.journeys.specs.Extracted.{AttainsBetween}
use Rattle.journeys.specs.declared.answering.Departure.{Departure}
use Rattle.station_answers.specs.Reading.{window_between}
use Rattle.station_answers.specs.Walks.{IsDirectTime}
use Rattle.command_requests.specs.declared.requests.ProfileRequest.{ProfileRequest}
use Rattle.image_commands.specs.Answering.{IsShown}
use Rattle.image_commands.specs.Listing.{IsInForm}
use Rattle.image_commands.specs.Picturing.{IsDrawn}
use Rattle.image_commands.specs.declared.profile.Profile.{Profile}

pub answer_shown : {V : Type 0} (figures : V → Figures) (rules : Rules V) (names : NameForm) (request : ProfileRequest) (image : ImageValue) (b : SetQueryValue)
    (t : TimetableValue) (departures : List (Departure V)) (walk : Option ℕ) (read : ℕ) (profile : Profile) → t ≡ image.timetable
    → IsAnswerBetween rules t b (map point_of departures)
    → ((departure : Departure V) → Contains departures departure → AttainsBetween rules t b (point_of departure) departure.journey)
    → IsDirectTime t b walk → read ≡ length (window_between t b)
    → IsInForm figures names image request.form departures read walk (string_bytes profile.text)
    → IsDrawn figures image request b departures walk profile.picture → IsShown figures rules names request image b profile
answer_shown {V} figures rules names request image b t departures walk read profile of answer attained direct count is drawn = record {
  departures = departures;
  walk = walk;
  answer = subst (λ (x : TimetableValue). IsAnswerBetween rules x b (map point_of departures)) of answer;
  attained = subst (λ (x : TimetableValue). (departure : Departure V) → Contains departures departure
      → AttainsBetween rules x b (point_of departure) departure.journey) of attained;
  direct = subst (λ (x : TimetableValue). IsDirectTime x b walk) of direct;
  text_is = subst (λ (n : ℕ). IsInForm figures names image request.form departures n walk (string_bytes profile.text))
      (count ∙ ap (λ (x : TimetableValue). length (window_between x b)) of) is;
  drawn = drawn;
}
