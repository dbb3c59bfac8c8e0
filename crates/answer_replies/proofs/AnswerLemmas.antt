-- A query's answer in a line of reply.
use Rattle.std.proofs.Common.{◌≡◌, ◌++◌, ℕ, List, [], Option, Contains, length, map, reverse, take, ap, sym, append-nil, ◌∙◌, subst}
use Rattle.std.proofs.Math.Seq.{take-append_seam}
use Rattle.serde_json.specs.Data.{Data}
use Rattle.criteria.specs.Laws.{Rules}
use Rattle.criteria.specs.declared.figures.Figures.{Figures}
use Rattle.timetable.specs.TimetableValue.{TimetableValue}
use Rattle.image_layout.specs.Image.{ImageValue}
use Rattle.scan_state.specs.SetQuery.{SetQueryValue, IsAnswerBetween}
use Rattle.journeys.specs.Answer.{point_of}
use Rattle.journeys.specs.Extracted.{AttainsBetween}
use Rattle.journeys.specs.declared.answering.Departure.{Departure}
use Rattle.station_answers.specs.Reading.{window_between}
use Rattle.station_answers.specs.Walks.{IsDirectTime}
use Rattle.session_texts.specs.Replies.{line_of, profile_data}
use Rattle.answer_replies.specs.declared.point_form.PointForm.{PointForm}
use Rattle.answer_replies.specs.Replying.{IsAnswered, departures_data, subject_of}

pub answered_line : {V : Type 0} (form : PointForm) (figures : V → Figures) (rules : Rules V) (image : ImageValue) (t : TimetableValue) (version : ℕ)
    (b : SetQueryValue) (departures : List (Departure V)) (walk : Option ℕ) (points : List Data) (line : List ℕ)
    → t ≡ image.timetable → IsAnswerBetween rules t b (map point_of departures)
    → ((d : Departure V) → Contains departures d → AttainsBetween rules t b (point_of d) d.journey)
    → IsDirectTime t b walk
    → points ≡ departures_data form image figures departures → line ≡ line_of (profile_data points version walk)
    → IsAnswered figures rules (subject_of form image version) b line
answered_line {V} form figures rules image t version b departures walk points line same answer attained direct points_are line_is = record {
  departures = departures;
  walk = walk;
  answer = subst (λ (x : TimetableValue). IsAnswerBetween rules x b (map point_of departures)) same answer;
  attained = λ d has. subst (λ (x : TimetableValue). AttainsBetween rules x b (point_of d) d.journey) same (attained d has);
  direct = subst (λ (x : TimetableValue). IsDirectTime x b walk) same direct;
  reply_is = line_is ∙ ap (λ (ds : List Data). line_of (profile_data ds version walk)) points_are;
}

-- what a source notes is noted behind what its log had
pub reads_whole : (log old new : List ℕ) (t u : TimetableValue) (b : SetQueryValue) → old ≡ log → t ≡ u → new ≡ old ++ reverse (window_between t b)
    → new ≡ log ++ reverse (window_between u b)
reads_whole log old new t u b same is all = all ∙ (λ i. same i ++ reverse (window_between (is i) b))

pub reads_part : (log old new : List ℕ) (t u : TimetableValue) (b : SetQueryValue) (n : ℕ) → old ≡ log → t ≡ u
    → new ≡ old ++ take n (reverse (window_between t b)) → (n : ℕ) × (new ≡ log ++ take n (reverse (window_between u b)))
reads_part log old new t u b n same is part = (n, part ∙ (λ i. same i ++ take n (reverse (window_between (is i) b))))

-- the whole is a part
pub whole_is_part : (log new all : List ℕ) → new ≡ log ++ all → (n : ℕ) × (new ≡ log ++ take n all)
whole_is_part log new all is =
    let first : take (length all) all ≡ all = ap (λ (xs : List ℕ). take (length all) xs) (sym (append-nil all)) ∙ take-append_seam all [] in
    (length all, is ∙ ap (λ (xs : List ℕ). log ++ xs) (sym first))
