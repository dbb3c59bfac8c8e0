-- What the replies to profiles from one stop to one other tell: what they would tell of the plain query from the one to the other.
use Rattle.std.specs.Prelude.{◌≡◌, ◌-◌, ℕ, List, [], ◌∷◌}
use Rattle.timetable.specs.Queries.{IsAskable}
use Rattle.timetable.specs.declared.query.Query.{Query}
use Rattle.timetable.specs.declared.query.QueryFault.{QueryFault}
use Rattle.image_layout.specs.Image.{ImageValue}
use Rattle.journeys.specs.Questions.{Asks, IsRefused}
use Rattle.session_texts.specs.Requests.{AskValue}
use Rattle.answer_replies.specs.OneStop.{IsAnsweredOneBy}
use Rattle.answer_replies.specs.Replying.{subject_of}
use Rattle.session.specs.Forms.{ExceedsLongest}
use Rattle.session.specs.Lines.{query_fault_line}
use Rattle.session.specs.Replies.{ReplyValue, plain}
use Rattle.session.specs.Profiles.{AnswersQuery, IsNoQuery, IsTooLong, asked_window}
use Rattle.session.specs.declared.reply_form.ReplyForm.{ReplyForm}

-- a request from the stop of one name to that of one other
pub record OneAsk : Type 0 where
  pub ask : AskValue
  pub from : List ℕ
  pub to : List ℕ
  pub from_one : ask.from ≡ from ∷ []
  pub to_one : ask.to ≡ to ∷ []

-- the plain query between these stops is refused, and the reply says why
pub record IsRefusedOne (image : ImageValue) (one : OneAsk) (reply : ReplyValue) : Type 0 where
  pub fault : QueryFault
  pub refused : IsRefused image one.from one.to (asked_window one.ask) fault
  pub reply_is : reply ≡ plain (query_fault_line fault)

-- the plain query can be asked, but its window is longer than windows may be
pub record IsTooLongOne (form : ReplyForm) (image : ImageValue) (one : OneAsk) (reply : ReplyValue) : Type 0 where
  pub query : Query
  pub can_be : IsAskable image.timetable.stops query
  pub asked : Asks image.names one.from one.to (asked_window one.ask) query
  pub longer : ExceedsLongest form.longest (one.ask.by - one.ask.after)
  pub reply_is : reply ≡ plain (query_fault_line QueryFault.BadWindow)

-- the window isn't too long, and the reply answers the plain query
pub record AnswersOne (form : ReplyForm) (image : ImageValue) (version : ℕ) (one : OneAsk) (reply : ReplyValue) : Type 0 where
  pub query : Query
  pub can_be : IsAskable image.timetable.stops query
  pub asked : Asks image.names one.from one.to (asked_window one.ask) query
  pub short : ¬ (ExceedsLongest form.longest (one.ask.by - one.ask.after))
  pub answered : IsAnsweredOneBy one.ask.criterion (subject_of form.points image version) query reply.text

-- what the reply tells of the request between sets, it tells of the plain query
pub record TellsOfOne (form : ReplyForm) (image : ImageValue) (version : ℕ) (one : OneAsk) (reply : ReplyValue) : Type 0 where
  pub none : IsNoQuery image one.ask reply → IsRefusedOne image one reply
  pub too_long : IsTooLong form image one.ask reply → IsTooLongOne form image one reply
  pub answers : AnswersQuery form image version one.ask reply → AnswersOne form image version one reply
