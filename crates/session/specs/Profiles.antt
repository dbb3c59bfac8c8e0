-- What the reply to a profile says, and which connections are read for it.
use Rattle.std.specs.Prelude.{◌≡◌, ◌⊎◌, ◌-◌, ℕ, List, [], reverse, take}
use Rattle.timetable.specs.declared.query.QueryFault.{QueryFault}
use Rattle.image_layout.specs.Image.{HasImage, ImageValue}
use Rattle.scan_state.specs.SetQuery.{SetQueryValue, IsAskableBetween}
use Rattle.journeys.specs.declared.question.Window.{Window}
use Rattle.station_answers.specs.Naming.{AsksBetween, IsFaultBetween}
use Rattle.station_answers.specs.Reading.{window_between}
use Rattle.session_texts.specs.Requests.{AskValue}
use Rattle.answer_replies.specs.Replying.{IsAnsweredBy, subject_of}
use Rattle.session.specs.Forms.{ExceedsLongest}
use Rattle.session.specs.Lines.{memory_line, query_fault_line}
use Rattle.session.specs.Replies.{ReplyValue, plain}
use Rattle.session.specs.declared.reply_form.ReplyForm.{ReplyForm}

abbrev pub asked_window : AskValue → Window
asked_window ask = record { from = ask.after; until = ask.until; by = ask.by }

-- the request is no query of this image, and the reply says why
pub record IsNoQuery (image : ImageValue) (ask : AskValue) (reply : ReplyValue) : Type 0 where
  pub fault : QueryFault
  pub refused : IsFaultBetween image ask.from ask.to (asked_window ask) fault
  pub reply_is : reply ≡ plain (query_fault_line fault)

-- the request is a query of this image, but its window is longer than windows may be, and the reply says that it is none
pub record IsTooLong (form : ReplyForm) (image : ImageValue) (ask : AskValue) (reply : ReplyValue) : Type 0 where
  pub query : SetQueryValue
  pub can_be : IsAskableBetween image.timetable.stops query
  pub asked : AsksBetween image.names ask.from ask.to (asked_window ask) query
  pub longer : ExceedsLongest form.longest (ask.by - ask.after)
  pub reply_is : reply ≡ plain (query_fault_line QueryFault.BadWindow)

-- the request is a query of this image, with a window that isn't too long, and the reply answers it: each connection of the window is read once, from
-- the last to the first
pub record AnswersQuery (form : ReplyForm) (image : ImageValue) (version : ℕ) (ask : AskValue) (reply : ReplyValue) : Type 0 where
  pub query : SetQueryValue
  pub can_be : IsAskableBetween image.timetable.stops query
  pub asked : AsksBetween image.names ask.from ask.to (asked_window ask) query
  pub short : ¬ (ExceedsLongest form.longest (ask.by - ask.after))
  pub answered : IsAnsweredBy ask.criterion (subject_of form.points image version) query reply.text
  pub reads : reply.read ≡ reverse (window_between image.timetable query)

-- the reply to a request for a profile over this image. The image is one that was accepted: of a legal timetable and names that fit it
pub record IsProfileReply (form : ReplyForm) (image : ImageValue) (version : ℕ) (ask : AskValue) (reply : ReplyValue) : Type 0 where
  pub accepted : HasImage image.timetable image.names
  pub replied : (IsNoQuery image ask reply ⊎ IsTooLong form image ask reply) ⊎ AnswersQuery form image version ask reply

-- of the window of the query that is asked, which isn't too long, a first part was read, from the last connection on
pub record ReadsPart (form : ReplyForm) (image : ImageValue) (ask : AskValue) (read : List ℕ) : Type 0 where
  pub query : SetQueryValue
  pub can_be : IsAskableBetween image.timetable.stops query
  pub asked : AsksBetween image.names ask.from ask.to (asked_window ask) query
  pub short : ¬ (ExceedsLongest form.longest (ask.by - ask.after))
  pub count : ℕ
  pub read_is : read ≡ take count (reverse (window_between image.timetable query))

-- memory ran out, and the reply says so: nothing was read, or a first part
pub record BreaksOff (form : ReplyForm) (image : ImageValue) (ask : AskValue) (reply : ReplyValue) : Type 0 where
  pub text_is : reply.text ≡ memory_line
  pub part : (reply.read ≡ []) ⊎ ReadsPart form image ask reply.read

-- the request is replied to, or memory ran out
abbrev pub RepliesToProfile : ReplyForm → ImageValue → ℕ → AskValue → ReplyValue → Type 0
RepliesToProfile form image version ask reply = IsProfileReply form image version ask reply ⊎ BreaksOff form image ask reply
