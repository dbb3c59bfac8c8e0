use Rattle.std.proofs.Common.{◌≡◌, ◌∙◌, ◌++◌, ◌-◌, ℕ, List, [], Result, Ok, Err, IfOk, OnOk, String, Global, string_bytes, reverse, rules, take}
use Rattle.std.proofs.Common.{ap, inl, inr, subst, sym}
use Rattle.std.specs.declared.alloc.AllocError.{AllocError}
use Rattle.image_layout.specs.Image.{HasImage, ImageValue}
use Rattle.scan_state.specs.SetQuery.{IsAskableBetween, SetQueryValue, question}
use Rattle.station_answers.specs.Naming.{AsksBetween, IsNoQuestion}
use Rattle.station_answers.specs.Reading.{window_between}
use Rattle.station_answers.specs.declared.naming.NoQuestion.{NoQuestion}
use Rattle.session_texts.specs.Requests.{AskValue, ask_value}
use Rattle.answer_replies.specs.Replying.{IsAnsweredBy, subject_of}
use Rattle.session.specs.Forms.{ExceedsLongest}
use Rattle.session.specs.Lines.{no_question_line}
use Rattle.session.specs.Profiles.{RepliesToProfile, asked_window}
use Rattle.session.specs.declared.reply_form.ReplyForm.{ReplyForm}
use Rattle.session.specs.Replies.{ReplyValue, plain, reply_value, scan_text}
use Rattle.session.proofs.profiles.answer_from.Goals as goal

-- the reply to a profile that is no question of its image
no_question : (form : ReplyForm) (image : ImageValue) (version : ℕ) (ask : AskValue) (reply : ReplyValue) (none : NoQuestion)
    → HasImage image.timetable image.names → IsNoQuestion image ask.from ask.to (asked_window ask) none → reply ≡ plain (no_question_line none)
    → RepliesToProfile form image version ask reply
no_question form image version ask reply (NoQuestion.Bad fault) kept refused reply_is =
    inl (record { accepted = kept; replied = inl (inl (record { fault = fault; refused = refused; reply_is = reply_is })) })
no_question form image version ask reply NoQuestion.OutOfMemory kept refused reply_is =
    inr (record { text_is = ap (λ (r : ReplyValue). r.text) reply_is; part = inl (ap (λ (r : ReplyValue). r.read) reply_is) })

pub returns-in-Err : goal.returns-in-Err
returns-in-Err g c =
    let version = c.args.edition.now.version in
    let reply = reply_value c.no_question.result in
    subst (λ (i : ImageValue). RepliesToProfile c.args.form i version (ask_value c.args.ask.now) reply) c.deref-image.ensures
    (no_question c.args.form _ version (ask_value c.args.ask.now) reply c.in-Err.fault c.stops.ensures.kept c.in-Err.ensures c.no_question.ensures)

-- the reply after a scan of a query of the image
module _ (form : ReplyForm) (image : ImageValue) (version : ℕ) (ask : AskValue) (query : SetQueryValue) where
  scanned : (reply : ReplyValue) (made : Result (String Global) AllocError) (before now : List ℕ) → HasImage image.timetable image.names
      → IsAskableBetween image.timetable.stops query → AsksBetween image.names ask.from ask.to (asked_window ask) query
      → ¬ (ExceedsLongest form.longest (ask.by - ask.after))
      → IfOk made (λ line. IsAnsweredBy ask.criterion (subject_of form.points image version) query (string_bytes line))
      → OnOk made (now ≡ before ++ reverse (window_between image.timetable query))
      → (n : ℕ) × (now ≡ before ++ take n (reverse (window_between image.timetable query)))
      → before ≡ [] → reply.read ≡ now → reply.text ≡ scan_text made → RepliesToProfile form image version ask reply
  scanned reply (Ok line) before now kept can_be asked short answered whole part none read text =
      let window = reverse (window_between image.timetable query) in
      inl (record {
        accepted = kept;
        replied = inr (record {
          query = query;
          can_be = can_be;
          asked = asked;
          short = short;
          answered = subst (λ t. IsAnsweredBy ask.criterion (subject_of form.points image version) query t) (sym text) answered;
          reads = read ∙ whole ∙ ap (λ list. list ++ window) none;
        });
      })
  scanned reply (Err error) before now kept can_be asked short answered whole part none read text =
      let first = take part.0 (reverse (window_between image.timetable query)) in
      inr (record {
        text_is = text;
        part = inr (record {
          query = query;
          can_be = can_be;
          asked = asked;
          short = short;
          count = part.0;
          read_is = read ∙ part.1 ∙ ap (λ list. list ++ first) none;
        });
      })

pub returns : goal.returns
returns g c =
    let form = c.args.form in
    let version = c.args.edition.now.version in
    let ask = ask_value c.args.ask.now in
    let made = c.reply_by_name-made in
    let scan = c.after_scan.ensures in
    let short : ¬ (ExceedsLongest form.longest (ask.by - ask.after)) = search rules in
    subst (λ (i : ImageValue). RepliesToProfile form i version ask (reply_value c.after_scan.result)) c.deref-image.ensures
    (scanned form _ version ask (question c.in-Ok.query) _ made.result.0 _ _ c.stops.ensures.kept c.in-Ok.ensures.0 c.in-Ok.ensures.1 short
    made.ensures.line made.ensures.whole made.ensures.part c.behind.ensures scan.read scan.text)
