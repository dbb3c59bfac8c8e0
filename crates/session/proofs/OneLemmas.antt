-- A profile between single stops is one of the plain query.
use Rattle.std.proofs.Common.{◌≡◌, ◌≤◌, ◌∙◌, ℕ, List, [], ◌∷◌, Contains, refl, sym, ap, subst, inl, inr}
use Rattle.std.specs.List.{AllZip}
use Rattle.reasoning.proofs.ListLemmas.{contains_first, contains_only}
use Rattle.timetable.specs.NamesValue.{NamesValue}
use Rattle.timetable.specs.Queries.{IsAskable, IsFirstFault as IsFirstFaultOne}
use Rattle.timetable.specs.declared.query.Query.{Query}
use Rattle.timetable.specs.declared.query.QueryFault.{QueryFault}
use Rattle.image_layout.specs.Image.{ImageValue}
use Rattle.scan_state.specs.SetQuery.{SetQueryValue, IsAskableBetween, single_set_query}
use Rattle.profile_scan.proofs.Single.{one_is_plain}
use Rattle.journeys.specs.Questions.{Asks, IsNamed, IsRefused, NamesNone}
use Rattle.journeys.specs.declared.question.Window.{Window}
use Rattle.station_answers.specs.Asking.{IsFirstFault}
use Rattle.station_answers.specs.Naming.{AsksBetween, IsFaultBetween, SomeUnknown}
use Rattle.answer_replies.specs.Replying.{IsAnsweredBy, Subject, subject_of}
use Rattle.answer_replies.specs.Valuing.{by_arrival}
use Rattle.answer_replies.specs.OneStop.{IsAnsweredOneBy}
use Rattle.session.specs.OneStop.{AnswersOne, IsTooLongOne, OneAsk, TellsOfOne}
use Rattle.session.specs.Profiles.{AnswersQuery, IsTooLong, asked_window}
use Rattle.session.specs.Replies.{ReplyValue}
use Rattle.session.specs.declared.reply_form.ReplyForm.{ReplyForm}

-- the law of replies
abbrev pub OneIsAnswered : Type 0
OneIsAnswered = (criterion : _) (subject : Subject) (q : Query) (reply : List ℕ)
    → IsAnsweredBy criterion subject (single_set_query q) reply → IsAnsweredOneBy criterion subject q reply

only : {A B : Type 0} (R : A → B → Type 0) (x : A) (ys : List B) → AllZip R (x ∷ []) ys → (y : B) × (ys ≡ y ∷ []) × R x y
only R x [] zip = absurd zip
only R x (y ∷ []) zip = (y, refl, zip.0)
only R x (y ∷ z ∷ zs) zip = absurd zip.1

-- a question between single names is one between single stops
record IsOne (names : NamesValue) (from to : List ℕ) (window : Window) (b : SetQueryValue) : Type 0 where
  query : Query
  asked : Asks names from to window query
  is : b ≡ single_set_query query

one_question : (names : NamesValue) (from to : List ℕ) (froms tos : List (List ℕ)) (window : Window) (b : SetQueryValue) → froms ≡ from ∷ []
    → tos ≡ to ∷ [] → AsksBetween names froms tos window b → IsOne names from to window b
one_question names from to froms tos window b from_is to_is asks =
    let s = only (IsNamed names) from b.sources (subst (λ (xs : List (List ℕ)). AllZip (IsNamed names) xs b.sources) from_is asks.sources) in
    let t = only (IsNamed names) to b.targets (subst (λ (xs : List (List ℕ)). AllZip (IsNamed names) xs b.targets) to_is asks.targets) in
    let with_sides : List ℕ → List ℕ → SetQueryValue =
    λ xs ys. record { sources = xs; targets = ys; from = b.from; until = b.until; by = b.by } in
    let q : Query = record { source = s.0; target = t.0; from = b.from; until = b.until; by = b.by } in
    record {
      query = q;
      asked = record { source = s.2; target = t.2; times = asks.times };
      is = ap (λ (xs : List ℕ). with_sides xs b.targets) s.1 ∙ ap (λ (ys : List ℕ). with_sides (s.0 ∷ []) ys) t.1;
    }

first_of_one : (stops : ℕ) (q : Query) (fault : QueryFault) → IsFirstFault stops (single_set_query q) fault → IsFirstFaultOne stops q fault
first_of_one stops q QueryFault.UnknownStop (inl (s, has, out)) = inl (subst (λ (x : ℕ). stops ≤ x) (contains_only q.source s has) out)
first_of_one stops q QueryFault.UnknownStop (inr (s, has, out)) = inr (subst (λ (x : ℕ). stops ≤ x) (contains_only q.target s has) out)
first_of_one stops q QueryFault.SameStop (sources, targets, (s, is_source, is_target)) =
    let same = sym (contains_only q.source s is_source) ∙ contains_only q.target s is_target in
    (sources q.source (contains_first q.source []), targets q.target (contains_first q.target []), same)
first_of_one stops q QueryFault.BadWindow (sources, targets, apart, bad) =
    let here = contains_first q.source [] in
    let there = contains_first q.target [] in
    (sources q.source here, targets q.target there, (λ same. apart q.source here (subst (Contains (q.target ∷ [])) (sym same) there)), bad)

module _ (form : ReplyForm) (image : ImageValue) (version : ℕ) (one : OneAsk) (reply : ReplyValue) where
  asks_of_one : (b : SetQueryValue) → AsksBetween image.names one.ask.from one.ask.to (asked_window one.ask) b
      → IsOne image.names one.from one.to (asked_window one.ask) b
  asks_of_one b asks = one_question image.names one.from one.to one.ask.from one.ask.to (asked_window one.ask) b one.from_one one.to_one asks

  unknown_one : (name : List ℕ) (names : List (List ℕ)) → names ≡ name ∷ [] → SomeUnknown image.names names → NamesNone image.names name
  unknown_one name names is (other, has, none) =
      subst (NamesNone image.names) (contains_only name other (subst (λ (xs : List (List ℕ)). Contains xs other) is has)) none

  first_asked : (fault : QueryFault) (b : SetQueryValue) → AsksBetween image.names one.ask.from one.ask.to (asked_window one.ask) b
      → IsFirstFault image.timetable.stops b fault
      → (q : Query) × Asks image.names one.from one.to (asked_window one.ask) q × IsFirstFaultOne image.timetable.stops q fault
  first_asked fault b asks first =
      let o = asks_of_one b asks in
      let first_then = subst (λ (x : SetQueryValue). IsFirstFault image.timetable.stops x fault) o.is first in
      (o.query, o.asked, first_of_one image.timetable.stops o.query fault first_then)

  refused_one : (fault : QueryFault) → IsFaultBetween image one.ask.from one.ask.to (asked_window one.ask) fault
      → IsRefused image one.from one.to (asked_window one.ask) fault
  refused_one QueryFault.UnknownStop (inl unknown) = inl (unknown_one one.from one.ask.from one.from_one unknown)
  refused_one QueryFault.UnknownStop (inr unknown) = inr (unknown_one one.to one.ask.to one.to_one unknown)
  refused_one QueryFault.SameStop (b, asks, first) = first_asked QueryFault.SameStop b asks first
  refused_one QueryFault.BadWindow (b, asks, first) = first_asked QueryFault.BadWindow b asks first

  askable_one : (b : SetQueryValue) (q : Query) → b ≡ single_set_query q → IsAskableBetween image.timetable.stops b → IsAskable image.timetable.stops q
  askable_one b q is can_be =
      ((one_is_plain by_arrival image.timetable q).askable image.timetable.stops).0 (subst (IsAskableBetween image.timetable.stops) is can_be)

  too_long_of_one : IsTooLong form image one.ask reply → IsTooLongOne form image one reply
  too_long_of_one long =
      let o = asks_of_one long.query long.asked in
      let can_be = askable_one long.query o.query o.is long.can_be in
      record { query = o.query; can_be = can_be; asked = o.asked; longer = long.longer; reply_is = long.reply_is }

  answers_of_one : OneIsAnswered → AnswersQuery form image version one.ask reply → AnswersOne form image version one reply
  answers_of_one law answers =
      let o = asks_of_one answers.query answers.asked in
      let can_be = askable_one answers.query o.query o.is answers.can_be in
      let subject = subject_of form.points image version in
      let by = subst (λ (x : SetQueryValue). IsAnsweredBy one.ask.criterion subject x reply.text) o.is answers.answered in
      let answered = law one.ask.criterion subject o.query reply.text by in
      record { query = o.query; can_be = can_be; asked = o.asked; short = answers.short; answered = answered }

  pub tells_of_one : OneIsAnswered → TellsOfOne form image version one reply
  tells_of_one law = record {
    none = λ refused. record { fault = refused.fault; refused = refused_one refused.fault refused.refused; reply_is = refused.reply_is };
    too_long = too_long_of_one;
    answers = answers_of_one law;
  }
