-- The days on which a row gives service.
use Rattle.std.proofs.Common.{◌≡◌, ◌<◌, ◌&&◌, ◌||◌, ◌+◌, ℕ, List, [], ◌∷◌, length, get_or, take, Bool, true, false, refl, sym, ap, ◌∙◌, inl, inr, arith}
use Rattle.std.specs.List.{list_any}
use Rattle.std.specs.Prelude.{Option}
use Rattle.std.proofs.lemmas.Bool.{and_parts, cases_Bool, false≢true}
use Rattle.std.proofs.lemmas.Bool.Decides.{nat_tests}
use Rattle.std.proofs.lemmas.List.Folds.{list_any_more}
use Rattle.gtfs_rows.specs.Values.{is_civil}
use Rattle.gtfs_rows.specs.declared.rows.CalendarDateRow.{CalendarDateRow}
use Rattle.gtfs_rows.specs.declared.rows.CalendarRow.{CalendarRow}
use Rattle.gtfs_rows.specs.declared.values.Day.{Day}
use Rattle.gtfs_tables.specs.declared.tables.Feed.{Feed}
use Rattle.service_days.specs.Services.{is_added, is_not_after, is_same_day, weekday_on}
use Rattle.feed_days.specs.Service.{HoldsOfNone, IsSpan, SpansDays, give_once, give_weekly, gives_once, gives_weekly, has_service}
use Rattle.feed_days.specs.declared.span.DaySpan.{DaySpan}
use Rattle.feed_days.proofs.Order.{after_first, before_last, first_day, last_day, not_after_itself, number_by_not_after, same_parts}
use Rattle.feed_days.proofs.Spans.{HoldsFrom, HoldsTo, IsOfCivil, either, none_if, span_same}

both : (a b : Bool) → a ≡ true → b ≡ true → (a && b) ≡ true
both true b one other = other
both false b one other = absurd (false≢true one)

same_day : (a b : Day) → is_same_day a b ≡ true → a ≡ b
same_day a b is = same_parts a b (grind (arith, nat_tests)) (grind (arith, nat_tests)) (grind (arith, nat_tests))

same_itself : (a : Day) → is_same_day a a ≡ true
same_itself a = grind (arith, nat_tests)

-- the day that a row adds
once_day : (row : CalendarDateRow) (d : Day) → gives_once row d ≡ true → (row.day ≡ d) × ((is_civil row.day && is_added row.exception) ≡ true)
once_day row d is =
    let outer = and_parts (is_civil d) (is_same_day row.day d && is_added row.exception) is in
    let inner = and_parts (is_same_day row.day d) (is_added row.exception) outer.1 in
    let same = same_day row.day d inner.0 in
    (same, both (is_civil row.day) (is_added row.exception) (ap is_civil same ∙ outer.0) inner.1)

pub once_none : (row : CalendarDateRow) → (is_civil row.day && is_added row.exception) ≡ false → HoldsOfNone (gives_once row)
once_none row none = none_if (gives_once row) (λ d is. false≢true (sym none ∙ (once_day row d is).1))

pub once_span : (row : CalendarDateRow) → (is_civil row.day && is_added row.exception) ≡ true
    → IsSpan (gives_once row) (record { first = row.day; last = row.day })
once_span row adds =
    let parts = and_parts (is_civil row.day) (is_added row.exception) adds in
    let own : gives_once row row.day ≡ true =
    both (is_civil row.day) (is_same_day row.day row.day && is_added row.exception) parts.0
    (both (is_same_day row.day row.day) (is_added row.exception) (same_itself row.day) parts.1) in
    record {
      first = record { holds = own; least = λ d is. ap (is_not_after row.day) (sym (once_day row d is).0) ∙ not_after_itself row.day };
      last = record { holds = own; most = λ d is. ap (λ (x : Day). is_not_after x row.day) (sym (once_day row d is).0) ∙ not_after_itself row.day };
    }

-- a day on which a row of calendar.txt gives service is civil, has a weekday of the row, and is in its range
record IsOfRow (row : CalendarRow) (d : Day) : Type 0 where
  civil : is_civil d ≡ true
  weekday : get_or row.weekdays (weekday_on d) false ≡ true
  from : is_not_after row.start d ≡ true
  to : is_not_after d row.end ≡ true

of_row : (row : CalendarRow) (d : Day) → gives_weekly row d ≡ true → IsOfRow row d
of_row row d is = record {
  civil = grind arith;
  weekday = grind arith;
  from = grind arith;
  to = grind arith;
}

pub weekly_civil : (row : CalendarRow) → IsOfCivil (gives_weekly row)
weekly_civil row = record { civil = λ d is. (of_row row d is).civil }

pub weekly_from : (row : CalendarRow) (d : Day) → gives_weekly row d ≡ true → is_not_after row.start d ≡ true
weekly_from row d is = (of_row row d is).from

pub weekly_to : (row : CalendarRow) (d : Day) → gives_weekly row d ≡ true → is_not_after d row.end ≡ true
weekly_to row d is = (of_row row d is).to

-- where the days are gone through from
pub starts : (row : CalendarRow) (day : Day) → (is_civil row.start ≡ true → day ≡ row.start) → (is_civil row.start ≡ false → day ≡ first_day)
    → (is_civil day ≡ true) × HoldsFrom (gives_weekly row) day
starts row day own other =
    elim (cases_Bool (is_civil row.start)) [
      | inl civil ↦ rw (own civil) (
        civil,
        record { from = λ d is. number_by_not_after row.start d civil (of_row row d is).civil (of_row row d is).from },
      )
      | inr none ↦ rw (other none) (refl, record { from = λ d is. after_first d (of_row row d is).civil })
    ]

pub ends : (row : CalendarRow) (day : Day) → (is_civil row.end ≡ true → day ≡ row.end) → (is_civil row.end ≡ false → day ≡ last_day)
    → (is_civil day ≡ true) × HoldsTo (gives_weekly row) day
ends row day own other =
    elim (cases_Bool (is_civil row.end)) [
      | inl civil ↦ rw (own civil) (
        civil,
        record { to = λ d is. number_by_not_after d row.end (of_row row d is).civil civil (of_row row d is).to },
      )
      | inr none ↦ rw (other none) (refl, record { to = λ d is. before_last d (of_row row d is).civil })
    ]

-- a row more
pub weekly_more : (rows : List CalendarRow) (i : ℕ) (row : CalendarRow) (found : Option DaySpan) → i < length rows → row ≡ get_or rows i row
    → SpansDays (λ d. give_weekly (take i rows) d || gives_weekly row d) found → SpansDays (give_weekly (take (i + 1) rows)) found
weekly_more rows i row found lt is =
    span_same (λ d. give_weekly (take i rows) d || gives_weekly row d) (give_weekly (take (i + 1) rows))
    (λ d. ap (λ (r : CalendarRow). give_weekly (take i rows) d || gives_weekly r d) is
    ∙ sym (list_any_more (λ (r : CalendarRow). gives_weekly r d) rows i row lt)) found

pub once_more : (rows : List CalendarDateRow) (i : ℕ) (row : CalendarDateRow) (found : Option DaySpan) → i < length rows → row ≡ get_or rows i row
    → SpansDays (λ d. give_once (take i rows) d || gives_once row d) found → SpansDays (give_once (take (i + 1) rows)) found
once_more rows i row found lt is =
    span_same (λ d. give_once (take i rows) d || gives_once row d) (give_once (take (i + 1) rows))
    (λ d. ap (λ (r : CalendarDateRow). give_once (take i rows) d || gives_once r d) is
    ∙ sym (list_any_more (λ (r : CalendarDateRow). gives_once r d) rows i row lt)) found

-- a day on which some row gives service is civil
some_row : {X : Type 0} (test : X → Bool) (civil : Bool) → ((row : X) → test row ≡ true → civil ≡ true) → (rows : List X) → list_any test rows ≡ true
    → civil ≡ true
some_row test civil each [] is = absurd (false≢true is)
some_row test civil each (row ∷ rows) is =
    elim (either (test row) (list_any test rows) is) [
      | inl here ↦ each row here
      | inr further ↦ some_row test civil each rows further
    ]

pub service_civil : (feed : Feed) (d : Day) → has_service feed d ≡ true → is_civil d ≡ true
service_civil feed d is =
    elim (either (give_weekly feed.calendar.items d) (give_once feed.calendar_dates.items d) is) [
      | inl weekly ↦ some_row (λ (row : CalendarRow). gives_weekly row d) (is_civil d) (λ row holds. (of_row row d holds).civil) feed.calendar.items weekly
      | inr once ↦ some_row (λ (row : CalendarDateRow). gives_once row d) (is_civil d)
          (λ row holds. (and_parts (is_civil d) (is_same_day row.day d && is_added row.exception) holds).0) feed.calendar_dates.items once
    ]
