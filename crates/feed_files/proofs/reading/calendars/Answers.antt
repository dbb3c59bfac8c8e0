-- The two calendars are read one after another.
use Rattle.std.proofs.Common.{Vec, sym, ◌∙◌, ◌∷◌, []}
use Rattle.std.proofs.lemmas.Result.{err_from_is_err_and}
use Rattle.std.specs.declared.alloc.Global.{Global}
use Rattle.gtfs_rows.specs.declared.rows.CalendarRow.{CalendarRow}
use Rattle.gtfs_rows.specs.declared.rows.CalendarDateRow.{CalendarDateRow}
use Rattle.gtfs_rows.specs.declared.fault.Table.TheVariants as tables
use Rattle.gtfs_rows.specs.Tables.{HoldsCalendar, HoldsCalendarDates, IsFaultOf}
use Rattle.feed_files.specs.Reading.{OptionalFault, earlier}
use Rattle.feed_files.proofs.ReadingLemmas.{calendar_fault, calendars_held, calendars_missing, fine_more, held_rows}
use Rattle.feed_files.proofs.ReadingLemmas.{no_file, no_tables, none_items, some_items, some_there}
use Rattle.feed_files.proofs.ReadLemmas.{gave_first, gave_rest, read_then, read_up_to}
use Rattle.feed_files.proofs.reading.calendars.Goals as goal

pub returns-in_err-calendar-clause-read : goal.returns-in_err-calendar-clause-read
returns-in_err-calendar-clause-read g c =
    let p = err_from_is_err_and c.from_residual.result c.from_residual.ensures.1 in
    rw (p.1, p.2) (read_up_to (tables.CalendarDates ∷ []) c.in_err-calendar.ensures.read)

pub returns-in_err-dates-clause-read : goal.returns-in_err-dates-clause-read
returns-in_err-dates-clause-read g c =
    let p = err_from_is_err_and c.from_residual-in_err-dates.result c.from_residual-in_err-dates.ensures.1 in
    rw (p.1, p.2) (read_up_to [] (read_then c.in_ok-calendar.ensures.read c.in_err-dates.ensures.read))

pub returns-in_err-calendar-clause-err : goal.returns-in_err-calendar-clause-err
returns-in_err-calendar-clause-err g c content gave fine =
    let p = err_from_is_err_and c.from_residual.result c.from_residual.ensures.1 in
    let e = c.in_err-calendar.ensures.err content gave in
    rw (p.1, p.2) (no_tables content tables.Calendar
    (OptionalFault (IsFaultOf tables.Calendar) (content tables.Calendar)) c.in_err-calendar.field-0.0
    (calendar_fault (content tables.Calendar) (content tables.CalendarDates)) fine e)

pub returns-in_err-dates-clause-err : goal.returns-in_err-dates-clause-err
returns-in_err-dates-clause-err g c content gave fine =
    let p = err_from_is_err_and c.from_residual-in_err-dates.result c.from_residual-in_err-dates.ensures.1 in
    let a1 = c.in_ok-calendar.ensures.read in
    let g1 = gave_first content a1 (c.in_err-dates.ensures.read) gave in
    let g2 = gave_rest content a1 gave in
    let calendar = held_rows (λ (rows : Vec CalendarRow Global). rows.items) HoldsCalendar (content tables.Calendar)
    c.in_ok-calendar.calendar (c.in_ok-calendar.ensures.ok content g1) in
    let e = c.in_err-dates.ensures.err content g2 in
    rw (p.1, p.2) (no_tables content tables.CalendarDates
    (OptionalFault (IsFaultOf tables.CalendarDates) (content tables.CalendarDates)) c.in_err-dates.field-0.0
    (λ row kind h. h) (fine_more content (earlier tables.Calendar) tables.Calendar fine calendar) e)

pub returns-in-None-None-clause-read : goal.returns-in-None-None-clause-read
returns-in-None-None-clause-read g c = let both = read_then c.in_ok-calendar.ensures.read c.in_ok-dates.ensures.read in
    record { asked = (2, both.asked); failed = both.failed; once = both.once; holds = both.holds; hash = both.hash }

pub returns-in-None-Some-clause-ok : goal.returns-in-None-Some-clause-ok
returns-in-None-Some-clause-ok g c content gave =
    let a1 = c.in_ok-calendar.ensures.read in
    let g1 = gave_first content a1 c.in_ok-dates.ensures.read gave in
    let g2 = gave_rest content a1 gave in
    calendars_held content c.in_ok-calendar.calendar c.in_ok-dates.dates _ _
    (c.in_ok-calendar.ensures.ok content g1) (c.in_ok-dates.ensures.ok content g2)
    (none_items c.in_ok-calendar.calendar c.in-None-Some.is-0 ∙ sym c.new.ensures.items)
    (some_items c.in_ok-dates.dates c.in-None-Some.dates c.in-None-Some.is-1)
    (λ none. some_there c.in_ok-dates.dates c.in-None-Some.dates c.in-None-Some.is-1)

pub returns-in-Some-None-clause-ok : goal.returns-in-Some-None-clause-ok
returns-in-Some-None-clause-ok g c content gave =
    let a1 = c.in_ok-calendar.ensures.read in
    let g1 = gave_first content a1 c.in_ok-dates.ensures.read gave in
    let g2 = gave_rest content a1 gave in
    calendars_held content c.in_ok-calendar.calendar c.in_ok-dates.dates _ _
    (c.in_ok-calendar.ensures.ok content g1) (c.in_ok-dates.ensures.ok content g2)
    (some_items c.in_ok-calendar.calendar c.in-Some-None.calendar c.in-Some-None.is-0)
    (none_items c.in_ok-dates.dates c.in-Some-None.is-1 ∙ sym c.new-in-Some-None.ensures.items)
    (λ none. absurd (some_there c.in_ok-calendar.calendar c.in-Some-None.calendar c.in-Some-None.is-0 none))

pub returns-in-Some-Some-clause-ok : goal.returns-in-Some-Some-clause-ok
returns-in-Some-Some-clause-ok g c content gave =
    let a1 = c.in_ok-calendar.ensures.read in
    let g1 = gave_first content a1 c.in_ok-dates.ensures.read gave in
    let g2 = gave_rest content a1 gave in
    calendars_held content c.in_ok-calendar.calendar c.in_ok-dates.dates _ _
    (c.in_ok-calendar.ensures.ok content g1) (c.in_ok-dates.ensures.ok content g2)
    (some_items c.in_ok-calendar.calendar c.in-Some-Some.calendar c.in-Some-Some.is-0)
    (some_items c.in_ok-dates.dates c.in-Some-Some.dates c.in-Some-Some.is-1)
    (λ none. some_there c.in_ok-dates.dates c.in-Some-Some.dates c.in-Some-Some.is-1)

pub returns-in-None-None-clause-err : goal.returns-in-None-None-clause-err
returns-in-None-None-clause-err g c content gave fine =
    let a1 = c.in_ok-calendar.ensures.read in
    let g1 = gave_first content a1 c.in_ok-dates.ensures.read gave in
    let g2 = gave_rest content a1 gave in
    let calendar = no_file (λ bytes (rows : Vec CalendarRow Global). HoldsCalendar bytes rows.items)
    (content tables.Calendar) c.in_ok-calendar.calendar
    (c.in_ok-calendar.ensures.ok content g1) c.in-None-None.is-0 in
    let dates = no_file (λ bytes (rows : Vec CalendarDateRow Global). HoldsCalendarDates bytes rows.items)
    (content tables.CalendarDates) c.in_ok-dates.dates
    (c.in_ok-dates.ensures.ok content g2) c.in-None-None.is-1 in
    calendars_missing content c.missing.result calendar dates c.missing.ensures.file c.missing.ensures.row c.missing.ensures.kind fine
