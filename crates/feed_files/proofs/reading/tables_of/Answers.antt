-- The files are read one after another.
use Rattle.std.proofs.Common.{◌≡◌, [], Vec, ◌∷◌}
use Rattle.std.specs.Prelude.{⊤}
use Rattle.std.proofs.lemmas.Result.{err_from_is_err_and}
use Rattle.std.specs.declared.alloc.Global.{Global}
use Rattle.gtfs_rows.specs.Tables.{HoldsTransfers, IsFaultOf}
use Rattle.gtfs_rows.specs.declared.fault.Table.TheVariants as tables
use Rattle.gtfs_rows.specs.declared.rows.TransferRow.{TransferRow}
use Rattle.feed_files.specs.Reading.{OptionalFault, earlier}
use Rattle.feed_files.proofs.ReadingLemmas.{calendars_fine, fine_more, no_tables, optional_rows, required_fine}
use Rattle.feed_files.proofs.ReadLemmas.{gave_first, gave_rest, read_all, read_then, read_up_to}
use Rattle.feed_files.proofs.reading.tables_of.Goals as goal

pub returns-in_err-required-clause-read : goal.returns-in_err-required-clause-read
returns-in_err-required-clause-read g c =
    let p = err_from_is_err_and c.from_residual.result c.from_residual.ensures.1 in
    rw (p.1, p.2) (read_up_to (tables.Calendar ∷ tables.CalendarDates ∷ tables.Transfers ∷ tables.Frequencies ∷ []) c.in_err-required.ensures.read)

pub returns-in_err-calendar-clause-read : goal.returns-in_err-calendar-clause-read
returns-in_err-calendar-clause-read g c =
    let a1 = c.in_ok-required.ensures.read in
    let p = err_from_is_err_and c.from_residual-in_err-calendar.result c.from_residual-in_err-calendar.ensures.1 in
    rw (p.1, p.2) (read_up_to (tables.Transfers ∷ tables.Frequencies ∷ []) (read_then a1 c.in_err-calendar.ensures.read))

pub returns-in_err-transfers-clause-read : goal.returns-in_err-transfers-clause-read
returns-in_err-transfers-clause-read g c =
    let a1 = c.in_ok-required.ensures.read in
    let a2 = c.in_ok-calendar.ensures.read in
    let j2 = read_then a1 a2 in
    let p = err_from_is_err_and c.from_residual-in_err-transfers.result c.from_residual-in_err-transfers.ensures.1 in
    rw (p.1, p.2) (read_up_to (tables.Frequencies ∷ [])
    (read_then j2 c.in_err-transfers.ensures.read))

pub returns-in_err-frequencies-clause-read : goal.returns-in_err-frequencies-clause-read
returns-in_err-frequencies-clause-read g c =
    let a1 = c.in_ok-required.ensures.read in
    let a2 = c.in_ok-calendar.ensures.read in
    let a3 = c.in_ok-transfers.ensures.read in
    let j2 = read_then a1 a2 in
    let j3 = read_then j2 a3 in
    let p = err_from_is_err_and c.from_residual-in_err-frequencies.result c.from_residual-in_err-frequencies.ensures.1 in
    rw (p.1, p.2) (read_up_to [] (read_then j3 c.in_err-frequencies.ensures.read))

pub returns-in_err-calendar-clause-err : goal.returns-in_err-calendar-clause-err
returns-in_err-calendar-clause-err g c content gave =
    let a1 = c.in_ok-required.ensures.read in
    let f1 = gave_first content a1 (c.in_err-calendar.ensures.read) gave in
    let g2 = gave_rest content a1 gave in
    let r = c.in_ok-required.required in
    let required = required_fine content r.agencies.items r.stops.rows.items r.trips.rows.items r.stop_times
    (c.in_ok-required.ensures.ok content f1) in
    let p = err_from_is_err_and c.from_residual-in_err-calendar.result c.from_residual-in_err-calendar.ensures.1 in
    rw (p.1, p.2) (c.in_err-calendar.ensures.err content g2 required)

pub returns-in_err-transfers-clause-err : goal.returns-in_err-transfers-clause-err
returns-in_err-transfers-clause-err g c content gave =
    let a1 = c.in_ok-required.ensures.read in
    let a2 = c.in_ok-calendar.ensures.read in
    let j2 = read_then a1 a2 in
    let f2 = gave_first content j2 (c.in_err-transfers.ensures.read) gave in
    let f1 = gave_first content a1 a2 f2 in
    let g2 = gave_rest content a1 f2 in
    let g3 = gave_rest content j2 gave in
    let r = c.in_ok-required.required in
    let required = required_fine content r.agencies.items r.stops.rows.items r.trips.rows.items r.stop_times
    (c.in_ok-required.ensures.ok content f1) in
    let before = calendars_fine content c.in_ok-calendar.calendar.items c.in_ok-calendar.calendar_dates.items required
    (c.in_ok-calendar.ensures.ok content g2) in
    let p = err_from_is_err_and c.from_residual-in_err-transfers.result c.from_residual-in_err-transfers.ensures.1 in
    rw (p.1, p.2) (no_tables content tables.Transfers
    (OptionalFault (IsFaultOf tables.Transfers) (content tables.Transfers)) c.in_err-transfers.field-0.0
    (λ row kind h. h) before (c.in_err-transfers.ensures.err content g3))

pub returns-in_err-frequencies-clause-err : goal.returns-in_err-frequencies-clause-err
returns-in_err-frequencies-clause-err g c content gave =
    let a1 = c.in_ok-required.ensures.read in
    let a2 = c.in_ok-calendar.ensures.read in
    let a3 = c.in_ok-transfers.ensures.read in
    let j2 = read_then a1 a2 in
    let j3 = read_then j2 a3 in
    let f3 = gave_first content j3 (c.in_err-frequencies.ensures.read) gave in
    let f2 = gave_first content j2 a3 f3 in
    let f1 = gave_first content a1 a2 f2 in
    let g2 = gave_rest content a1 f2 in
    let g3 = gave_rest content j2 f3 in
    let g4 = gave_rest content j3 gave in
    let r = c.in_ok-required.required in
    let required = required_fine content r.agencies.items r.stops.rows.items r.trips.rows.items r.stop_times
    (c.in_ok-required.ensures.ok content f1) in
    let before = calendars_fine content c.in_ok-calendar.calendar.items c.in_ok-calendar.calendar_dates.items required
    (c.in_ok-calendar.ensures.ok content g2) in
    let transfers = optional_rows (c.in_ok-transfers.transfers.items
    ≡ []) ⊤ (λ (rows : Vec TransferRow Global). rows.items) HoldsTransfers (content tables.Transfers)
    c.in_ok-transfers.transfers (λ _. tt) (c.in_ok-transfers.ensures.ok content g3) in
    let fine = fine_more content (earlier tables.Transfers) tables.Transfers before transfers in
    let p = err_from_is_err_and c.from_residual-in_err-frequencies.result c.from_residual-in_err-frequencies.ensures.1 in
    rw (p.1, p.2) (no_tables content tables.Frequencies
    (OptionalFault (IsFaultOf tables.Frequencies) (content tables.Frequencies)) c.in_err-frequencies.field-0.0
    (λ row kind h. h) fine (c.in_err-frequencies.ensures.err content g4))

pub returns-clause-read : goal.returns-clause-read
returns-clause-read g c =
    let a1 = c.in_ok-required.ensures.read in
    let a2 = c.in_ok-calendar.ensures.read in
    let a3 = c.in_ok-transfers.ensures.read in
    let a4 = c.in_ok-frequencies.ensures.read in
    let j2 = read_then a1 a2 in
    let j3 = read_then j2 a3 in
    read_all (read_then j3 a4)

pub returns-clause-ok : goal.returns-clause-ok
returns-clause-ok g c content gave =
    let a1 = c.in_ok-required.ensures.read in
    let a2 = c.in_ok-calendar.ensures.read in
    let a3 = c.in_ok-transfers.ensures.read in
    let j2 = read_then a1 a2 in
    let j3 = read_then j2 a3 in
    let f3 = gave_first content j3 c.in_ok-frequencies.ensures.read gave in
    let f2 = gave_first content j2 a3 f3 in
    let f1 = gave_first content a1 a2 f2 in
    let g2 = gave_rest content a1 f2 in
    let g3 = gave_rest content j2 f3 in
    let g4 = gave_rest content j3 gave in
    record {
      required = c.in_ok-required.ensures.ok content f1;
      calendars = c.in_ok-calendar.ensures.ok content g2;
      transfers = c.in_ok-transfers.ensures.ok content g3;
      frequencies = c.in_ok-frequencies.ensures.ok content g4;
    }
