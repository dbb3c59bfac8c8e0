use Rattle.std.proofs.Common.{◌+◌, ◌<◌, length, get_or, arith, None, false}
use Rattle.gtfs_rows.specs.declared.rows.StopTimeRow.{StopTimeRow}
use Rattle.connections.specs.Hops.{zero_of}
use Rattle.connections.specs.declared.times.RowTimes.{RowTimes}
use Rattle.connections.proofs.HopSteps.{hop_made, never_outside, used_later}
use Rattle.connections.proofs.hops.connection.Goals as goal

pub unreachable-requires-in_default-at : goal.unreachable-requires-in_default-at
unreachable-requires-in_default-at c =
    let none : RowTimes = record { arrival = 0; departure = 0 } in
    let within : c.args.position < length c.args.times.now = (let p = c.requires.position in let s = c.requires.same_length in omega (arith, p, s)) in
    let inside = c.requires.inside c.args.position none within in
    never_outside c.args.clock.day.base (zero_of c.args.clock) (get_or c.args.times.now c.args.position none).departure inside.departure.0 inside.departure.1
    c.in_default-at.ensures

pub unreachable-requires-in_default-at-2 : goal.unreachable-requires-in_default-at-2
unreachable-requires-in_default-at-2 c =
    let none : RowTimes = record { arrival = 0; departure = 0 } in
    let within : c.args.position + 1 < length c.args.times.now = (let p = c.requires.position in let s = c.requires.same_length in omega (arith, p, s)) in
    let inside = c.requires.inside (c.args.position + 1) none within in
    never_outside c.args.clock.day.base (zero_of c.args.clock) (get_or c.args.times.now (c.args.position + 1) none).arrival
    (inside.arrival (used_later c.args.clock.start c.args.position)).0 (inside.arrival (used_later c.args.clock.start c.args.position)).1
    c.in_default-at-2.ensures

pub returns : goal.returns
returns c =
    let none : StopTimeRow = record { trip = 0; arrival = None; departure = None; stop = None; sequence = 0; board = false; alight = false } in
    hop_made c.args.clock.day.base (zero_of c.args.clock) c.args.rows.now c.args.times.now c.args.run c.args.position c.in-Some.from c.in-Some-stop.to
    c.in-Some-at.dep c.in-Some-at-2.arr none (record { arrival = 0; departure = 0 })
    c.requires.position c.requires.times_are c.in-Some.is c.in-Some-stop.is c.in-Some-at.ensures c.in-Some-at-2.ensures
