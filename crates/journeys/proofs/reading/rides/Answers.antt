use Rattle.std.proofs.Common.{List, ℕ, length, Option, Bor, sym, ap, ◌∙◌}
use Rattle.std.specs.Option.{option_map}
use Rattle.std.proofs.lemmas.Result.{err_from_is_err_and}
use Rattle.journeys.specs.Reading.{rides_at}
use Rattle.journeys.proofs.ReadLemmas.{rides_go_on, rides_fail, rides_end, rides_bad, rides_done}
use Rattle.journeys.proofs.reading.rides.Goals as goal

pub returns-in_err-ride : goal.returns-in_err-ride
returns-in_err-ride c =
    let bytes = c.args.bytes.now in
    let p = err_from_is_err_and c.from_residual.result c.from_residual.ensures.1 in
    rw (p.1, p.2) (rides_fail c.loop.rides.items (length bytes) c.loop.counter c.loop.rest.now
    (rides_at (length bytes) bytes) c.loop.invariant c.in_err-ride.field-0.0 c.loop-test.true c.in_err-ride.ensures)

pub returns-then-behind-eq0 : goal.returns-then-behind-eq0
returns-then-behind-eq0 c =
    let bytes = c.args.bytes.now in
    rw c.in_ok-push.ensures.items (rides_end c.loop.rides.items (length bytes) c.loop.counter c.loop.rest.now
    (rides_at (length bytes) bytes) c.loop.invariant c.in_ok-ride.behind.now c.in_ok-ride.ride c.loop-test.true c.in_ok-ride.ensures c.if-behind-eq0.true)

pub returns-in_default : goal.returns-in_default
returns-in_default c =
    let bytes = c.args.bytes.now in
    let word = sym c.after.ensures ∙ ap (λ (o : Option (Bor (List ℕ))). option_map (λ x. x.now) o) c.in_default.is in
    rides_bad c.loop.rides.items (length bytes) c.loop.counter c.loop.rest.now
    (rides_at (length bytes) bytes) c.loop.invariant c.in_ok-ride.behind.now c.in_ok-ride.ride c.loop-test.true c.in_ok-ride.ensures c.if-behind-eq0.false word

pub loop-preserved : goal.loop-preserved
loop-preserved c =
    let bytes = c.args.bytes.now in
    rw c.in_ok-push.ensures.items (rides_go_on c.loop.rides.items (length bytes) c.loop.counter c.loop.rest.now
    (rides_at (length bytes) bytes) c.loop.invariant c.in_ok-ride.behind.now c.in-Some.next.now c.in_ok-ride.ride c.loop-test.true c.in_ok-ride.ensures
    c.if-behind-eq0.false (sym c.in-Some.ensures))

pub returns : goal.returns
returns c =
    let bytes = c.args.bytes.now in
    rides_done c.loop.rides.items (length bytes) c.loop.counter c.loop.rest.now (rides_at (length bytes) bytes) c.loop.invariant c.loop-test.false
