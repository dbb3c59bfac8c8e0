use Rattle.std.proofs.Common.{List, ℕ, length, Option, Bor, sym, ap, ◌∙◌}
use Rattle.std.specs.Option.{option_map}
use Rattle.std.proofs.lemmas.Result.{err_from_is_err_and}
use Rattle.journeys.specs.Reading.{walks_at}
use Rattle.journeys.proofs.ReadLemmas.{walks_go_on, walks_fail, walks_stop, walks_done}
use Rattle.journeys.proofs.reading.walks.Goals as goal

pub returns-in_default : goal.returns-in_default
returns-in_default c =
    let bytes = c.args.bytes.now in
    let word = sym c.after.ensures ∙ ap (λ (o : Option (Bor (List ℕ))). option_map (λ x. x.now) o) c.in_default.is in
    walks_stop c.loop.walk.items (length bytes) c.loop.counter c.loop.rest.now (walks_at (length bytes) bytes) c.loop.invariant c.loop-test.true word

pub returns-in_err-footpath : goal.returns-in_err-footpath
returns-in_err-footpath c =
    let bytes = c.args.bytes.now in
    let p = err_from_is_err_and c.from_residual.result c.from_residual.ensures.1 in
    rw (p.1, p.2) (walks_fail c.loop.walk.items (length bytes) c.loop.counter c.loop.rest.now
    (walks_at (length bytes) bytes) c.loop.invariant c.in-Some.numbers.now c.in_err-footpath.field-0.0 c.loop-test.true
    (sym c.in-Some.ensures) c.in_err-footpath.ensures)

pub loop-preserved : goal.loop-preserved
loop-preserved c =
    let bytes = c.args.bytes.now in
    rw c.in_ok-push.ensures.items (walks_go_on c.loop.walk.items (length bytes) c.loop.counter c.loop.rest.now
    (walks_at (length bytes) bytes) c.loop.invariant c.in-Some.numbers.now c.in_ok-footpath.behind.now c.in_ok-footpath.footpath c.loop-test.true
    (sym c.in-Some.ensures) c.in_ok-footpath.ensures)

pub returns : goal.returns
returns c =
    let bytes = c.args.bytes.now in
    walks_done c.loop.walk.items (length bytes) c.loop.counter c.loop.rest.now (walks_at (length bytes) bytes) c.loop.invariant c.loop-test.false
