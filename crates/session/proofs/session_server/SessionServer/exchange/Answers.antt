use Rattle.std.proofs.Common.{Err, ap, subst}
use Rattle.serde_json.specs.View.{view}
use Rattle.session_texts.specs.declared.judging.LineFault.{LineFault}
use Rattle.session_texts.specs.Names.{Unless}
use Rattle.session.proofs.ExchangeLemmas.{asks_line, bad_json_exchange, bad_request_exchange, load_exchange, memory_exchange}
use Rattle.session.proofs.ExchangeLemmas.{order_exchange, seat_exchange, too_long_exchange, waits_as, whole}
use Rattle.session.proofs.session_server.SessionServer.exchange.Goals as goal

pub returns-in-TooLong-clause-exchange : goal.returns-in-TooLong-clause-exchange
returns-in-TooLong-clause-exchange g c = λ l shows. too_long_exchange c.args.line _ c.in-TooLong.is shows c.refusal.ensures

pub returns-in-NoRoom-clause-exchange : goal.returns-in-NoRoom-clause-exchange
returns-in-NoRoom-clause-exchange g c = λ l shows. memory_exchange _ c.refusal-in-NoRoom.ensures

pub returns-in-Err-BadJson-clause-exchange : goal.returns-in-Err-BadJson-clause-exchange
returns-in-Err-BadJson-clause-exchange g c = λ l shows.
    bad_json_exchange c.in-Whole.bytes.now _ (whole c.args.line c.in-Whole.bytes l c.in-Whole.is shows)
    (c.in-Err-BadJson.ensures.bad (ap (λ (fault : LineFault). Err fault) c.in-Err-BadJson.field-0-is)) c.refusal-in-Err-BadJson.ensures

pub returns-in-Err-OutOfMemory-clause-exchange : goal.returns-in-Err-OutOfMemory-clause-exchange
returns-in-Err-OutOfMemory-clause-exchange g c = λ l shows. memory_exchange _ c.refusal-in-Err-OutOfMemory.ensures

pub returns-in-Err-BadRequest-clause-exchange : goal.returns-in-Err-BadRequest-clause-exchange
returns-in-Err-BadRequest-clause-exchange g c = λ l shows.
    bad_request_exchange c.in-Whole.bytes.now _ (view c.in-Ok.value) (whole c.args.line c.in-Whole.bytes l c.in-Whole.is shows) c.in-Ok.ensures.value
    (subst (Unless _) c.in-Err-BadRequest.field-0-is c.in-Err-BadRequest.ensures) c.refusal-in-Err-BadRequest.ensures

pub returns-in-Err-OutOfMemory-request_of-clause-exchange : goal.returns-in-Err-OutOfMemory-request_of-clause-exchange
returns-in-Err-OutOfMemory-request_of-clause-exchange g c = λ l shows. memory_exchange _ c.refusal-in-Err-OutOfMemory-request_of.ensures

pub returns-in-Ok-Pin-clause-exchange : goal.returns-in-Ok-Pin-clause-exchange
returns-in-Ok-Pin-clause-exchange g c = λ l shows.
    seat_exchange _ _ _ (asks_line _ _ l (view c.in-Ok.value) (whole c.args.line c.in-Whole.bytes l c.in-Whole.is shows) c.in-Ok.ensures.value
    c.in-Ok-Pin.field-0-is c.in-Ok-Pin.ensures) c.pin.ensures.met

pub returns-in-Ok-Release-clause-exchange : goal.returns-in-Ok-Release-clause-exchange
returns-in-Ok-Release-clause-exchange g c = λ l shows.
    seat_exchange _ _ _ (asks_line _ _ l (view c.in-Ok.value) (whole c.args.line c.in-Whole.bytes l c.in-Whole.is shows) c.in-Ok.ensures.value
    c.in-Ok-Release.field-0-is c.in-Ok-Release.ensures) c.release.ensures.met

pub returns-in-Ok-Profile-clause-exchange : goal.returns-in-Ok-Profile-clause-exchange
returns-in-Ok-Profile-clause-exchange g c = λ l shows.
    seat_exchange _ _ _ (asks_line _ _ l (view c.in-Ok.value) (whole c.args.line c.in-Whole.bytes l c.in-Whole.is shows) c.in-Ok.ensures.value
    c.in-Ok-Profile.field-0-is c.in-Ok-Profile.ensures) c.answer_profile.ensures.met

pub returns-in-Ok-Load-default-false-clause-exchange : goal.returns-in-Ok-Load-default-false-clause-exchange
returns-in-Ok-Load-default-false-clause-exchange g c = λ l shows.
    let put = c.order_feed.ensures.put in
    let arm = c.in-Ok-Load-default-false in
    let here = whole c.args.line c.in-Whole.bytes l c.in-Whole.is shows in
    let asked = asks_line _ _ l (view c.in-Ok.value) here c.in-Ok.ensures.value arm.field-0-is arm.ensures in
    order_exchange _ put.0 _ arm.feed.now (waits_as c.args.self.now.form.sets l arm.feed.now arm.field-0-1 _ arm.field-0-1-test asked) put.1 put.2

pub returns-clause-exchange : goal.returns-clause-exchange
returns-clause-exchange g c = λ l shows.
    let deed = c.load_feed.ensures.met in
    let arm = c.in-Ok-Load-default-true in
    let here = whole c.args.line c.in-Whole.bytes l c.in-Whole.is shows in
    let asked = asks_line _ _ l (view c.in-Ok.value) here c.in-Ok.ensures.value arm.field-0-is arm.ensures in
    load_exchange _ _ deed.0 _ arm.feed.now (waits_as c.args.self.now.form.sets l arm.feed.now arm.field-0-1 _ arm.field-0-1-test asked) deed.1 deed.2 deed.3
