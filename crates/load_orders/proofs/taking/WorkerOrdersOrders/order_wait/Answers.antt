use Rattle.std.proofs.Common.{map, rules, string_bytes}
use Rattle.load_orders.specs.Asking.{AsksAndWaits, WorkerOrdersValue, order_words}
use Rattle.load_orders.proofs.AskLemmas.{asked_more, waited_is_asked}
use Rattle.load_orders.proofs.taking.WorkerOrdersOrders.order_wait.Goals as goal

-- one more was asked for
pub invariant_of-self : goal.invariant_of-self
invariant_of-self g c =
    let here = c.self.inside in
    let waited = c.wait_for-outcome in
    let names = map string_bytes here.names.now in
    let words = order_words g.P.Protocol.holds g.T.Versions.words.version in
    let before : WorkerOrdersValue _ = record { names = names; end = here.end; asked = here.asked; received = here.received } in
    let after : WorkerOrdersValue _ = record { names = names; end = waited.new.end; asked = c.note.new.self; received = waited.new.received } in
    let did : AsksAndWaits words c.args.feed.now waited.result before after = search rules in
    asked_more words _ before after c.self.invariant (waited_is_asked words _ _ before after did)
