use Rattle.std.proofs.Common.{map, rules, string_bytes}
use Rattle.orders.specs.Ordering.{order_value}
use Rattle.load_orders.specs.Asking.{AsksOrder, WorkerOrdersValue, order_words}
use Rattle.load_orders.proofs.AskLemmas.{asked_more}
use Rattle.load_orders.proofs.taking.WorkerOrdersOrders.order.Goals as goal

-- one more was asked for
pub invariant_of-self : goal.invariant_of-self
invariant_of-self g c =
    let here = c.self.inside in
    let put = c.put_named-outcome in
    let names = map string_bytes here.names.now in
    let words = order_words g.P.Protocol.holds g.T.Versions.words.version in
    let before : WorkerOrdersValue _ = record { names = names; end = here.end; asked = here.asked; received = here.received } in
    let after : WorkerOrdersValue _ = record { names = names; end = put.new.end; asked = c.note.new.self; received = here.received } in
    let puts = put.ensures.put here.received in
    let did : AsksOrder words (order_value c.args.feed.now put.result) before after = search rules in
    asked_more words _ before after c.self.invariant did

pub returns-clause-asked : goal.returns-clause-asked
returns-clause-asked g c = let puts = c.put_named-outcome.ensures.put c.self.inside.received in search rules
