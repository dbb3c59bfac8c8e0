use Rattle.std.proofs.Common.{[], refl, sym, append-nil, inr}
use Rattle.session.proofs.session_server.SessionServer.order_feed.Goals as goal

pub returns-in_default-clause-put : goal.returns-in_default-clause-put
returns-in_default-clause-put g c = ([], sym (append-nil (g.O.Orders.asked c.args.orders.now)), inr (refl, c.refusal.ensures))
