use Rattle.std.proofs.Common.{rules, ◌∙◌, ap}
use Rattle.workers.specs.Sessions.{share_of}
use Rattle.workers.proofs.posts.join_worker.Goals as goal

-- the worker's ends are of these queues
pub take_back-requires : goal.take_back-requires
take_back-requires g c = c.join-share.ensures.queue ∙ c.requires.clients

pub take_in-requires : goal.take_in-requires
take_in-requires g c = ap (λ route. route.queue) c.join-share.ensures.served.asked.0 ∙ c.requires.orders

-- what it left is added
pub returns : goal.returns
returns g c =
    let share = c.join-share.result.0 in
    record {
      taker = share.taker;
      share = share_of share.served share.seat c.join-share.result.1;
      worked = c.join-share.ensures;
      closed = search rules;
      clients_are = c.take_back.ensures;
      orders_are = c.take_in.ensures;
      sessions_are = c.join.ensures;
      seats_are = c.in-Ok.ensures.items;
      asked_are = c.note.ensures;
    }
