-- What the ends of the queue show.
use Rattle.std.specs.Prelude.{◌≡◌, ◌<◌, ◌+◌, ◌-◌, ◌++◌, ◌∷◌, true, [], IsPermutation}
use Rattle.handoff.specs.Ends.{KeeperValue, QueueId, TakerValue, times}
use Rattle.handoff.specs.declared.queue.KeeperView.{KeeperView}
use Rattle.client_queue.specs.declared.queue.DealerView.{DealerView}

-- the end where clients are put, as contracts see it
pub record DealerValue (C : Type 0) : Type 0 where
  pub queue : QueueId C
  pub view : DealerView C

-- what the end that keeps the queue knows, while no other end puts clients
abbrev pub dealer_of : {C : Type 0} → KeeperView C → DealerView C
dealer_of k = record { sent = k.put; closings = k.closings; out = k.taking; taken = k.taken; ended = k.ended }

-- no other end puts clients, and takers may go out
abbrev pub IsDealer : {C : Type 0} → KeeperValue C → Type 0
IsDealer keeper = (keeper.view.putting ≡ 0) × (keeper.opens ≡ true)

-- nothing was put, and no taker is out
abbrev pub nothing_put : {C : Type 0} → DealerView C
nothing_put = record { sent = []; closings = 0; out = 0; taken = []; ended = 0 }

abbrev pub out_once_more : {C : Type 0} → DealerValue C → DealerValue C
out_once_more a = record a { view = record a.view { out = a.view.out + 1 } }

abbrev pub with_sent : {C : Type 0} → DealerValue C → C → DealerValue C
with_sent a client = record a { view = record a.view { sent = a.view.sent ++ client ∷ [] } }

abbrev pub closed_for_taker : {C : Type 0} → DealerValue C → DealerValue C
closed_for_taker a = record a { view = record a.view { closings = a.view.closings + 1 } }

-- a taker is back, with what it had taken
abbrev pub with_taker_back : {C : Type 0} → DealerValue C → TakerValue C → DealerValue C
with_taker_back a taker = record a {
  view = record a.view {
    out = a.view.out - 1;
    taken = a.view.taken ++ taker.taken;
    ended = a.view.ended + times taker.closed;
  };
}

-- once no taker is out, and each came back because the queue was closed for it, what they took is what was put, each client once
abbrev pub AllClientsWereTaken : {C : Type 0} → DealerView C → Type 0
AllClientsWereTaken d = d.out ≡ 0 → 0 < d.closings → d.ended ≡ d.closings → IsPermutation d.sent d.taken
