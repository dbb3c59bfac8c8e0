-- Clients who come one after the other, and are put in the queue.
use Rattle.std.specs.Prelude.{◌≡◌, ◌+◌, ◌++◌, ℕ, List}
use Rattle.client_queue.specs.Ends.{DealerValue}

-- a source of clients: those who came so far, in order; that there is no further one; and the facts that may hold of it. Once a fact holds, it
-- holds after each client
pub record SourceWords (K C : Type 0) : Type 1 where
  pub came : K → List C
  pub none_left : K → Type 0
  pub Fact : Type 0
  pub holds : K → Fact → Type 0

-- no further client comes, and what held of their source holds still
pub record IsExhausted {K C : Type 0} (source : SourceWords K C) (before after : K) : Type 0 where
  pub none_left : source.none_left after
  pub holds : (fact : source.Fact) → source.holds before fact → source.holds after fact

-- those who came since were put in the queue, in order, and nothing else was done there
abbrev pub IsPutSince : {C : Type 0} → List C → List C → DealerValue C → DealerValue C → Type 0
IsPutSince {C} came came_then before after = (since : List C) × (came_then ≡ came ++ since)
    × (after ≡ record before { view = record before.view { sent = before.view.sent ++ since } })

-- these were put in the queue, and then it was closed for so many takers
abbrev pub IsClosedFor : {C : Type 0} → ℕ → List C → DealerValue C → DealerValue C → Type 0
IsClosedFor takers since before after = after ≡ record before {
  view = record before.view {
    sent = before.view.sent ++ since;
    closings = before.view.closings + takers;
  };
}
