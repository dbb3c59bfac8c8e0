use Rattle.std.proofs.Common.{◌≡◌}
use Rattle.client_queue.specs.Dealing.{IsPutSince}
use Rattle.client_queue.proofs.dealing.put_all.Given as goal

abbrev pub invariant-loop : goal.invariant-loop
invariant-loop g l = record {
  next : (goal.iterator-loop g).can_next l.iterator';
  finite : (goal.iterator-loop g).is_finite l.iterator';
  put : IsPutSince (g.K.Clients.words.came l.fn.clients) (g.K.Clients.words.came l.clients) l.fn.dealer l.dealer;
  holds : (fact : g.K.Clients.words.Fact) → g.K.Clients.words.holds l.fn.clients fact → g.K.Clients.words.holds l.clients fact;
  open_yet : l.dealer.view.closings ≡ 0;
}
