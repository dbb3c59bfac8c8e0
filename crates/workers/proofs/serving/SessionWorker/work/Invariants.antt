use Rattle.std.proofs.Common.{◌≡◌}
use Rattle.workers.specs.Sessions.{AreServed, worker_state}
use Rattle.workers.specs.Words.{sessions_of}
use Rattle.workers.proofs.serving.SessionWorker.work.Given as goal

abbrev pub invariant-loop : goal.invariant-loop
invariant-loop g l = record {
  next : (goal.iterator-loop g).can_next l.iterator';
  finite : (goal.iterator-loop g).is_finite l.iterator';
  queue : l.taker.queue ≡ l.fn.taker.queue;
  route : g.O.Orders.route l.orders ≡ g.O.Orders.route l.fn.orders;
  fits : g.T.Versions.words.fits l.self.session_server.shelves.now l.seat;
  served : AreServed (sessions_of l.self.session_server.form g.C.Client.words g.C.Reader.ReadStream.words g.C.Writer.WriteStream.words
      g.T.Versions.words) l.taker.taken l.served
      (worker_state l.fn.seat (g.O.Orders.asked l.fn.orders)) (worker_state l.seat (g.O.Orders.asked l.orders));
}
