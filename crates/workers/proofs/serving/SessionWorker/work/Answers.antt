use Rattle.std.proofs.Common.{ap, refl, sym, subst, ◌∙◌, ◌++◌, ◌∷◌, []}
use Rattle.handoff.specs.Ends.{TakerValue}
use Rattle.workers.specs.Sessions.{AreServed, worker_state}
use Rattle.workers.specs.Words.{sessions_of}
use Rattle.workers.proofs.Ending.{may_close, served_also}
use Rattle.workers.proofs.ExactSessions.{exact}
use Rattle.workers.proofs.serving.SessionWorker.work.Goals as goal

pub loop-init : goal.loop-init
loop-init g c =
    let words = sessions_of c.args.self.now.session_server.form g.C.Client.words g.C.Reader.ReadStream.words g.C.Writer.WriteStream.words
    g.T.Versions.words in
    let a = worker_state c.args.seat (g.O.Orders.asked c.args.orders) in
    let ready = c.requires.ready in
    record {
      next = tt;
      finite = tt;
      queue = refl;
      route = refl;
      fits = ready.fits;
      served = subst (λ clients. AreServed words clients c.args.served a a) (sym ready.none_taken)
          (subst (λ list. AreServed words [] list a a) (sym ready.none_served) refl);
    }

-- a client more was taken and served
pub loop-preserved : goal.loop-preserved
loop-preserved g c =
    let words = sessions_of c.args.self.now.session_server.form g.C.Client.words g.C.Reader.ReadStream.words g.C.Writer.WriteStream.words
    g.T.Versions.words in
    let was = c.loop.invariant in
    let one = c.serve_client-session in
    let noted = c.close_client in
    let next = c.in-Some-next.ensures.1 in
    let asked = g.O.Orders.asked in
    let a = worker_state c.args.seat (asked c.args.orders) in
    let b = worker_state one.new.seat (asked one.new.orders) in
    let also = served_also words c.loop.taker.taken c.loop.served c.in-Some-next.client one.result a (worker_state c.loop.seat (asked c.loop.orders)) b
    was.served one.ensures.session in
    record {
      next = tt;
      finite = tt;
      queue = ap (λ (taker : TakerValue _). taker.queue) next ∙ was.queue;
      route = one.ensures.route ∙ was.route;
      fits = one.ensures.fits;
      served = subst (λ clients. AreServed words clients noted.new.served a b) (sym (ap (λ (taker : TakerValue _). taker.taken) next))
          (subst (λ list. AreServed words (c.loop.taker.taken ++ c.in-Some-next.client ∷ []) list a b) (sym noted.ensures) also);
    }

-- what was served may be closed
pub close_client-requires-clause-closes : goal.close_client-requires-clause-closes
close_client-requires-clause-closes g c =
    let words = sessions_of c.args.self.now.session_server.form g.C.Client.words g.C.Reader.ReadStream.words g.C.Writer.WriteStream.words
    g.T.Versions.words in
    let one = c.serve_client-session in
    let asked = g.O.Orders.asked in
    λ lifetimes outlive. may_close words c.loop.taker.taken c.loop.served c.in-Some-next.client one.result
    (worker_state c.args.seat (asked c.args.orders)) (worker_state c.loop.seat (asked c.loop.orders)) (worker_state one.new.seat (asked one.new.orders))
    c.requires.ready.closes c.loop.invariant.served one.ensures.session

-- none came any more; and what was reported exactly while a client was served is so still
pub returns-in-None-next-clause-served : goal.returns-in-None-next-clause-served
returns-in-None-next-clause-served g c =
    let words = sessions_of c.args.self.now.session_server.form g.C.Client.words g.C.Reader.ReadStream.words g.C.Writer.WriteStream.words
    g.T.Versions.words in
    let asked = g.O.Orders.asked in
    let a = worker_state c.args.seat (asked c.args.orders) in
    let b = worker_state c.loop.seat (asked c.loop.orders) in
    let last = c.in-None-next.ensures.0 in
    let served = subst (λ clients. AreServed words clients c.loop.served a b) (sym (ap (λ (taker : TakerValue _). taker.taken) last)) c.loop.invariant.served in
    record {
      fits = c.loop.invariant.fits;
      queue_is = ap (λ (taker : TakerValue _). taker.queue) last ∙ c.loop.invariant.queue;
      over = ap (λ (taker : TakerValue _). taker.over) last;
      served = served;
      exact = λ idle. exact words _ c.loop.served a b idle served;
    }
