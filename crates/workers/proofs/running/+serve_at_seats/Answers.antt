use Rattle.std.proofs.Common.{◌≡◌, ◌∙◌, ◌++◌, ◌+◌, ◌-◌, ◌∷◌, [], All, Some, ap, arith, length, subst, sym}
use Rattle.std.proofs.lemmas.List.{flat_map_more, length-append, map-append, nil_from_length}
use Rattle.std.proofs.lemmas.List.Elements.{All-pop, All-push}
use Rattle.handoff.specs.Ends.{times}
use Rattle.load_orders.specs.Asking.{WorkerOrdersValue}
use Rattle.load_orders.specs.Keeping.{OrderKeeperValue, OrderQueueId, with_orders}
use Rattle.session.specs.declared.reply_form.ReplyForm.{ReplyForm}
use Rattle.workers.specs.Ordering.{put_by, route_to}
use Rattle.workers.specs.Posts.{IsWorked, PostValue}
use Rattle.workers.specs.Sessions.{HaveAllServed, MayBegin, worker_start, worker_starts, work_of}
use Rattle.workers.specs.Words.{sessions_of}
use Rattle.workers.proofs.Shared.{served_also, served_none}
use Rattle.workers.proofs.running.+serve_at_seats.Goals as goal

-- a worker may begin at the last seat
pub start_worker-requires-clause-begin : goal.start_worker-requires-clause-begin
start_worker-requires-clause-begin g t c κs within =
    let words = sessions_of c.args.workplace.now.form g.C.Client.words g.I.ReadStream.words g.O.WriteStream.words g.T.Versions.words in
    (All-pop (MayBegin words c.args.workplace.now.shelves.now) _ _ (Some c.in-Some.seat) c.in-Some.ensures.items c.requires.begin).1

-- and at the others
pub serve_at_seats-requires-clause-begin : goal.serve_at_seats-requires-clause-begin
serve_at_seats-requires-clause-begin g t c κs within =
    let words = sessions_of c.args.workplace.now.form g.C.Client.words g.I.ReadStream.words g.O.WriteStream.words g.T.Versions.words in
    (All-pop (MayBegin words c.args.workplace.now.shelves.now) _ _ (Some c.in-Some.seat) c.in-Some.ensures.items c.requires.begin).0

-- the others left this, and the worker left that
pub returns-in-Some-join_worker-clause-served : goal.returns-in-Some-join_worker-clause-served
returns-in-Some-join_worker-clause-served g t c =
    let workplace = c.args.workplace.now in
    let words_by = λ (form : ReplyForm). sessions_of form g.C.Client.words g.I.ReadStream.words g.O.WriteStream.words g.T.Versions.words in
    let words = words_by workplace.form in
    let started = c.in-Some-start_worker.ensures in
    let others = c.in_ok-source in
    let left = others.ensures.served in
    let dealt = left.dealt in
    let one = c.in-Some-join_worker.ensures in
    let mine = subst (λ (post : PostValue _ _ _ _ _). IsWorked (words_by post.place.form) g.F.Feeds.words post one.taker one.share) started.post
    one.worked in
    let names = g.F.Feeds.words.named workplace.feeds.now in
    let asks = c.args.asks.now in
    let route = route_to names asks.queue in
    let seat = c.in-Some.seat in
    let seats = c.pop.new.self.items in
    let items = c.in-Some.ensures.items in
    let work = work_of others.work.served others.work.seats.items others.work.asked in
    let joined = c.in-Some-join_worker.work in
    let work_then = work_of joined.served joined.seats.items joined.asked in
    let taken = c.serve_at_seats.new.dealer.view.taken in
    let starts = ap (λ list. worker_starts list route) items ∙ map-append (λ s. worker_start s route) seats (seat ∷ []) in
    let queue = ap (λ asks. asks.queue) started.ends.1 in
    let at_route = subst (λ (q : OrderQueueId _). HaveAllServed words taken (worker_starts seats (route_to names q)) work) queue left.served in
    let all = served_also words taken one.taker.taken (worker_starts seats route) (worker_start seat route) one.share work work_then at_route
    mine.served one.sessions_are one.seats_are one.asked_are in
    let one_more = length-append (worker_starts seats route) (worker_start seat route ∷ []) in
    let out = ap (λ dealer. dealer.view.out) one.clients_are in
    let went_out = ap (λ dealer. dealer.view.out) started.ends.0 in
    let ended = ap (λ dealer. dealer.view.ended) one.clients_are in
    let had_ended = dealt.ended ∙ ap (λ (q : OrderQueueId _). length (worker_starts seats (route_to names q))) queue in
    let put = put_by work.orders in
    let more = one.share.orders.end.items in
    let back : asks.out + 1 - 1 ≡ asks.out = omega arith in
    record {
      clients = left.clients;
      came = left.came;
      dealt = record {
        queue = ap (λ dealer. dealer.queue) one.clients_are ∙ dealt.queue ∙ ap (λ dealer. dealer.queue) started.ends.0;
        sent = ap (λ dealer. dealer.view.sent) one.clients_are ∙ dealt.sent;
        closings = ap (λ dealer. dealer.view.closings) one.clients_are ∙ dealt.closings;
        out = omega (arith, out, dealt.out, went_out);
        ended = omega (arith, ended, had_ended, ap times one.closed, ap length starts, one_more);
      };
      served = subst (λ list. HaveAllServed words list (worker_starts c.args.seats.items route) work_then)
          (sym (ap (λ dealer. dealer.view.taken) one.clients_are))
          (subst (λ list. HaveAllServed words (taken ++ one.taker.taken) list work_then) (sym starts) all);
      fit = subst (λ list. All (g.T.Versions.words.fits workplace.shelves.now) list) (sym one.seats_are)
          (All-push (g.T.Versions.words.fits workplace.shelves.now) _ one.share.seat left.fit mine.fits);
      orders_are = one.orders_are ∙ ap (λ (k : OrderKeeperValue _). with_orders k more)
          (left.orders_are ∙ ap (λ (k : OrderKeeperValue _). record k { put = put }) started.ends.1)
          ∙ ap (λ n. record asks { out = n; put = put ++ more }) back
          ∙ ap (λ list. record asks { put = list })
          (flat_map_more (λ (orders : WorkerOrdersValue _). orders.end.items) [] work.orders one.share.orders ∙ sym (ap put_by one.asked_are));
    }

-- no worker is left: all clients are dealt
pub returns-in_default-clause-served : goal.returns-in_default-clause-served
returns-in_default-clause-served g t c =
    let words = sessions_of c.args.workplace.now.form g.C.Client.words g.I.ReadStream.words g.O.WriteStream.words g.T.Versions.words in
    let route = route_to (g.F.Feeds.words.named c.args.workplace.now.feeds.now) c.args.asks.now.queue in
    let put = c.deal_all-source.ensures.put in
    let was = c.requires.unused.none_put in
    let many = c.in_default.ensures.cases in
    let empty = nil_from_length c.args.seats.items (omega (arith, many.0, c.args.seats.ok.0)) in
    let none = ap (λ list. worker_starts list route) empty in
    let work = work_of c.new.result c.pop.new.self.items c.none.result in
    let closings = ap (λ dealer. dealer.view.closings) put.2 in
    record {
      clients = put.0;
      came = put.1;
      dealt = record {
        queue = ap (λ dealer. dealer.queue) put.2;
        sent = ap (λ dealer. dealer.view.sent) put.2 ∙ ap (λ v. v.sent ++ put.0) was;
        closings = omega (arith, closings, ap (λ v. v.closings) was);
        out = ap (λ dealer. dealer.view.out) put.2;
        ended = ap (λ dealer. dealer.view.ended) put.2 ∙ ap (λ v. v.ended) was ∙ sym (ap length none);
      };
      served = subst (λ starts. HaveAllServed words c.deal_all-source.new.dealer.view.taken starts work) (sym none)
          (served_none words _ work (ap (λ dealer. dealer.view.taken) put.2 ∙ ap (λ v. v.taken) was) c.new.ensures
          (nil_from_length c.pop.new.self.items (omega (arith, many.1, c.pop.new.self.ok.0))) c.none.ensures);
      fit = λ i d below. absurd (omega (arith, below, many.1, c.pop.new.self.ok.0));
      orders_are = ap (λ list. record c.args.asks.now { put = list }) (c.requires.unused.none_asked ∙ sym (ap put_by c.none.ensures));
    }
