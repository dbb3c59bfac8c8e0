use Rattle.std.proofs.Common.{◌∙◌, ap, arith, subst, sym}
use Rattle.std.proofs.lemmas.List.{length-map}
use Rattle.std.specs.Prelude.{IsPermutation}
use Rattle.load_orders.specs.Keeping.{OrderKeeperValue, OrderQueueId}
use Rattle.feed_loads.specs.Carrying.{AreLoaded, load_input_of, loads_value}
use Rattle.feed_loads.specs.Posts.{IsLoaderDone, LoaderPostValue}
use Rattle.feed_loads.specs.Words.{loads_of, outcomes_of}
use Rattle.workers.specs.Ordering.{route_to}
use Rattle.workers.specs.Sessions.{AreAllServed, worker_start, worker_starts, work_of}
use Rattle.workers.specs.Words.{sessions_of}
use Rattle.workers.proofs.running.run_in.Goals as goal

-- a worker may begin at each seat
pub serve_at_seats-requires-clause-begin : goal.serve_at_seats-requires-clause-begin
serve_at_seats-requires-clause-begin g c κs within = λ i d below. record { fits = c.requires.ready.fit i d below; closes = c.requires.closes i d below }

-- all clients were served and all orders carried out
pub returns-in-Some : goal.returns-in-Some
returns-in-Some g c =
    let workplace = c.args.workplace.now in
    let words = sessions_of workplace.form g.C.Client.words g.I.ReadStream.words g.O.WriteStream.words g.T.Versions.words in
    let loads = loads_of g.F.Feeds.words (outcomes_of g.D.FeedFiles.words g.T.Loads.words g.T.Versions.words.version) in
    let ran = c.in_ok-clients in
    let served = ran.ensures.served in
    let dealt = served.dealt in
    let after = c.in-Some in
    let value = loads_value after.loader_orders after.used in
    let done = subst (λ (post : LoaderPostValue _ _ _ _). IsLoaderDone loads post value after.loader) c.in-Ok-start_loader.ensures after.ensures.done.1 in
    let names = g.F.Feeds.words.named workplace.feeds.now in
    let queue = ap (λ (k : OrderKeeperValue _). k.queue) c.in-Ok-order_queue.ensures.keeper ∙ sym done.queue in
    let work = work_of ran.work.served ran.work.seats.items ran.work.asked in
    let none = ap (λ v. v.out) c.in-Ok.ensures in
    let starts = length-map c.args.seats.items (λ seat. worker_start seat (route_to names c.in-Ok-order_queue.asks.queue)) in
    let all = c.all_were_taken.ensures.all (dealt.out ∙ none) (omega (arith, dealt.closings, c.len-takers.ensures, c.requires.ready.some))
    (omega (arith, dealt.closings, c.len-takers.ensures, dealt.ended, starts)) in
    let taken = c.serve_at_seats.new.dealer.view.taken in
    let shared = served.served served.clients (subst (λ sent. IsPermutation sent taken) dealt.sent all) in
    record {
      left = record { clients = ran.ensures.source; fit = served.fit; loader_fits = done.fits };
      served = record {
        clients = served.clients;
        came = served.came;
        all = subst (λ (q : OrderQueueId _). AreAllServed words served.clients (worker_starts c.args.seats.items (route_to names q)) work) queue shared;
      };
      loaded = record {
        taken = subst (λ list. IsPermutation list after.loader_orders.taken) (ap (λ keeper. keeper.put) served.orders_are) after.ensures.done.0;
        loaded = subst (λ (q : OrderQueueId _). AreLoaded (load_input_of loads workplace.feeds.now q) c.args.loader value after.loader)
            (sym done.queue) done.loaded;
      };
    }
