use Rattle.std.proofs.Common.{◌∙◌, ◌++◌, ◌∷◌, refl, subst, ap, []}
use Rattle.load_orders.specs.Answering.{LoaderOrdersValue}
use Rattle.load_orders.specs.Keeping.{OrderQueueId}
use Rattle.feed_loads.specs.Carrying.{IsCarriedOut, load_input_of, handled_order_of, loads_value}
use Rattle.feed_loads.specs.Words.{loads_of, outcomes_of}
use Rattle.feed_loads.proofs.Carried.{carries_also, each_answered}
use Rattle.feed_loads.proofs.Learning.{loader_goes_on, loader_goes_same}
use Rattle.feed_loads.proofs.carrying.LoadContext.load_all.Goals as goal

-- nothing was taken yet
pub loop-init : goal.loop-init
loop-init g c =
    let none = c.requires.none in
    record {
      next = tt;
      finite = tt;
      queue = refl;
      seat = loader_goes_same _ _ _ c.requires.loads;
      carried = record { handled_orders = []; orders_are = none.0; answers_are = none.1; files_are = none.2; carried = refl };
    }

-- each order that was taken was answered before the next is
pub next-requires-in-loop : goal.next-requires-in-loop
next-requires-in-loop g c = each_answered _ c.args.seat (loads_value c.loop.orders c.loop.used) c.loop.seat c.loop.invariant.carried

-- an order more was taken and carried out
pub loop-preserved : goal.loop-preserved
loop-preserved g c =
    let words = loads_of g.F.Feeds.words (outcomes_of
    g.F.Files.FeedFiles.words
    g.T.Loads.words g.T.Versions.words.version) in
    let feeds = c.args.self.now.feeds.now in
    let one = c.carry_out.ensures.carried in
    let next = c.in-Some-next.ensures.1 in
    let at_queue = ap (λ (o : LoaderOrdersValue _). o.queue) next ∙ c.loop.invariant.queue in
    let handled = handled_order_of c.in-Some-next.order c.next-in-loop.new.self.taken one.files one.answer in
    let added = subst (λ (queue : OrderQueueId _). IsCarriedOut (load_input_of words feeds queue) handled c.loop.seat c.carry_out.new.seat) at_queue
    one.carried in
    let taken = ap (λ (o : LoaderOrdersValue _). o.taken) next in
    let answered = ap (λ (o : LoaderOrdersValue _). record o { taken = handled.taken; answered = o.answered ++ one.answer ∷ [] }) next in
    record {
      next = tt;
      finite = tt;
      queue = ap (λ (o : LoaderOrdersValue _). o.queue) one.orders_are ∙ at_queue;
      seat = loader_goes_on _ _ _ _ _ c.loop.invariant.seat c.carry_out.ensures.seat;
      carried = carries_also _ c.args.seat c.loop.seat c.carry_out.new.seat
          (loads_value c.loop.orders c.loop.used) (loads_value c.carry_out.new.orders c.carry_out.new.used) handled c.loop.invariant.carried
          taken (one.orders_are ∙ answered) one.files_are added;
    }

-- none came any more
pub returns-in-None-next : goal.returns-in-None-next
returns-in-None-next g c =
    let last = c.in-None-next.ensures in
    let was = c.loop.invariant.carried in
    record {
      queue = ap (λ (o : LoaderOrdersValue _). o.queue) last.0 ∙ c.loop.invariant.queue;
      fits = c.loop.invariant.seat.fits;
      loaded = record {
        over = ap (λ (o : LoaderOrdersValue _). o.over) last.0;
        carried = record {
          handled_orders = was.handled_orders;
          orders_are = ap (λ (o : LoaderOrdersValue _). o.taken) last.0 ∙ was.orders_are;
          answers_are = ap (λ (o : LoaderOrdersValue _). o.answered) last.0 ∙ was.answers_are;
          files_are = was.files_are;
          carried = was.carried;
        };
        learns = c.loop.invariant.seat.learns;
      };
    }
