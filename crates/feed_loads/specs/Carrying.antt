-- Orders that are carried out.
use Rattle.std.specs.Prelude.{◌≡◌, ◌≤◌, ◌++◌, ◌∷◌, ℕ, true, List, [], Option, Result, MatchOption, length, map}
use Rattle.feed_loader.specs.declared.plan.Plan.{Plan}
use Rattle.load_orders.specs.Keeping.{OrderQueueId}
use Rattle.load_orders.specs.Answering.{AnsweredValue, IsSentBack, LoaderOrdersValue}
use Rattle.load_orders.specs.declared.queue.Order.{Order}
use Rattle.load_orders.specs.declared.answer_channels.LoadAnswer.{LoadAnswer}
use Rattle.orders.specs.Ordering.{order_fault_number}
use Rattle.orders.specs.declared.fault.OrderFault.{OrderFault}
use Rattle.feed_loads.specs.Drawing.{IsDrawnAt}
use Rattle.feed_loads.specs.Learned.{LoaderLearns}
use Rattle.feed_loads.specs.Loading.{IsLoadOutcome, load_answer, load_state}
use Rattle.feed_loads.specs.Words.{LoadWords}
use Rattle.feed_loads.specs.declared.drawing.DrawnFiles.{DrawnFiles}
use Rattle.feed_loads.specs.declared.loading.LoadedVersion.{LoadedVersion}
use Rattle.feed_loads.specs.declared.refusal.LoadRefusal.{LoadRefusal}

-- where loads take place: these feeds, and the queue from which their orders come
pub record LoadInput (F D T L N : Type 0) : Type 1 where
  pub words : LoadWords F D T L N
  pub feeds : F
  pub queue : OrderQueueId N

abbrev pub load_input_of : {F D T L N : Type 0} → LoadWords F D T L N → F → OrderQueueId N → LoadInput F D T L N
load_input_of words feeds queue = record { words = words; feeds = feeds; queue = queue }

-- a load: of the feed at this index, once just these orders were taken, from these files, if any were drawn; and its answer
pub record LoadValue (D N : Type 0) : Type 0 where
  pub feed : ℕ
  pub taken : List (Order N)
  pub files : Option (DrawnFiles D N)
  pub answer : LoadAnswer N

abbrev pub load_value : {D N : Type 0} → ℕ → List (Order N) → Option (DrawnFiles D N) → LoadAnswer N → LoadValue D N
load_value feed taken files answer = record { feed = feed; taken = taken; files = files; answer = answer }

-- an order, those that were taken by then, this one included, the files that were drawn for it, if any, and what was answered
pub record HandledOrder (D N : Type 0) : Type 0 where
  pub order : Order N
  pub taken : List (Order N)
  pub files : Option (DrawnFiles D N)
  pub answered : AnsweredValue N

abbrev pub handled_order_of : {D N : Type 0} → Order N → List (Order N) → Option (DrawnFiles D N) → AnsweredValue N → HandledOrder D N
handled_order_of order taken files answered = record { order = order; taken = taken; files = files; answered = answered }

-- what the loader returns: its end of the queue of orders, and the files that it used, order after order
pub record LoadsValue (D N : Type 0) : Type 0 where
  pub orders : LoaderOrdersValue N
  pub used : List (Option (DrawnFiles D N))

abbrev pub loads_value : {D N : Type 0} → LoaderOrdersValue N → List (Option (DrawnFiles D N)) → LoadsValue D N
loads_value orders used = record { orders = orders; used = used }

module _ {F D T L N : Type 0} (load_input : LoadInput F D T L N) where
  -- the files of the feed at this index, drawn when just these orders had been taken from the queue, are loaded, and the answer is what came of that
  pub record IsLoad (load : LoadValue D N) (drawn : DrawnFiles D N) (a b : L) : Type 0 where
    pub plan : Plan
    pub outcome : Result (LoadedVersion × Option N) LoadRefusal
    pub drawn_at : IsDrawnAt load_input.queue load.taken drawn
    pub are_files : load_input.words.feeds.are_files load_input.feeds load.feed drawn.first.value
    pub is_plan : load_input.words.feeds.is_plan load_input.feeds plan
    pub comes : IsLoadOutcome load_input.words.outcomes plan (load_state drawn.first.value a) outcome (load_state drawn.files b)
    pub answer_is : load.answer ≡ load_answer outcome

  -- there is no such feed, and no files are drawn
  pub record IsOfNoFeed (load : LoadValue D N) (a b : L) : Type 0 where
    pub beyond : length (load_input.words.feeds.named load_input.feeds) ≤ load.feed
    pub same : b ≡ a
    pub answer_is : load.answer ≡ LoadAnswer.Refused (order_fault_number OrderFault.UnknownFeed)

  -- the feed was loaded from the files that were drawn, or there is no such feed
  abbrev pub IsLoadOf : LoadValue D N → L → L → Type 0
  IsLoadOf load a b = MatchOption load.files (IsOfNoFeed load a b) (λ drawn. IsLoad load drawn a b)

  -- this order is carried out: its own feed is loaded, from files that are drawn for it, and what came of that very load is sent by its own answer channel
  pub record IsCarriedOut (handled : HandledOrder D N) (a b : L) : Type 0 where
    pub sent : IsSentBack handled.order.answer_channel handled.answered.answer handled.answered.sent
    pub load : IsLoadOf (load_value handled.order.feed handled.taken handled.files handled.answered.answer) a b

  -- this order, the last that was taken, is carried out, and the loader's end of the queue changes by the answer alone
  pub record Handles (order : Order N) (a b : LoadsValue D N × L) : Type 0 where
    pub answer : AnsweredValue N
    pub files : Option (DrawnFiles D N)
    pub orders_are : b.0.orders ≡ record a.0.orders { answered = a.0.orders.answered ++ answer ∷ [] }
    pub files_are : b.0.used ≡ a.0.used ++ files ∷ []
    pub carried : IsCarriedOut (handled_order_of order a.0.orders.taken files answer) a.1 b.1

  -- after these earlier orders of the queue, further ones are carried out in turn, each once, and each with files of its own
  abbrev pub AreCarriedOut : List (Order N) → List (HandledOrder D N) → L → L → Type 0
  AreCarriedOut earlier [] a b = b ≡ a
  AreCarriedOut earlier (handled ∷ handled_orders) a b =
      (m : L) × (handled.taken ≡ earlier ++ handled.order ∷ []) × IsCarriedOut handled a m × AreCarriedOut handled.taken handled_orders m b

  -- all orders that were taken were carried out in turn, each once, of these files
  pub record AreCarried (a : L) (loads : LoadsValue D N) (b : L) : Type 0 where
    pub handled_orders : List (HandledOrder D N)
    pub orders_are : loads.orders.taken ≡ map (λ handled. handled.order) handled_orders
    pub answers_are : loads.orders.answered ≡ map (λ handled. handled.answered) handled_orders
    pub files_are : loads.used ≡ map (λ handled. handled.files) handled_orders
    pub carried : AreCarriedOut [] handled_orders a b

  -- and orders were taken until none came. What was published is in the history that the loader's seat knows
  pub record AreLoaded (a : L) (loads : LoadsValue D N) (b : L) : Type 0 where
    pub over : loads.orders.over ≡ true
    pub carried : AreCarried a loads b
    pub learns : LoaderLearns load_input.words.outcomes.loader a b
