-- Where the loader works, and what it returns.
use Rattle.std.specs.Prelude.{◌≡◌}
use Rattle.load_orders.specs.Keeping.{OrderQueueId}
use Rattle.feed_loads.specs.Carrying.{AreLoaded, LoadsValue, load_input_of}
use Rattle.feed_loads.specs.Words.{LoadWords}

-- the loader's post: its seat at these shelves, these feeds, and the queue of its orders
pub record LoaderPostValue (T L F N : Type 0) : Type 0 where
  pub shelves : T
  pub seat : L
  pub feeds : F
  pub queue : OrderQueueId N

abbrev pub loader_post_of : {T L F N : Type 0} → T → L → F → OrderQueueId N → LoaderPostValue T L F N
loader_post_of shelves seat feeds queue = record { shelves = shelves; seat = seat; feeds = feeds; queue = queue }

-- what the loader returns: its end of the queue of orders, its seat, which still fits the shelves, and the loads that were ordered
pub record IsLoaderDone {F D T L N : Type 0} (words : LoadWords F D T L N) (post : LoaderPostValue T L F N) (loads : LoadsValue D N) (b : L)
    : Type 0 where
  pub queue : loads.orders.queue ≡ post.queue
  pub fits : words.outcomes.loader.fits post.shelves b
  pub loaded : AreLoaded (load_input_of words post.feeds post.queue) post.seat loads b
