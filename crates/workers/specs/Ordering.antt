-- Where workers' orders go, and what they did.
use Rattle.std.specs.Prelude.{◌≡◌, ℕ, List, String, IsPermutation, flat_map, map, string_bytes}
use Rattle.std.specs.Global.{Global}
use Rattle.handoff.specs.Queue.{IsQueue}
use Rattle.load_orders.specs.Asking.{HasAsked, OrderRoute, WorkerOrdersValue, order_words, route_of}
use Rattle.load_orders.specs.Keeping.{OrderQueueId}
use Rattle.load_orders.specs.Answering.{LoaderOrdersValue}
use Rattle.load_orders.specs.declared.queue.Order.{Order}

-- orders of feeds of these names, by this queue
abbrev pub route_to : {N : Type 0} → List (String Global) → OrderQueueId N → OrderRoute N
route_to names queue = record { names = map string_bytes names; queue = queue }

-- a worker's orders go this way, and each order that was asked for did at this queue what its answer says
abbrev pub IsAskedBy : {N : Type 0} → (N → ℕ) → OrderRoute N → WorkerOrdersValue N → Type 0
IsAskedBy noted route orders = (route_of orders ≡ route) × HasAsked (order_words (IsQueue 4) noted) orders

-- the orders that were put at these workers' ends of the queue, end after end
abbrev pub put_by : {N : Type 0} → List (WorkerOrdersValue N) → List (Order N)
put_by workers = flat_map (λ orders. orders.end.items) workers

-- the loader took what these workers put, each order once, and nothing else
abbrev pub AreAllTaken : {N : Type 0} → List (WorkerOrdersValue N) → LoaderOrdersValue N → Type 0
AreAllTaken workers loader = IsPermutation (put_by workers) loader.taken
