-- Orders that are asked for, one after the other.
use Rattle.std.proofs.Common.{◌++◌, ◌∷◌, ℕ, List, [], Result, subst, sym, refl}
use Rattle.orders.specs.Ordering.{OrderValue, version_alone, waited_value}
use Rattle.orders.specs.declared.fault.OrderFault.{OrderFault}
use Rattle.load_orders.specs.Asking.{AsksOrders, AsksAndWaits, AsksOrder, HasAsked, OrderRoute, OrderWords, WorkerOrdersValue, nothing_asked, route_of}

module _ {N : Type 0} (words : OrderWords N) where
  one_more : (orders : List OrderValue) (order : OrderValue) (a b c : WorkerOrdersValue N) → AsksOrders words orders a b → AsksOrder words order b c
      → AsksOrders words (orders ++ order ∷ []) a c
  one_more [] order a b c is asks = (c, subst (λ (x : WorkerOrdersValue N). AsksOrder words order x c) is asks, refl)
  one_more (first ∷ orders) order a b c is asks = (is.0, is.1, one_more orders order is.0 b c is.2 asks)

  -- a further order is asked for
  pub asked_more : (order : OrderValue) (b c : WorkerOrdersValue N) → HasAsked words b → AsksOrder words order b c → HasAsked words c
  asked_more order b c is asks =
      let all = one_more b.asked order (nothing_asked (route_of b) is.0) b c is.1 asks in
      let here = subst (λ (route : OrderRoute N). AsksOrders words (b.asked ++ order ∷ []) (nothing_asked route is.0) c) (sym asks.1.0) all in
      (is.0, subst (λ (orders : List OrderValue). AsksOrders words orders (nothing_asked (route_of c) is.0) c) (sym asks.1.1) here)

  -- an order that is waited for is one that is asked for
  pub waited_is_asked : (feed : List ℕ) (came : Result (ℕ × N) OrderFault) (b c : WorkerOrdersValue N) → AsksAndWaits words feed came b c
      → AsksOrder words (waited_value feed (version_alone came)) b c
  waited_is_asked feed came b c is = ((came, refl, is.0), is.1)
