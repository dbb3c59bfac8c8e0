-- Orders that are carried out one after the other.
use Rattle.std.proofs.Common.{◌≡◌, ◌∙◌, ◌++◌, ◌∷◌, false, List, [], length, map, refl, sym, subst, ap}
use Rattle.std.proofs.lemmas.List.{append_assoc, append-nil, length-map, map-append}
use Rattle.load_orders.specs.Answering.{LoaderOrdersValue}
use Rattle.load_orders.specs.declared.queue.Order.{Order}
use Rattle.feed_loads.specs.Carrying.{AreCarried, AreCarriedOut, LoadInput, HandledOrder, IsCarriedOut, LoadsValue}

module _ {F D T L N : Type 0} (load_input : LoadInput F D T L N) where
  -- one more behind the others
  carried_also : (earlier : List (Order N)) (handled_orders : List (HandledOrder D N)) (handled : HandledOrder D N) (a m b : L)
      → AreCarriedOut load_input earlier handled_orders a m → handled.taken ≡ (earlier ++ map (λ e. e.order) handled_orders) ++ handled.order ∷ []
      → IsCarriedOut load_input handled m b → AreCarriedOut load_input earlier (handled_orders ++ handled ∷ []) a b
  carried_also earlier [] handled a m b so_far taken added = (
    b,
    taken ∙ ap (λ list. list ++ handled.order ∷ []) (append-nil earlier),
    subst (λ (from : L). IsCarriedOut load_input handled from b) so_far added,
    refl,
  )
  carried_also earlier (first ∷ handled_orders) handled a m b so_far taken added =
      let others = map (λ (e : HandledOrder D N). e.order) handled_orders in
      let regrouped : earlier ++ first.order ∷ others ≡ first.taken ++ others =
      sym (append_assoc earlier (first.order ∷ []) others) ∙ ap (λ list. list ++ others) (sym so_far.1) in
      let behind = taken ∙ ap (λ list. list ++ handled.order ∷ []) regrouped in
      (so_far.0, so_far.1, so_far.2, carried_also first.taken handled_orders handled so_far.0 m b so_far.3 behind added)

  -- each order that was taken was answered
  pub each_answered : (a : L) (loads : LoadsValue D N) (b : L) → AreCarried load_input a loads b → length loads.orders.answered ≡ length loads.orders.taken
  each_answered a loads b is =
      ap length is.answers_are ∙ length-map is.handled_orders (λ handled. handled.answered)
      ∙ sym (ap length is.orders_are ∙ length-map is.handled_orders (λ handled. handled.order))

  -- an order more was taken and carried out
  pub carries_also : (a m b : L) (loads loads_then : LoadsValue D N) (handled : HandledOrder D N) → AreCarried load_input a loads m
      → handled.taken ≡ loads.orders.taken ++ handled.order ∷ []
      → loads_then.orders ≡ record loads.orders { taken = handled.taken; answered = loads.orders.answered ++ handled.answered ∷ []; over = false }
      → loads_then.used ≡ loads.used ++ handled.files ∷ [] → IsCarriedOut load_input handled m b → AreCarried load_input a loads_then b
  carries_also a m b loads loads_then handled is at orders uses added =
      let taken = at ∙ ap (λ list. list ++ handled.order ∷ []) is.orders_are in
      record {
        handled_orders = is.handled_orders ++ handled ∷ [];
        orders_are = ap (λ (o : LoaderOrdersValue N). o.taken) orders ∙ taken ∙ sym (map-append (λ e. e.order) is.handled_orders (handled ∷ []));
        answers_are = ap (λ (o : LoaderOrdersValue N). o.answered) orders ∙ ap (λ list. list ++ handled.answered ∷ []) is.answers_are
            ∙ sym (map-append (λ e. e.answered) is.handled_orders (handled ∷ []));
        files_are = uses ∙ ap (λ list. list ++ handled.files ∷ []) is.files_are ∙ sym (map-append (λ e. e.files) is.handled_orders (handled ∷ []));
        carried = carried_also [] is.handled_orders handled a m b is.carried taken added;
      }
