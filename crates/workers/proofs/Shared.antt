-- Workers' shares, put together.
use Rattle.std.proofs.Common.{◌≡◌, ◌∙◌, ◌++◌, ◌∷◌, List, [], sym, subst, ap}
use Rattle.std.proofs.lemmas.List.{flat_map_more, map-append}
use Rattle.std.proofs.lemmas.List.Sorted.{IsPermutation-append, IsPermutation-refl, IsPermutation-trans}
use Rattle.std.specs.Prelude.{IsPermutation, flat_map}
use Rattle.workers.specs.Sessions.{AreShares, HaveAllServed, IsShare, WorkerStart, ShareValue, WorkValue}
use Rattle.workers.specs.Words.{SessionWords}

module _ {C R W T S N : Type 0} (words : SessionWords C R W T S N) where
  -- one share more behind the others
  shares_also : (starts : List (WorkerStart S N)) (hands : List (List C)) (shares : List (ShareValue R W S N))
      (start : WorkerStart S N) (hand : List C) (share : ShareValue R W S N)
      → AreShares words starts hands shares → IsShare words start hand share
      → AreShares words (starts ++ start ∷ []) (hands ++ hand ∷ []) (shares ++ share ∷ [])
  shares_also [] [] [] start hand share before added = (added, tt)
  shares_also (p ∷ starts) (h ∷ hands) (s ∷ shares) start hand share before added =
      (before.0, shares_also starts hands shares start hand share before.1 added)
  shares_also starts hands shares start hand share before added = absurd before

  -- there is no worker, and none was taken
  pub served_none : (taken : List C) (work : WorkValue R W S N) → taken ≡ [] → work.sessions ≡ [] → work.seats ≡ [] → work.orders ≡ []
      → HaveAllServed words taken [] work
  served_none taken work untaken none none_held unused clients same = record {
    hands = [];
    dealt = subst (λ list. IsPermutation clients list) untaken same;
    shares = [];
    each = tt;
    sessions_are = none;
    seats_are = none_held;
    orders_are = unused;
  }

  -- one worker more took a hand of further clients, and this is its share
  pub served_also : (taken hand : List C) (starts : List (WorkerStart S N)) (start : WorkerStart S N) (share : ShareValue R W S N)
      (work work_then : WorkValue R W S N)
      → HaveAllServed words taken starts work → IsShare words start hand share → work_then.sessions ≡ work.sessions ++ share.sessions
      → work_then.seats ≡ work.seats ++ share.seat ∷ [] → work_then.orders ≡ work.orders ++ share.orders ∷ []
      → HaveAllServed words (taken ++ hand) (starts ++ start ∷ []) work_then
  served_also taken hand starts start share work work_then served added grows back uses clients same =
      let before = served taken (IsPermutation-refl taken) in
      let hands = before.hands in
      let shares = before.shares in
      record {
        hands = hands ++ hand ∷ [];
        dealt = subst (λ list. IsPermutation clients list) (flat_map_more (λ h. h) [] hands hand)
            (IsPermutation-trans clients (taken ++ hand) (flat_map (λ h. h) hands ++ hand) same
            (IsPermutation-append taken (flat_map (λ h. h) hands) hand hand before.dealt (IsPermutation-refl hand)));
        shares = shares ++ share ∷ [];
        each = shares_also starts hands shares start hand share before.each added;
        sessions_are = grows ∙ ap (λ list. list ++ share.sessions) before.sessions_are ∙ flat_map_more (λ s. s.sessions) [] shares share;
        seats_are = back ∙ ap (λ list. list ++ share.seat ∷ []) before.seats_are ∙ sym (map-append (λ s. s.seat) shares (share ∷ []));
        orders_are = uses ∙ ap (λ list. list ++ share.orders ∷ []) before.orders_are ∙ sym (map-append (λ s. s.orders) shares (share ∷ []));
      }
