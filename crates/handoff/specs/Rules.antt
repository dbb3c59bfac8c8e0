-- Each step at the queue keeps its rule.
use Rattle.std.proofs.Common.{◌≡◌, ◌∙◌, ◌≤◌, ◌<◌, ◌+◌, ◌-◌, ◌++◌, ◌∷◌, ℕ, zero, suc, List, [], length, refl, sym, ap, subst, arith, slice_set}
use Rattle.std.specs.Prelude.{IsPermutation}
use Rattle.std.proofs.lemmas.List.{append_assoc, append-nil, length_push}
use Rattle.std.proofs.lemmas.List.Sorted.{IsPermutation-append_left, IsPermutation-refl, IsPermutation-sym, IsPermutation-trans}
use mathlib.Core.Option.{some}
use lib.ListN.{get_elem?}
use Rattle.crossbeam_channel.specs.Fifo.{Forks, Learns, Merges, Pushes}
use Rattle.handoff.specs.MessageLemmas.{closes_more, closes_same, closing_last, item_last, nothing_last, waits, waits_more, waits_same}
use Rattle.handoff.specs.Queue.{AreClosedLast, AreTakenOnce, IsKeptByPutting, IsKeptByTaking, IsOneMore, IsQueue, KnowsAllTaken}
use Rattle.handoff.specs.Queue.{closings_at, closings_in, ended_at, items_by, keeps, new_putter, new_taker, nothing_kept, put_at, puts_there, putting_at}
use Rattle.handoff.specs.Queue.{taken_at, takes_there, taking_at, total, tried, waiting_in, with_back, with_putter_out, with_taker_out}
use Rattle.handoff.specs.SumLemmas.{end_without_items, at_keeper, changed, counted, gone, keeper_counts_closings, keeper_counts_putters, keeper_counts_takers}
use Rattle.handoff.specs.SumLemmas.{merged, more, none_put, none_taken, others_keep, same}
use Rattle.handoff.specs.declared.queue.Message.{Message}
use Rattle.handoff.specs.declared.queue.KeeperView.{KeeperView}
use Rattle.handoff.specs.declared.queue.EndView.{EndView}

-- if `m` is 0 whenever `n` is positive, and `m` is positive, then `n` is 0
is_none : (n m : ℕ) → (0 < n → m ≡ 0) → 0 < m → n ≡ 0
is_none zero m then any = refl
is_none (suc n) m then any = let no_end = then (omega arith) in absurd (omega (arith, no_end, any))

module _ {I : Type 0} where
  -- a step of one end changes what this end knows, and nothing else in the list of what each end knows
  module _ (views : List (EndView I)) (k : ℕ) (v w : EndView I) (at : get_elem? views k ≡ some v) where
    -- nothing is put or taken
    once_still : (items items_then : List (Message I)) → put_at w ≡ put_at v → taken_at w ≡ taken_at v → waiting_in items_then ≡ waiting_in items
        → AreTakenOnce items views → AreTakenOnce items_then (slice_set views k w)
    once_still items items_then puts takes waits was =
        let put = same put_at views k v w at puts in
        let taken = same taken_at views k v w at takes in
        subst (λ list. IsPermutation list (items_by taken_at (slice_set views k w) ++ waiting_in items_then)) (sym put)
        (subst (λ list. IsPermutation (items_by put_at views) (list ++ waiting_in items_then)) (sym taken)
        (subst (λ list. IsPermutation (items_by put_at views) (items_by taken_at views ++ list)) (sym waits) was))

    -- an item is put: it waits behind the others
    once_put : (item : I) (items : List (Message I)) → put_at w ≡ put_at v ++ item ∷ [] → taken_at w ≡ taken_at v
        → AreTakenOnce items views → AreTakenOnce (items ++ Message.Item item ∷ []) (slice_set views k w)
    once_put item items puts takes was =
        let one : List I = item ∷ [] in
        let now = slice_set views k w in
        let grown = more put_at views k v w one at puts in
        let kept = same taken_at views k v w at takes in
        let both = IsPermutation-append_left one (items_by put_at views) (items_by taken_at views ++ waiting_in items) was in
        let all = IsPermutation-trans (items_by put_at now) (items_by put_at views ++ one) ((items_by taken_at views ++ waiting_in items) ++ one)
        grown both in
        let there : (items_by taken_at views ++ waiting_in items) ++ one
        ≡ items_by taken_at now ++ waiting_in (items ++ Message.Item item ∷ []) =
        append_assoc (items_by taken_at views) (waiting_in items) one
        ∙ ap (λ list. items_by taken_at views ++ list) (sym (waits_more items item))
        ∙ ap (λ list. list ++ waiting_in (items ++ Message.Item item ∷ [])) (sym kept) in
        subst (λ list. IsPermutation (items_by put_at now) list) there all

    -- the item that waits longest is taken
    once_taken : (item : I) (items : List (Message I)) → put_at w ≡ put_at v → taken_at w ≡ taken_at v ++ item ∷ []
        → AreTakenOnce (Message.Item item ∷ items) views → AreTakenOnce items (slice_set views k w)
    once_taken item items puts takes was =
        let one : List I = item ∷ [] in
        let now = slice_set views k w in
        let grown = more taken_at views k v w one at takes in
        let kept = same put_at views k v w at puts in
        let moved : IsPermutation (items_by put_at views) ((items_by taken_at views ++ one) ++ waiting_in items) =
        subst (λ list. IsPermutation (items_by put_at views) list) (sym (append_assoc (items_by taken_at views) one (waiting_in items))) was in
        let there = IsPermutation-append_left (waiting_in items) (items_by taken_at views ++ one) (items_by taken_at now)
        (IsPermutation-sym (items_by taken_at now) (items_by taken_at views ++ one) grown) in
        let all = IsPermutation-trans (items_by put_at views) ((items_by taken_at views ++ one) ++ waiting_in items)
        (items_by taken_at now ++ waiting_in items) moved there in
        subst (λ list. IsPermutation list (items_by taken_at now ++ waiting_in items)) (sym kept) all

  -- one end more, at which nothing was put or taken
  once_split : (views : List (EndView I)) (u : EndView I) (items : List (Message I)) → put_at u ≡ [] → taken_at u ≡ []
      → AreTakenOnce items views → AreTakenOnce items (views ++ u ∷ [])
  once_split views u items none_put none_taken was =
      subst (λ list. IsPermutation list (items_by taken_at (views ++ u ∷ []) ++ waiting_in items)) (sym (end_without_items put_at views u none_put))
      (subst (λ list. IsPermutation (items_by put_at views) (list ++ waiting_in items)) (sym (end_without_items taken_at views u none_taken)) was)

  -- one end is back
  once_back : (views : List (EndView I)) (k other : ℕ) (v both w : EndView I) (items : List (Message I)) → get_elem? views k ≡ some v → ¬ (other ≡ k)
      → get_elem? (slice_set views k both) other ≡ some w → put_at both ≡ put_at v ++ put_at w → taken_at both ≡ taken_at v ++ taken_at w
      → AreTakenOnce items views → AreTakenOnce items (slice_set (slice_set views k both) other EndView.Rests)
  once_back views k other v both w items at apart there puts takes was =
      let now = slice_set (slice_set views k both) other EndView.Rests in
      let put = merged put_at views k other v both w at apart there refl puts in
      let taken = IsPermutation-sym (items_by taken_at now) (items_by taken_at views)
      (merged taken_at views k other v both w at apart there refl takes) in
      IsPermutation-trans (items_by put_at now) (items_by put_at views) (items_by taken_at now ++ waiting_in items) put
      (IsPermutation-trans (items_by put_at views) (items_by taken_at views ++ waiting_in items) (items_by taken_at now ++ waiting_in items) was
      (IsPermutation-append_left (waiting_in items) (items_by taken_at views) (items_by taken_at now) taken))

module _ {I : Type 0} (room : ℕ) where
  -- one end does something with one message; the numbers of ends that it knows stay
  step : (views : List (EndView I)) (k : ℕ) (v w : EndView I) (items items_then : List (Message I)) → get_elem? views k ≡ some v → IsQueue room items views
      → length items_then ≤ room → AreTakenOnce items_then (slice_set views k w) → AreClosedLast items_then
      → keeps w ≡ keeps v → putting_at w ≡ putting_at v → puts_there w ≡ puts_there v → taking_at w ≡ taking_at v → takes_there w ≡ takes_there v
      → closings_at w + (ended_at v + closings_in items) ≡ closings_at v + (ended_at w + closings_in items_then)
      → (0 < total closings_at (slice_set views k w) → total putting_at views ≡ 0)
      → (0 < total ended_at (slice_set views k w) → waiting_in items_then ≡ []) → IsQueue room items_then (slice_set views k w)
  step views k v w items items_then at h few once last keep out puts loading takes closes none_out none_waits =
      let t = changed views k v w at in
      record {
        few = few;
        once = once;
        last = last;
        keeper = omega (arith, h.keeper, t keeps, keep);
        putting_are = omega (arith, h.putting_are, t putting_at, t puts_there, out, puts);
        taking_are = omega (arith, h.taking_are, t taking_at, t takes_there, loading, takes);
        closings_are = omega (arith, h.closings_are, t closings_at, t ended_at, closes);
        none_putting = λ any. let none = none_out any in omega (arith, none, t putting_at, out);
        none_waits = none_waits;
      }

  -- while the queue isn't closed, an item is put
  put_step : (views : List (EndView I)) (k : ℕ) (v w : EndView I) (item : I) (items : List (Message I)) → get_elem? views k ≡ some v
      → IsQueue room items views → length items < room → total closings_at views ≡ 0
      → put_at w ≡ put_at v ++ item ∷ [] → taken_at w ≡ taken_at v
      → keeps w ≡ keeps v → putting_at w ≡ putting_at v → puts_there w ≡ puts_there v → taking_at w ≡ taking_at v → takes_there w ≡ takes_there v
      → closings_at w ≡ closings_at v → ended_at w ≡ ended_at v → IsQueue room (items ++ Message.Item item ∷ []) (slice_set views k w)
  put_step views k v w item items at h small fresh puts takes keeps out putters loading takers closings ends =
      let longer = length_push items (Message.Item item) in
      let t = changed views k v w at in
      let same_closings = closes_same items item in
      step views k v w items (items ++ Message.Item item ∷ []) at h (omega (arith, longer, small))
      (once_put views k v w at item items puts takes h.once) (item_last items item (omega (arith, h.closings_are, fresh)) h.last)
      keeps out putters loading takers (omega (arith, closings, ends, same_closings))
      (λ any. absurd (omega (arith, any, t closings_at, closings, fresh))) (λ any. absurd (omega (arith, any, t ended_at, ends, h.closings_are, fresh)))

  -- an end puts an item
  puts : (k : ℕ) (items : List I) (tries : ℕ) (item : I)
      → Pushes (IsQueue room) room k (EndView.Putting items tries) (Message.Item item) (IsOneMore (EndView.Putting items tries) (Message.Item item))
  puts k items tries item messages views small h at =
      let v = EndView.Putting items tries in
      let w = EndView.Putting (items ++ item ∷ []) tries in
      let ends = changed views k v EndView.Rests at puts_there in
      let fresh = is_none (total closings_at views) (total putting_at views) h.none_putting (omega (arith, ends, h.putting_are)) in
      (w, put_step views k v w item messages at h small fresh refl refl refl refl refl refl refl refl refl, refl)

  -- the end that keeps the queue does
  pub keeper_puts : (k : ℕ) (view : KeeperView I) (item : I) → view.closings ≡ 0
      → Pushes (IsQueue room) room k (EndView.Keeping view) (Message.Item item) (IsOneMore (EndView.Keeping view) (Message.Item item))
  keeper_puts k view item fresh messages views small h at =
      let v = EndView.Keeping view in
      let w = EndView.Keeping (record view { put = view.put ++ item ∷ [] }) in
      let none = at_keeper closings_at views k view keeper_counts_closings at h.keeper in
      (w, put_step views k v w item messages at h small (omega (arith, none, fresh)) refl refl refl refl refl refl refl refl refl, refl)

  -- what comes first is taken
  pub kept_by_taking : IsKeptByTaking {I = I} (IsQueue room)
  kept_by_taking k items ended (Message.Item item) messages views h at =
      let v = EndView.Taking items ended in
      let w = EndView.Taking (items ++ item ∷ []) ended in
      let t = changed views k v w at in (
        w,
        step views k v w (Message.Item item ∷ messages) messages at h (omega (arith, h.few)) (once_taken views k v w at item messages refl refl h.once)
            h.last refl refl refl refl refl (omega arith) (λ any. h.none_putting (omega (arith, any, t closings_at)))
            (λ any. absurd (waits item (waiting_in messages) (h.none_waits (omega (arith, any, t ended_at))))),
        refl,
      )
  kept_by_taking k items ended Message.Closing messages views h at =
      let v = EndView.Taking items ended in
      let w = EndView.Taking items (ended + 1) in
      let t = changed views k v w at in (
        w,
        step views k v w (Message.Closing ∷ messages) messages at h (omega (arith, h.few))
            (once_still views k v w at (Message.Closing ∷ messages) messages refl refl refl h.once)
            (nothing_last messages h.last) refl refl refl refl refl (omega arith) (λ any. h.none_putting (omega (arith, any, t closings_at)))
            (λ any. h.last),
        refl,
      )

  -- the queue is closed, once no end is out at which items are put
  pub closes : (k : ℕ) (view : KeeperView I) → view.putting ≡ 0
      → Pushes {T = Message I} (IsQueue room) room k (EndView.Keeping view) Message.Closing (IsOneMore {I = I} (EndView.Keeping view) Message.Closing)
  closes k view none messages views small h at =
      let v = EndView.Keeping view in
      let w = EndView.Keeping (record view { closings = view.closings + 1 }) in
      let out = at_keeper putting_at views k view keeper_counts_putters at h.keeper in
      let longer = length_push messages Message.Closing in
      let t = changed views k v w at in
      let more_closings = closes_more messages in (
        w,
        step views k v w messages (messages ++ Message.Closing ∷ []) at h (omega (arith, longer, small))
            (once_still views k v w at messages (messages ++ Message.Closing ∷ []) refl refl (waits_same messages) h.once)
            (closing_last messages h.last) refl refl refl refl refl (omega (arith, more_closings)) (λ any. omega (arith, out, none))
            (λ any. waits_same messages ∙ h.none_waits (omega (arith, any, t ended_at))),
        refl,
      )

  -- one end is split in two
  split : (views : List (EndView I)) (k : ℕ) (v w u : EndView I) (items : List (Message I)) → get_elem? views k ≡ some v → IsQueue room items views
      → put_at w ≡ put_at v → taken_at w ≡ taken_at v → put_at u ≡ [] → taken_at u ≡ [] → keeps w + keeps u ≡ keeps v
      → (putting_at w + putting_at u) + puts_there v ≡ putting_at v + (puts_there w + puts_there u)
      → (taking_at w + taking_at u) + takes_there v ≡ taking_at v + (takes_there w + takes_there u)
      → closings_at w + closings_at u ≡ closings_at v → ended_at w + ended_at u ≡ ended_at v
      → (0 < total closings_at views → putting_at w + putting_at u ≡ putting_at v) → IsQueue room items (slice_set views k w ++ u ∷ [])
  split views k v w u items at h puts takes none_put none_taken keep ends loaders close ended stays =
      let now = slice_set views k w in
      let t = changed views k v w at in
      let keepers_also = counted keeps now u in
      let out_also = counted putting_at now u in
      let putters_also = counted puts_there now u in
      let loading_also = counted taking_at now u in
      let takers_also = counted takes_there now u in
      let closings_also = counted closings_at now u in
      let ended_also = counted ended_at now u in
      record {
        few = h.few;
        once = once_split now u items none_put none_taken (once_still views k v w at items items puts takes refl h.once);
        last = h.last;
        keeper = omega (arith, h.keeper, keep, t keeps, keepers_also);
        putting_are = omega (arith, h.putting_are, ends, t putting_at, t puts_there, out_also, putters_also);
        taking_are = omega (arith, h.taking_are, loaders, t taking_at, t takes_there, loading_also, takers_also);
        closings_are = omega (arith, h.closings_are, close, ended, t closings_at, t ended_at, closings_also, ended_also);
        none_putting = λ any.
            let were : 0 < total closings_at views = omega (arith, any, close, t closings_at, closings_also) in
            let none = h.none_putting were in
            let same = stays were in
            omega (arith, none, same, t putting_at, out_also);
        none_waits = λ any. h.none_waits (omega (arith, any, ended, t ended_at, ended_also));
      }

  tries_more : (k : ℕ) (items : List I) (tries : ℕ)
      → Forks {T = Message I} (IsQueue room) k (EndView.Putting items tries) (tried (EndView.Putting items tries)) EndView.Rests
  tries_more k items tries messages views h at =
      split views k (EndView.Putting items tries) (EndView.Putting items (tries + 1)) EndView.Rests messages at h
      refl refl refl refl refl refl refl refl refl (λ any. refl)

  pub kept_by_putting : IsKeptByPutting {I = I} (IsQueue room) room
  kept_by_putting = record { puts = puts; tries = tries_more }

  -- an end goes out, at which items are put
  pub putter_goes_out : (k : ℕ) (view : KeeperView I) → view.closings ≡ 0
      → Forks {T = Message I} (IsQueue room) k (EndView.Keeping view) (with_putter_out (EndView.Keeping view)) new_putter
  putter_goes_out k view fresh messages views h at =
      let none = at_keeper closings_at views k view keeper_counts_closings at h.keeper in
      split views k (EndView.Keeping view) (EndView.Keeping (record view { putting = view.putting + 1 })) new_putter messages at h
      refl refl refl refl refl (omega arith) (omega arith) (omega arith) (omega arith) (λ any. absurd (omega (arith, any, none, fresh)))

  -- an end goes out, at which items are taken
  pub taker_goes_out : (k : ℕ) (view : KeeperView I)
      → Forks {T = Message I} (IsQueue room) k (EndView.Keeping view) (with_taker_out (EndView.Keeping view)) new_taker
  taker_goes_out k view messages views h at =
      split views k (EndView.Keeping view) (EndView.Keeping (record view { taking = view.taking + 1 })) new_taker messages at h
      refl refl refl refl refl (omega arith) (omega arith) (omega arith) (omega arith) (λ any. omega arith)

  -- an end is back; there is one fewer of its kind, and the keeper counts one fewer
  comes_back : (views : List (EndView I)) (k other : ℕ) (v both w : EndView I) (items : List (Message I)) → get_elem? views k ≡ some v → ¬ (other ≡ k)
      → get_elem? (slice_set views k both) other ≡ some w → IsQueue room items views
      → put_at both ≡ put_at v ++ put_at w → taken_at both ≡ taken_at v ++ taken_at w → keeps both ≡ keeps v + keeps w
      → putting_at both + puts_there w ≡ putting_at v + putting_at w → puts_there both ≡ puts_there v
      → taking_at both + takes_there w ≡ taking_at v + taking_at w → takes_there both ≡ takes_there v
      → closings_at both ≡ closings_at v + closings_at w → ended_at both ≡ ended_at v + ended_at w
      → IsQueue room items (slice_set (slice_set views k both) other EndView.Rests)
  comes_back views k other v both w items at apart there h put taken keep putting putters taking takers closings ended =
      let t = changed views k v both at in
      let s = changed (slice_set views k both) other w EndView.Rests there in
      record {
        few = h.few;
        once = once_back views k other v both w items at apart there put taken h.once;
        last = h.last;
        keeper = omega (arith, h.keeper, keep, t keeps, s keeps);
        putting_are = omega (arith, h.putting_are, putting, putters, t putting_at, t puts_there, s putting_at, s puts_there);
        taking_are = omega (arith, h.taking_are, taking, takers, t taking_at, t takes_there, s taking_at, s takes_there);
        closings_are = omega (arith, h.closings_are, closings, ended, t closings_at, t ended_at, s closings_at, s ended_at);
        none_putting = λ any.
            let none = h.none_putting (omega (arith, any, closings, t closings_at, s closings_at)) in omega (arith, none, putting, t putting_at, s putting_at);
        none_waits = λ any. h.none_waits (omega (arith, any, ended, t ended_at, s ended_at));
      }

  pub putter_comes_back : (k : ℕ) (view : KeeperView I) (other : ℕ) (items : List I) (tries : ℕ)
      → Merges {T = Message I} (IsQueue room) k (EndView.Keeping view) other (EndView.Putting items tries)
      (with_back (EndView.Keeping view) (EndView.Putting items tries)) EndView.Rests
  putter_comes_back k view other items tries messages views h at apart there =
      let v = EndView.Keeping view in
      let w = EndView.Putting items tries in
      let both = EndView.Keeping (record view { putting = view.putting - 1; put = view.put ++ items }) in
      let out = at_keeper putting_at views k view keeper_counts_putters at h.keeper in
      let t = changed views k v both at in
      let s = changed (slice_set views k both) other w EndView.Rests there in
      comes_back views k other v both w messages at apart there h refl (sym (append-nil view.taken)) refl
      (omega (arith, h.putting_are, out, t puts_there, s puts_there)) refl (omega arith) refl (omega arith) (omega arith)

  pub taker_comes_back : (k : ℕ) (view : KeeperView I) (other : ℕ) (items : List I) (ended : ℕ)
      → Merges {T = Message I} (IsQueue room) k (EndView.Keeping view) other (EndView.Taking items ended)
      (with_back (EndView.Keeping view) (EndView.Taking items ended)) EndView.Rests
  taker_comes_back k view other items ended messages views h at apart there =
      let v = EndView.Keeping view in
      let w = EndView.Taking items ended in
      let both = EndView.Keeping (record view { taking = view.taking - 1; taken = view.taken ++ items; ended = view.ended + ended }) in
      let out = at_keeper taking_at views k view keeper_counts_takers at h.keeper in
      let t = changed views k v both at in
      let s = changed (slice_set views k both) other w EndView.Rests there in
      comes_back views k other v both w messages at apart there h (sym (append-nil view.put)) refl refl
      (omega arith) refl (omega (arith, h.taking_are, out, t takes_there, s takes_there)) refl (omega arith) refl

  -- all are back
  pub learns : (k : ℕ) (view : KeeperView I) → Learns {T = Message I} (IsQueue room) k (EndView.Keeping view) (λ items. KnowsAllTaken (EndView.Keeping view))
  learns k view items views h at = λ no_putter no_taker closed.
      let v = EndView.Keeping view in
      let others = slice_set views k EndView.Rests in
      let keepers = others_keep views k view at h.keeper in
      let out = at_keeper putting_at views k view keeper_counts_putters at h.keeper in
      let loading = at_keeper taking_at views k view keeper_counts_takers at h.keeper in
      let t = changed views k v EndView.Rests at in
      let put = none_put others keepers (omega (arith, t puts_there, h.putting_are, out, no_putter)) in
      let taken = none_taken others keepers (omega (arith, t takes_there, h.taking_are, loading, no_taker)) in
      let none = h.none_waits (omega (arith, t ended_at, closed)) in
      let all_put : IsPermutation (items_by put_at views) view.put =
      subst (λ list. IsPermutation (items_by put_at views) list) (ap (λ list. view.put ++ list) put ∙ append-nil view.put)
      (gone put_at views k v at refl) in
      let all_taken : IsPermutation (items_by taken_at views) view.taken =
      subst (λ list. IsPermutation (items_by taken_at views) list) (ap (λ list. view.taken ++ list) taken ∙ append-nil view.taken)
      (gone taken_at views k v at refl) in
      let once : IsPermutation (items_by put_at views) (items_by taken_at views) =
      subst (λ list. IsPermutation (items_by put_at views) list) (ap (λ list. items_by taken_at views ++ list) none
      ∙ append-nil (items_by taken_at views)) h.once in
      IsPermutation-trans view.put (items_by put_at views) view.taken (IsPermutation-sym (items_by put_at views) view.put all_put)
      (IsPermutation-trans (items_by put_at views) (items_by taken_at views) view.taken once all_taken)

  -- the rule holds of a new queue
  pub begins : IsQueue {I = I} room [] (EndView.Keeping nothing_kept ∷ [])
  begins = record {
    few = omega arith;
    once = IsPermutation-refl [];
    last = tt;
    keeper = refl;
    putting_are = refl;
    taking_are = refl;
    closings_are = refl;
    none_putting = λ any. refl;
    none_waits = λ any. refl;
  }
