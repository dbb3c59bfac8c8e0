-- Each step of the loader keeps the rule, and is one event.
use Rattle.reasoning.proofs.ListLemmas.{slice_get-last, slice_get-set_same, slice_get-set_other}
use Rattle.version_core.specs.Actors.{no_actor, actor}
use Rattle.image_layout.specs.Image.{ImageValue}
use Rattle.std.proofs.Common.{◌≡◌, ◌≢◌, ℕ, zero, suc, ◌+◌, ◌-◌, ◌*◌, ◌%◌, ◌<◌, ◌≤◌, ◌==◌, ◌⊎◌, Bool, true, false, cond, List}
use Rattle.std.proofs.Common.{[], ◌∷◌, ◌++◌, length, set, get_or, Option, Some, None, slice_get, refl, ap, sym, ◌∙◌}
use Rattle.std.proofs.Common.{subst, arith, get_or-set_same, get_or-set_other, length-set, length-append, inl, inr}
use Rattle.std.proofs.lemmas.Bool.Decides.{nat_tests}
use mathlib.Core.Option.{Option as Maybe, none, some}
use mathlib.Core.List.{IsPrefix}
use prog.Atomic.{either}
use lib.ListN.{get_elem?}
use Rattle.reasoning.proofs.OrderLemmas.{own_equal}
use Rattle.atomic_table.specs.Table.{State as Table, Act, step, keeps, stepped, Allows, Valid, homes_after, carried_after}
use Rattle.version_core.specs.declared.event.Event.{Event}
use Rattle.version_core.specs.declared.event.Reply.{Reply}
use Rattle.version_core.specs.declared.state.Shelf.{Shelf}
use Rattle.version_core.specs.declared.state.Worker.{Worker}
use Rattle.version_core.specs.State.{State, most_versions, newest, opened, published, shelved}
use Rattle.version_core.specs.Steps.{IsFree, IsOpen, IsClosing, IsOutdated, MayOpen, Step}
use Rattle.version_core.specs.Invariants.{KeepsInvariants, is_at}
use Rattle.version_core.proofs.Keeps.{none_waits, held_known}
use Rattle.version_core.proofs.Shelves.{version_at}
use Rattle.version_core.proofs.Counts.{no_one_at}
use Rattle.shelf_steps.specs.declared.edition.Edition.{Edition}
use Rattle.shelf_steps.specs.declared.views.KnownHistory.{KnownHistory}
use Rattle.shelf_steps.specs.declared.views.WorkerView.{WorkerView}
use Rattle.shelf_steps.specs.declared.views.LoaderView.{LoaderView}
use Rattle.shelf_steps.specs.declared.views.View.{View}
use Rattle.shelf_steps.specs.EventHistory.{EventHistory, LeadsToItsState, IsLonger, extended, known_in_full, IsKnownBeginning, Happened, image_of}
use Rattle.version_core.specs.Shown.{WordsShow, shelf_word}
use Rattle.shelf_steps.specs.Seats.{WorkerFits, LoaderFits}
use Rattle.shelf_steps.specs.Slots.{SlotsFit, SlotFits, held_by, down_from, nothings}
use Rattle.shelf_steps.specs.Rule.{KeepsRule}
use Rattle.shelf_steps.specs.Plays.{SeatAndSlots, newest_of, with_open, with_current, with_closing, with_free}
use Rattle.shelf_steps.specs.Plays.{with_hand, AllHave, IsLastEvent, Opens, Publishes, Closes, CollectsFound, Collects}
use Rattle.shelf_steps.specs.Plays.{Gathers, PutsBack, MayOpenOn, MayPublish, MayCloseShelf, MayCollect, MayGather}
use Rattle.shelf_steps.specs.Plays.{MayPutBack}
use Rattle.shelf_steps.specs.Events.{known_of}
use Rattle.shelf_steps.specs.Steps.{Adds, added, word_change, OpensAdd, PublishesAdd, ClosesAdd, CollectsAdd, GatheringsAdd, PuttingsAdd}
use Rattle.shelf_steps.proofs.Works.{allows}
use Rattle.shelf_steps.proofs.Courses.{kept_of, joined_same, no_join, nothing_snoc, loaders_event}
use Rattle.shelf_steps.proofs.Courses.{begins_longer, happened, goes_on, goes_same, image_later, loader_next, prefix_same, other_fits}
use Rattle.shelf_steps.proofs.Frames.{loader_moves}
use Rattle.shelf_steps.proofs.WordsAfter.{words_same, words_after, few_counted, version_bound, found_at}
use Rattle.shelf_steps.proofs.Says.{loader_knows, loader_slots, shelf_is, newest_is}
use Rattle.shelf_steps.proofs.NoteLists.{notices_loader}
use Rattle.shelf_steps.proofs.SlotsAfter.{slots_block}
use Rattle.shelf_steps.proofs.Chains.{take_block, give_block, IsHome, block_valid, block_else, block_out, carried_down}
use Rattle.shelf_steps.proofs.Chains.{gives_valid, given_else, given_home, given_rest}

-- a step of the loader leaves what the workers do
module _ (table : Table (Option Edition) View) (r : KeepsRule table) (id : ℕ) (l l' : LoaderView)
    (at : get_elem? table.views id ≡ some (View.Loading l)) (as_many : l'.handed ≡ l.handed)
    (e : Event) (reply : Reply) (t : State) (images : List ImageValue) (whose : actor e
    ≡ None) (goes : LeadsToItsState (extended r.history e reply t images)) (more : IsPrefix r.history.images images)
    (workers : t.workers ≡ r.history.state.workers) (seen : t.seen ≡ r.history.state.seen) (notices : t.notices ≡ r.history.state.notices)
    (up : r.history.state.current ≤ t.current) where
  not_of : (u : ℕ) → actor e ≢ Some u
  not_of u q = let z : None ≡ Some u = sym whose ∙ q in cc

  not_nobodys : actor e ≢ no_actor
  not_nobodys q = let z : None ≡ Some 16 = sym whose ∙ q in cc

  others : (u : WorkerView) → WorkerFits r.history u → WorkerFits (extended r.history e reply t images) u
  others u f =
      other_fits r.history (extended r.history e reply t images) u
      (ap (λ (x : List Worker). slice_get x u.number) workers) (ap (λ (x : List ℕ). get_or x u.number 0) seen) up
      more
      (begins_longer r.history e reply t images u.known (Some u.number) (not_of u.number) more f.known)
      (joined_same u.number r.history.events e (no_join u.number e not_nobodys)) f

  loader_ruled : (words' : List ℕ) (homes' : List (Maybe (Option Edition))) → Step r.history.state e reply t
      → l'.known ≡ known_in_full (extended r.history e reply t images)
      → LoaderFits (extended r.history e reply t images) l' → WordsShow words' t
      → SlotsFit homes' t.shelves t.workers images l'.hand
      → (after : KeepsRule record { words = words'; homes = homes'; views = set table.views id (View.Loading l') })
      × IsLonger r.history e reply after.history × (l'.known ≡ known_in_full after.history)
      × Happened l.known e reply (known_in_full (extended r.history e reply t images))
  loader_ruled words' homes' is_step known fits words slots = (
    record {
      history = extended r.history e reply t images;
      loader = l';
      goes = goes;
      words = words;
      seats = loader_moves r.history (extended r.history e reply t images) table.views r.loader r.seats id l l' at as_many others fits workers seen
          (λ w small h.
          nothing_snoc w r.history.events e (not_of w) (no_join w e not_nobodys) h);
      notices = notices_loader table.views id l l' at ∙ (r.notices ∙ sym notices);
      slots = slots;
    },
    record { is_step = is_step; events = refl; replies = refl; images = more },
    known,
    happened r.history e reply t images l.known
        (subst (λ (a : Option ℕ). IsKnownBeginning l.known a r.history) (sym whose) (loader_knows table r id l at).known) goes more,
  )

-- the shelf k becomes another, and its word with it
words_shelved : (words : List ℕ) (k new : ℕ) (y : Shelf) (s t : State) → WordsShow words s → k < 8
    → length s.shelves ≡ 8 → t.shelves ≡ set s.shelves k y → t.counts ≡ s.counts → t.current ≡ s.current
    → t.current_shelf ≡ s.current_shelf
    → new ≡ shelf_word y (get_or s.counts k 0) → WordsShow (set words (k + 1) new) t
words_shelved words k new y s t shown small eight shelves counts current current_shelf is =
    words_after words k new s t shown small current current_shelf
    (λ j ne. (ap (λ (xs : List Shelf). slice_get xs j) shelves ∙ slice_get-set_other s.shelves k j y ne, ap (λ (xs : List ℕ). get_or xs j 0) counts))
    (λ x at. let q : Some y ≡ Some x = sym (slice_get-set_same s.shelves k y (omega arith))
    ∙ (ap (λ (xs : List Shelf). slice_get xs k) (sym shelves) ∙ at) in let same : y ≡ x = cc in
    is ∙ (λ i. shelf_word (same i) (get_or (sym counts i) k 0)))

words_current : (words : List ℕ) (new : ℕ) (s t : State) → WordsShow words s → t.shelves ≡ s.shelves
    → t.counts ≡ s.counts → new ≡ 8 * t.current + t.current_shelf → WordsShow (set words 0 new) t
words_current words new s t shown shelves counts is = let nine = shown.nine in record {
  nine = length-set words 0 new ∙ shown.nine;
  cur = get_or-set_same words 0 new 0 (omega arith) ∙ is;
  each = λ k x at. get_or-set_other words 0 (k + 1) new 0 (λ e. omega arith)
      ∙ (shown.each k x (ap (λ (xs : List Shelf). slice_get xs k) (sym shelves) ∙ at)
      ∙ ap (λ (xs : List ℕ). shelf_word x (get_or xs k 0)) (sym counts));
}

-- what stands in a list with one more behind it
pub got_snoc : {A : Type 0} (l : List A) (a b : A) (i : ℕ) → slice_get (l ++ a ∷ []) i ≡ Some b → (slice_get l i ≡ Some b) ⊎ ((i ≡ length l) × (a ≡ b))
got_snoc [] a b zero e = inr (refl, cc)
got_snoc [] a b (suc i) e = absurd (cc)
got_snoc (x ∷ xs) a b zero e = inl e
got_snoc (x ∷ xs) a b (suc i) e = elim (got_snoc xs a b i e) [ inl q ↦ inl q | inr q ↦ inr (ap (λ n. suc n) q.0, q.1) ]

pub image_last : (images : List ImageValue) (x : ImageValue) (v : ℕ) → v ≡ suc (length images) → image_of (images ++ x ∷ []) v ≡ Some x
image_last images x v e = subst (λ n. image_of (images ++ x ∷ []) n ≡ Some x) (sym e) (slice_get-last images x)

open_word : (n count version : ℕ) → n ≡ count → count ≤ 16 → version ≤ most_versions
    → added (256 + 65536 * version) n ≡ count + 256 + 65536 * version
open_word n count version is few small = omega arith

close_word : (n count version : ℕ) → n ≡ count + 256 + 65536 * version → count ≤ 16 → version ≤ most_versions
    → added 256 n ≡ count + 512 + 65536 * version
close_word n count version is few small = omega arith

-- nobody holds a shelf that is free
none_hold : (s : State) (k v u : ℕ) → KeepsInvariants s → IsFree s k → slice_get s.workers u ≢ Some (Worker.Holding k v)
none_hold s k v u kept free h = let z : None ≡ Some v = sym (version_at s.shelves k Shelf.Free free) ∙ (held_known s u k v kept h).0 in cc

opens_as : (slots id k version : ℕ) (l : LoaderView) (image : ImageValue) (f : ℕ → Option Edition) → slots ≡ 128 → k < 8
    → slice_get l.shelves k ≡ Some Shelf.Free → l.hand ≡ Some k → l.current ≡ newest_of l → version ≡ newest_of l + 1
    → version ≤ most_versions → AllHave version image k f
    → Adds slots id (
      View.Loading l,
      down_from f (16 * k) 16 [],
    ) (word_change (k + 1) (added (256 + 65536 * version)) (Event.Open (newest_of l)) (λ _. Reply.Opened version k))
    (Opens (step slots (k + 1) (256 + 65536 * version) 0 none) (View.Loading l, down_from f (16 * k) 16 []))
opens_as slots id k version l image f many small free hand current next few all table r full at fits =
    let s = r.history.state in let n = get_or table.words (k + 1) 0 in let top = newest_of l in
    let kept : KeepsInvariants s = kept_of r.history r.goes in
    let knows = loader_knows table r id l at in
    let is_free : IsFree s k = shelf_is table r id l at k Shelf.Free free in
    let is_newest : top ≡ newest s = newest_is table r id l at in
    let current_is : newest s ≡ s.current = let a = knows.shows.current in omega arith in
    let t : State = opened s k top in
    let e : Event = Event.Open top in let reply : Reply = Reply.Opened (top + 1) k in
    let may : MayOpen s = (none_waits s kept current_is, (omega arith)) in
    let is_step : Step s e reply t = (may, is_free, ap (λ m. m + 1) is_newest, refl) in
    let images : List ImageValue = r.history.images ++ image ∷ [] in
    let more : IsPrefix r.history.images images = (image ∷ [], refl) in
    let a1 = length-append r.history.images (image ∷ []) in let a2 = length-append s.editions (top ∷ []) in let a3 = r.goes.as_many in
    let goes' : LeadsToItsState (extended r.history e reply t images) = goes_on r.history e reply t images r.goes is_step tt (omega arith)
    (λ i edition q. elim (got_snoc s.editions top edition i q) [ inl a ↦ r.goes.numbered i edition a | inr b ↦ sym b.1 ∙ (is_newest ∙ sym b.0) ]) in
    let d : EventHistory = extended r.history e reply t images in
    let l' : LoaderView = with_open l k (top + 1) (known_in_full d) in
    let eight = kept.shelves.eight in
    let counted = few_counted s k kept small in
    let found = r.words.each k Shelf.Free is_free in
    let word : added (256 + 65536 * version) n ≡ shelf_word (Shelf.Open (newest s + 1)) (get_or s.counts k 0) =
    open_word n (get_or s.counts k 0) version found counted few ∙ ap (λ m. get_or s.counts k 0 + 256 + 65536 * m) (next ∙ ap (λ m. m + 1) is_newest) in
    let here : (u : ℕ) → u < 16 → SlotFits (held_by images s.workers None) (Shelf.Open (newest s + 1)) k u
    (get_elem? (homes_after table.homes (down_from f (16 * k) 16 []) (give_block 16)) (16 * k + u)) =
    λ u less. let h = all (16 * k + u) (omega arith) (omega arith) in (
      (λ q. cc),
      inl (
        f (16 * k + u),
        given_home table.homes [] f (16 * k) 16 (16 * k + u) (omega arith) (omega arith) (omega arith),
        (
          h.0,
          h.1,
          h.2 ∙ (next ∙ ap (λ m. m + 1) is_newest),
          image_last r.history.images image (newest s + 1) (omega arith) ∙ ap (λ (x : ImageValue). Some x) (sym h.3),
        ),
        none_hold s k (newest s + 1) u kept is_free,
      ),
    ) in
    let fits' : LoaderFits d l' = loader_next r.history d e l l' knows refl refl refl refl goes'.as_many knows.shows.current knows.shows.current_shelf
    (λ i. set (knows.shows.shelves i) k (Shelf.Open (is_newest i + 1))) in
    let after =
    loader_ruled table r id l l' at refl e reply t images refl goes' more refl refl refl (omega arith)
    (set table.words (k + 1) (added (256 + 65536 * version) n))
    (homes_after table.homes (down_from f (16 * k) 16 []) (give_block 16)) is_step refl fits'
    (words_shelved table.words k (added (256 + 65536 * version) n)
    (Shelf.Open (newest s + 1)) s t r.words small eight refl refl refl refl word)
    (slots_block table.homes (homes_after table.homes (down_from f (16 * k) 16 []) (give_block 16)) s.shelves
    t.shelves s.workers r.history.images images l.hand None k (Shelf.Open (newest s + 1))
    (slice_get-set_same s.shelves k (Shelf.Open (newest s + 1)) (omega arith)) (λ j ne. slice_get-set_other s.shelves k j (Shelf.Open (newest s + 1)) ne)
    (λ i h. given_else table.homes [] f (16 * k) 16 i h) more
    (λ j ne q. let z : Some k ≡ Some j = sym hand ∙ q in absurd (ne (cc))) (λ j ne q. absurd (cc)) here (loader_slots table r id l at)) in (
      View.Loading l',
      give_block 16,
      gives_valid table.homes (down_from f (16 * k) 16 []) 16,
      after.0,
      subst (λ m. IsLonger r.history e (Reply.Opened m k) after.0.history) (sym next) after.1,
      after.2,
      (
        k,
        refl,
        (
          image,
          f,
          known_in_full d,
          refl,
          subst (λ m. AllHave m image k f) next all,
          (λ i. (View.Loading l', given_rest f (16 * k) 16 [] i)),
          after.3,
          ap (λ (xs : List ImageValue). xs ++ image ∷ []) (sym knows.images),
        ),
      ),
    )

pub opens_add : OpensAdd
opens_add slots id k version l c many small may =
    let block = may.5 in
    subst (λ (x : List (ℕ × Option Edition)). Adds slots id (
      View.Loading l,
      x,
    ) (word_change (k + 1) (added (256 + 65536 * version)) (Event.Open (newest_of l)) (λ _. Reply.Opened version k))
    (Opens (step slots (k + 1) (256 + 65536 * version) 0 none) (View.Loading l, x))) (sym block.2)
    (opens_as slots id k version l block.0 block.1 many small may.0 may.1 may.2 may.3 may.4 block.3)

pub openings : (slots id k version : ℕ) (me : SeatAndSlots) → slots ≡ 128 → k < 8 → MayOpenOn k version me.0 me.1
    → Allows KeepsRule slots id me (k + 1) (added (256 + 65536 * version))
    (Opens (step slots (k + 1) (256 + 65536 * version) 0 none) me)
openings slots id k version (View.Loading l, c) many small may =
    allows slots id (View.Loading l, c) (k + 1) (added (256 + 65536 * version)) (Event.Open (newest_of l))
    (λ _. Reply.Opened version k) (Opens (step slots (k + 1) (256 + 65536 * version) 0 none) (View.Loading l, c))
    (opens_add slots id k version l c many small may)
openings slots id k version (_, c) many small may = absurd may

-- a step that adds no version
module _ (table : Table (Option Edition) View) (r : KeepsRule table) (id : ℕ) (l l' : LoaderView)
    (at : get_elem? table.views id ≡ some (View.Loading l)) (as_many : l'.handed ≡ l.handed)
    (e : Event) (reply : Reply) (t : State) (whose : actor e ≡ None) (is_step : Step r.history.state e reply t)
    (editions : t.editions ≡ r.history.state.editions)
    (workers : t.workers ≡ r.history.state.workers) (seen : t.seen ≡ r.history.state.seen) (notices : t.notices ≡ r.history.state.notices)
    (up : r.history.state.current ≤ t.current) where
  goes' : LeadsToItsState (extended r.history e reply t r.history.images)
  goes' = goes_same r.history e reply t r.goes is_step (loaders_event e whose) editions

  pub noted_ruled : (words' : List ℕ) (homes' : List (Maybe (Option Edition)))
      → l'.known ≡ known_in_full (extended r.history e reply t r.history.images)
      → LoaderFits (extended r.history e reply t r.history.images) l' → WordsShow words' t
      → SlotsFit homes' t.shelves t.workers r.history.images l'.hand
      → (after : KeepsRule record { words = words'; homes = homes'; views = set table.views id (View.Loading l') })
      × IsLonger r.history e reply after.history × (l'.known ≡ known_in_full after.history)
      × IsLastEvent l e reply (known_in_full (extended r.history e reply t r.history.images))
  noted_ruled words' homes' known fits words slots =
      let z = loader_ruled table r id l l' at as_many e reply t r.history.images whose goes'
      (prefix_same r.history.images) workers seen notices up words' homes' is_step known fits words slots in
      (z.0, z.1, z.2, (z.3, sym (loader_knows table r id l at).images))

pub publishes_add : PublishesAdd
publishes_add slots id k version l c small may table r full at fits =
    let s = r.history.state in
    let knows = loader_knows table r id l at in
    let stands : IsOpen s k version = shelf_is table r id l at k (Shelf.Open version) may.0 in
    let later : s.current < version = let a = knows.shows.current in let b = may.1 in omega arith in
    let t : State = published s k version in
    let e : Event = Event.Publish in let reply : Reply = Reply.Published version in
    let is_step : Step s e reply t = (k, (stands, later), refl) in
    let d : EventHistory = extended r.history e reply t r.history.images in
    let l' : LoaderView = with_current l version k (known_in_full d) in
    let fits' : LoaderFits d l' = loader_next r.history d e l l' knows refl refl refl refl r.goes.as_many refl refl knows.shows.shelves in
    let after =
    noted_ruled table r id l l' at refl e reply t refl is_step refl refl refl refl (omega arith) (set table.words 0 (8 * version + k)) table.homes refl fits'
    (words_current table.words (8 * version + k) s t r.words refl refl refl) (loader_slots table r id l at) in (
      View.Loading l',
      keeps,
      tt,
      after.0,
      after.1,
      after.2,
      (version, k, refl, small, (known_in_full d, refl, after.3)),
    )

pub publishings : (slots id k version : ℕ) (me : SeatAndSlots) → k < 8 → MayPublish version k me.0
    → Allows KeepsRule slots id me 0 (λ _. 8 * version + k) (λ _. Publishes (step slots 0 (8 * version + k) 0 none) me (8 * version + k))
publishings slots id k version (View.Loading l, c) small may =
    allows slots id (View.Loading l, c) 0 (λ _. 8 * version + k) Event.Publish (λ _. Reply.Published version)
    (λ _. Publishes (step slots 0 (8 * version + k) 0 none) (View.Loading l, c) (8 * version + k)) (publishes_add slots id k version l c small may)
publishings slots id k version (_, c) small may = absurd may

pub closes_add : ClosesAdd
closes_add slots id k l c small may table r full at fits =
    let s = r.history.state in let version = may.0 in let n = get_or table.words (k + 1) 0 in
    let kept : KeepsInvariants s = kept_of r.history r.goes in
    let knows = loader_knows table r id l at in
    let stands : IsOpen s k version = shelf_is table r id l at k (Shelf.Open version) may.1 in
    let old : version < s.current = let a = knows.shows.current in let b = may.2 in omega arith in
    let outdated : IsOutdated s k version = (stands, (λ q. omega arith), (λ q. let z = q.1 in omega arith)) in
    let t : State = shelved s k (Shelf.Closing version) in
    let e : Event = Event.Close k in let reply : Reply = Reply.Closing in
    let is_step : Step s e reply t = (version, outdated, refl) in
    let d : EventHistory = extended r.history e reply t r.history.images in
    let l' : LoaderView = with_closing l k version (known_in_full d) in
    let eight = kept.shelves.eight in
    let bound = version_bound s k (Shelf.Open version) kept stands version (inl refl) in
    let word = close_word n (get_or s.counts k 0) version (r.words.each k (Shelf.Open version) stands) (few_counted s k kept small) bound in
    let fits' : LoaderFits d l' = loader_next r.history d e l l' knows refl refl refl refl r.goes.as_many knows.shows.current knows.shows.current_shelf
    (λ i. set (knows.shows.shelves i) k (Shelf.Closing version)) in
    let after =
    noted_ruled table r id l l' at refl e reply t refl is_step refl refl refl refl (omega arith) (set table.words (k + 1)
    (added 256 n)) table.homes refl fits'
    (words_shelved table.words k (added 256 n) (Shelf.Closing version) s t r.words small eight refl refl refl refl word)
    (slots_block table.homes table.homes s.shelves t.shelves s.workers r.history.images r.history.images l.hand l.hand k (Shelf.Closing version)
    (slice_get-set_same s.shelves k (Shelf.Closing version) (omega arith)) (λ j ne. slice_get-set_other s.shelves k j (Shelf.Closing version) ne)
    (λ i h. refl) (prefix_same r.history.images) (λ j ne q. q) (λ j ne q. q)
    (λ u less. loader_slots table r id l at k u (Shelf.Open version) stands less)
    (loader_slots table r id l at)) in (
      View.Loading l',
      keeps,
      tt,
      after.0,
      after.1,
      after.2,
      (k, refl, (version, known_in_full d, may.1, refl, after.3)),
    )

pub closings : (slots id k : ℕ) (me : SeatAndSlots) → k < 8 → MayCloseShelf k me.0
    → Allows KeepsRule slots id me (k + 1) (added 256)
    (Closes (step slots (k + 1) 256 0 none) me)
closings slots id k (View.Loading l, c) small may =
    allows slots id (View.Loading l, c) (k + 1) (added 256) (Event.Close k) (λ _. Reply.Closing)
    (Closes (step slots (k + 1) 256 0 none) (View.Loading l, c)) (closes_add slots id k l c small may)
closings slots id k (_, c) small may = absurd may

-- what lies in a slot that is at home
abbrev value_at : Maybe (Maybe (Option Edition)) → Option Edition
value_at none = None
value_at (some none) = None
value_at (some (some x)) = x

-- where nobody is at a shelf, its slots are at home
all_home : (homes : List (Maybe (Option Edition))) (shelves : List Shelf) (counts : List ℕ) (workers : List Worker)
    (images : List ImageValue) (hand : Option ℕ) (k version : ℕ)
    → ((w : ℕ) (worker : Worker) → slice_get workers w ≡ Some worker → is_at k worker ≡ false) → slice_get shelves k ≡ Some (Shelf.Closing version)
    → SlotsFit homes shelves workers images hand → IsHome homes (λ j. value_at (get_elem? homes j)) (16 * k) 16
all_home homes shelves counts workers images hand k version away closing fit j from to =
    let e : 16 * k + (j - 16 * k) ≡ j = omega arith in
    subst (λ i. get_elem? homes i ≡ some (some (value_at (get_elem? homes i)))) e
    (elim (fit k (j - 16 * k) (Shelf.Closing version) closing (omega arith)).1 [
      | inl a ↦ a.1 ∙ ap (λ (x : Maybe (Maybe (Option Edition))). some (some (value_at x))) (sym a.1)
      | inr b ↦ absurd (let q = away (j - 16 * k) (Worker.Holding k version) b.1 in let z : (k == k) ≡ false = q in let z' = own_equal k in cc)
    ])

-- an exchange either finds the word that it expects, or not
is_equal : (n m : ℕ) → (n == m) ≡ true → n ≡ m
is_equal n m e = grind (arith, nat_tests)

is_other : (n m : ℕ) → (n == m) ≡ false → n ≢ m
is_other n m e q = grind (arith, nat_tests)

-- so many are at a closing shelf whose word was found to be n: none, where that is the word without a count
abbrev IsCountFound : Bool → ℕ → ℕ → Type 0
IsCountFound true count n = count ≡ 0
IsCountFound false count n = (count ≡ n % 256) × (0 < n % 256)

count_found : (n count version : ℕ) → n ≡ count + 512 + 65536 * version → count ≤ 16 → (b : Bool) → (n == 512 + 65536 * version) ≡ b → IsCountFound b count n
count_found n count version is few true found = let e : n ≡ 512 + 65536 * version = is_equal n (512 + 65536 * version) found in omega arith
count_found n zero version is few false found = absurd (is_other n (512 + 65536 * version) found (omega arith))
count_found n (suc count) version is few false found = (omega arith, omega arith)

-- a closing shelf, and how many are there by the word that it has
closing_at : (id k version : ℕ) (l : LoaderView) (table : Table (Option Edition) View) (r : KeepsRule table) → get_elem? table.views id ≡ some (View.Loading l)
    → k < 8 → slice_get l.shelves k ≡ Some (Shelf.Closing version) → (b : Bool) → (get_or table.words (k + 1) 0 == 512 + 65536 * version) ≡ b
    → IsClosing r.history.state k version × IsCountFound b (get_or r.history.state.counts k 0) (get_or table.words (k + 1) 0)
closing_at id k version l table r at small shelf b found =
    let closing = shelf_is table r id l at k (Shelf.Closing version) shelf in let word = r.words.each k (Shelf.Closing version) closing in
    let few = few_counted r.history.state k (kept_of r.history r.goes) small in
    (closing, count_found (get_or table.words (k + 1) 0) (get_or r.history.state.counts k 0) version word few b found)

collects_found : (id k version : ℕ) (l : LoaderView) (table : Table (Option Edition) View) (r : KeepsRule table)
    → get_elem? table.views id ≡ some (View.Loading l) → length table.homes ≡ 128 → k < 8
    → slice_get l.shelves k ≡ Some (Shelf.Closing version) → l.hand ≡ None → (b : Bool) → (get_or table.words (k + 1) 0 == 512 + 65536 * version) ≡ b
    → (w : View) × (a : Act (Option Edition)) × Valid table.homes [] a
    × (after : KeepsRule (stepped table (k + 1) (either b 0 (get_or table.words (k + 1) 0)) id [] w a))
    × IsLonger r.history (Event.Collect k) (cond b Reply.Freed (Reply.Busy (get_or table.words (k + 1) 0 % 256))) after.history
    × (known_of w ≡ known_in_full after.history)
    × CollectsFound l k (get_or table.words (k + 1) 0) b (w, carried_after [] a)
collects_found id k version l table r at many small shelf hand true found =
    let s = r.history.state in let kept : KeepsInvariants s = kept_of r.history r.goes in
    let knows = loader_knows table r id l at in
    let here = closing_at id k version l table r at small shelf true found in let no_actor = here.1 in
    let t : State = shelved s k Shelf.Free in
    let e : Event = Event.Collect k in let reply : Reply = Reply.Freed in
    let is_step : Step s e reply t = (version, here.0, no_actor, refl) in
    let d : EventHistory = extended r.history e reply t r.history.images in
    let l' : LoaderView = with_free l k (known_in_full d) in
    let eight = kept.shelves.eight in
    let f : ℕ → Option Edition = λ j. value_at (get_elem? table.homes j) in
    let home : IsHome table.homes f (16 * k) 16 =
    all_home table.homes s.shelves s.counts s.workers r.history.images l.hand k version
    (no_one_at s.counts s.workers k kept.counts small no_actor) here.0 (loader_slots table r id l at) in
    let fits' : LoaderFits d l' = loader_next r.history d e l l' knows refl refl refl refl r.goes.as_many knows.shows.current knows.shows.current_shelf
    (λ i. set (knows.shows.shelves i) k Shelf.Free) in
    let after =
    noted_ruled table r id l l' at refl e reply t refl is_step refl refl refl refl (omega arith) (set table.words (k + 1) 0) (homes_after table.homes []
    (take_block f (16 * k) 16)) refl fits'
    (words_shelved table.words k 0 Shelf.Free s t r.words small eight refl refl refl refl (sym no_actor))
    (slots_block table.homes (homes_after table.homes [] (take_block f (16 * k) 16)) s.shelves t.shelves s.workers
    r.history.images r.history.images l.hand (Some k) k Shelf.Free
    (slice_get-set_same s.shelves k Shelf.Free (omega arith)) (λ j ne. slice_get-set_other s.shelves k j Shelf.Free ne)
    (λ i h. block_else table.homes [] f (16 * k) 16 i h) (prefix_same r.history.images)
    (λ j ne q. let z : None ≡ Some j = sym hand ∙ q in absurd (cc)) (λ j ne q. absurd (ne (cc)))
    (λ u less. inr (refl, block_out table.homes [] f (16 * k) 16 (16 * k + u) (omega arith) (omega arith) (omega arith)))
    (loader_slots table r id l at)) in (
      View.Loading l',
      take_block f (16 * k) 16,
      block_valid table.homes [] f (16 * k) 16 home,
      after.0,
      after.1,
      after.2,
      (
        f,
        known_in_full d,
        (λ i. (View.Loading l', carried_down f (16 * k) 16 [] i)),
        after.3,
        found_at table.words r.history r.goes r.words k e d refl small,
      ),
    )
collects_found id k version l table r at many small shelf hand false found =
    let s = r.history.state in let n = get_or table.words (k + 1) 0 in
    let knows = loader_knows table r id l at in
    let here = closing_at id k version l table r at small shelf false found in
    let e : Event = Event.Collect k in let reply : Reply = Reply.Busy (n % 256) in
    let is_step : Step s e reply s = (version, here.0, here.1.0, here.1.1, refl) in
    let d : EventHistory = extended r.history e reply s r.history.images in
    let l' : LoaderView = with_hand l None (known_in_full d) in
    let fits' : LoaderFits d l' = loader_next r.history d e l l' knows refl refl refl refl r.goes.as_many knows.shows.current knows.shows.current_shelf
    knows.shows.shelves in
    let after =
    noted_ruled table r id l l' at refl e reply s refl is_step refl refl refl refl (omega arith) (set table.words (k + 1) n) table.homes refl fits'
    (words_same table.words (k + 1) s s r.words refl refl refl refl)
    (subst (λ (x : Option ℕ). SlotsFit table.homes s.shelves s.workers r.history.images x) hand (loader_slots table r id l at)) in (
      View.Loading l',
      keeps,
      tt,
      after.0,
      after.1,
      after.2,
      (
        known_in_full d,
        refl,
        after.3,
        here.1.1,
        found_at table.words r.history r.goes r.words k e d refl small,
      ),
    )

pub collects_add : CollectsAdd
collects_add slots id k version l c many small may =
    subst (λ (x : List (ℕ × Option Edition)). Adds slots id (
      View.Loading l,
      x,
    ) (word_change (k + 1) (λ n. either (n == 512 + 65536 * version) 0 n) (Event.Collect k)
    (λ n. cond (n == 512 + 65536 * version) Reply.Freed (Reply.Busy (n % 256))))
    (Collects (step slots (k + 1) (512 + 65536 * version) 0 none) (View.Loading l, x))) (sym may.2)
    (λ table r full at fits.
    let n = get_or table.words (k + 1) 0 in
    let z = collects_found id k version l table r at (full ∙ many) small may.0 may.1 (n == 512 + 65536 * version) refl in
    (z.0, z.1, z.2, z.3, z.4, z.5, (k, version, refl, refl, z.6)))

pub collectings : (slots id k version : ℕ) (me : SeatAndSlots) → slots ≡ 128 → k < 8 → MayCollect k version me.0 me.1
    → Allows KeepsRule slots id me (k + 1) (λ n. either (n == 512 + 65536 * version) 0 n) (Collects (step slots (k + 1) (512 + 65536 * version) 0 none) me)
collectings slots id k version (View.Loading l, c) many small may =
    allows slots id (View.Loading l, c) (k + 1) (λ n. either (n == 512 + 65536 * version) 0 n) (Event.Collect k)
    (λ n. cond (n == 512 + 65536 * version) Reply.Freed (Reply.Busy (n % 256)))
    (Collects (step slots (k + 1) (512 + 65536 * version) 0 none) (View.Loading l, c)) (collects_add slots id k version l c many small may)
collectings slots id k version (_, c) many small may = absurd may

-- the slots of a free shelf, where they are not out
spares_home : (homes : List (Maybe (Option Edition))) (shelves : List Shelf) (workers : List Worker)
    (images : List ImageValue) (hand : Option ℕ) (k : ℕ) → hand ≡ None → slice_get shelves k ≡ Some Shelf.Free
    → SlotsFit homes shelves workers images hand → IsHome homes nothings (16 * k) 16
spares_home homes shelves workers images hand k empty free fit j from to =
    let e : 16 * k + (j - 16 * k) ≡ j = omega arith in
    subst (λ i. get_elem? homes i ≡ some (some None)) e
    (elim (fit k (j - 16 * k) Shelf.Free free (omega arith)) [
      | inl a ↦ a.1
      | inr b ↦ absurd (let z : None ≡ Some k = sym empty ∙ b.0 in cc)
    ])

-- a step that finds a free shelf, and moves its empty slots
tries_free : (id k : ℕ) (l : LoaderView) (c : List (ℕ
    × Option Edition)) (hand' : Option ℕ) (a : Act (Option Edition)) (table : Table (Option Edition) View)
    (r : KeepsRule table) → get_elem? table.views id ≡ some (View.Loading l) → k < 8
    → slice_get l.shelves k ≡ Some Shelf.Free
    → SlotsFit (homes_after table.homes c a) r.history.state.shelves r.history.state.workers r.history.images hand'
    → (b : Bool) → (get_or table.words (k + 1) 0 == 512) ≡ b
    → (known : KnownHistory) × (after : KeepsRule (stepped table (k + 1) (either b 0 (get_or table.words (k + 1) 0)) id c
    (View.Loading (with_hand l hand' known)) a)) × IsLonger r.history (Event.Collect k) Reply.NotNow after.history
    × (known ≡ known_in_full after.history) × IsLastEvent l (Event.Collect k) Reply.NotNow known
tries_free id k l c hand' a table r at small free slots true found =
    let s = r.history.state in let n = get_or table.words (k + 1) 0 in let kept : KeepsInvariants s = kept_of r.history r.goes in
    let word = r.words.each k Shelf.Free (shelf_is table r id l at k Shelf.Free free) in let few =
    few_counted s k kept
    small in let is =
    is_equal n
    512 found
    in absurd
    (omega arith)
tries_free id k l c hand' a table r at small free slots false found =
    let s = r.history.state in let n = get_or table.words (k + 1) 0 in
    let knows = loader_knows table r id l at in
    let is_free : IsFree s k = shelf_is table r id l at k Shelf.Free free in
    let e : Event = Event.Collect k in let reply : Reply = Reply.NotNow in
    let is_step : Step s e reply s = ((λ v q. let z : Some Shelf.Free ≡ Some (Shelf.Closing v) = sym is_free ∙ q in cc), refl) in
    let d : EventHistory = extended r.history e reply s r.history.images in
    let l' : LoaderView = with_hand l hand' (known_in_full d) in
    let fits' : LoaderFits d l' = loader_next r.history d e l l' knows refl refl refl refl r.goes.as_many knows.shows.current knows.shows.current_shelf
    knows.shows.shelves in
    let after =
    noted_ruled table r id l l' at refl e reply s refl is_step refl refl refl refl (omega arith) (set table.words (k + 1) n)
    (homes_after table.homes c a) refl fits' (words_same table.words (k + 1) s s r.words refl refl refl refl) slots in (
      known_in_full d,
      after.0,
      after.1,
      after.2,
      after.3,
    )

-- after such a try the loader has this in its hand, and these slots
abbrev SparedOn : LoaderView → (ℕ → Option ℕ) → (ℕ → List (ℕ × Option Edition)) → ℕ → SeatAndSlots → Type 0
SparedOn l hand after j m' = (known : KnownHistory) × (m' ≡ (View.Loading (with_hand l (hand j) known), after j)) × IsLastEvent l
    (Event.Collect j) Reply.NotNow known

-- the loader may try a free shelf, where an act moves the shelf's empty slots
spare_tries : (slots id k : ℕ) (l : LoaderView) (c was : List (ℕ × Option Edition)) (hand : ℕ → Option ℕ) (after : ℕ
    → List (ℕ × Option Edition)) (a : Act (Option Edition)) → c ≡ was → k < 8 → slice_get l.shelves k ≡ Some Shelf.Free
    → carried_after was a ≡ after k
    → ((table : Table (Option Edition) View) (r : KeepsRule table) → length table.homes ≡ slots
    → get_elem? table.views id ≡ some (View.Loading l) → IsFree r.history.state k
    → Valid table.homes was a × SlotsFit (homes_after table.homes was a) r.history.state.shelves r.history.state.workers r.history.images (hand k))
    → Adds slots id (View.Loading l, c) (word_change (k + 1) (λ n. either (n == 512) 0 n) (Event.Collect k) (λ _. Reply.NotNow))
    (λ n m'. (j : ℕ) × (k + 1 ≡ j + 1) × SparedOn l hand after j m')
spare_tries slots id k l c was hand after a is small free moves moved =
    subst (λ (x : List (ℕ × Option Edition)). Adds slots id (View.Loading l, x) (word_change (k + 1) (λ n. either (n == 512) 0 n) (Event.Collect k)
    (λ _. Reply.NotNow)) (λ n m'. (j : ℕ) × (k + 1 ≡ j + 1) × SparedOn l hand after j m')) (sym is)
    (λ table r full at fits.
    let m = moved table r full at (shelf_is table r id l at k Shelf.Free free) in
    let z = tries_free id k l was (hand k) a table r at small free m.1 (get_or table.words (k + 1) 0 == 512) refl in
    (View.Loading (with_hand l (hand k) z.0), a, m.0, z.1, z.2, z.3, (k, refl, (z.0, (λ i. (View.Loading (with_hand l (hand k) z.0), moves i)), z.4))))

pub gathers_add : GatheringsAdd
gathers_add slots id k l c many small may =
    spare_tries slots id k l c [] (λ j. Some j) (λ j. down_from nothings (16 * j) 16 [])
    (take_block nothings (16 * k) 16) may.2 small may.0 (carried_down nothings (16 * k) 16 [])
    (λ table r full at is_free.
    let s = r.history.state in (
      block_valid table.homes [] nothings (16 * k) 16
          (spares_home table.homes s.shelves s.workers r.history.images l.hand k may.1 is_free
          (loader_slots table r id l at)),
      slots_block table.homes (homes_after table.homes [] (take_block nothings (16 * k) 16)) s.shelves s.shelves
          s.workers r.history.images r.history.images l.hand (Some k) k Shelf.Free is_free (λ j ne. refl)
          (λ i h. block_else table.homes [] nothings (16 * k) 16 i h) (prefix_same r.history.images)
          (λ j ne q. let y : None ≡ Some j = sym may.1 ∙ q in absurd (cc)) (λ j ne q. absurd (ne (cc)))
          (λ w less. inr (
            refl,
            block_out table.homes [] nothings (16 * k) 16 (16 * k + w) (omega arith) (omega arith)
                (omega arith),
          )) (loader_slots table r id l at),
    ))

pub gatherings : (slots id k : ℕ) (me : SeatAndSlots) → slots ≡ 128 → k < 8 → MayGather k me.0 me.1
    → Allows KeepsRule slots id me (k + 1) (λ n. either (n == 512) 0 n) (Gathers (step slots (k + 1) 512 0 none) me)
gatherings slots id k (View.Loading l, c) many small may =
    allows slots id (View.Loading l, c) (k + 1) (λ n. either (n == 512) 0 n) (Event.Collect k) (λ _. Reply.NotNow)
    (Gathers (step slots (k + 1) 512 0 none) (View.Loading l, c)) (gathers_add slots id k l c many small may)
gatherings slots id k (_, c) many small may = absurd may

pub puts_add : PuttingsAdd
puts_add slots id k l c many small may =
    let full = down_from nothings (16 * k) 16 [] in
    spare_tries slots id k l c full (λ j. None) (λ j. []) (give_block 16) may.2 small may.0 (given_rest nothings (16 * k) 16 [])
    (λ table r long at is_free.
    let s = r.history.state in (
      gives_valid table.homes full 16,
      slots_block table.homes (homes_after table.homes full (give_block 16)) s.shelves s.shelves s.workers r.history.images
          r.history.images l.hand None k Shelf.Free is_free (λ j ne. refl)
          (λ i h. given_else table.homes [] nothings (16 * k) 16 i h) (prefix_same r.history.images)
          (λ j ne q. let y : Some k ≡ Some j = sym may.1 ∙ q in absurd (ne (cc))) (λ j ne q. absurd (cc))
          (λ w less. inl (
            (λ q. cc),
            given_home table.homes [] nothings (16 * k) 16 (16 * k + w) (omega arith)
                (omega arith) (omega arith),
          )) (loader_slots table r id l at),
    ))

pub puttings : (slots id k : ℕ) (me : SeatAndSlots) → slots ≡ 128 → k < 8 → MayPutBack k me.0 me.1
    → Allows KeepsRule slots id me (k + 1) (λ n. either (n == 512) 0 n) (PutsBack (step slots (k + 1) 512 0 none) me)
puttings slots id k (View.Loading l, c) many small may =
    allows slots id (View.Loading l, c) (k + 1) (λ n. either (n == 512) 0 n) (Event.Collect k) (λ _. Reply.NotNow)
    (PutsBack (step slots (k + 1) 512 0 none) (View.Loading l, c)) (puts_add slots id k l c many small may)
puttings slots id k (_, c) many small may = absurd may

-- an image stays while others come
pub image_of-append : (images more : List ImageValue) (v : ℕ) (image : ImageValue) → image_of images v ≡ Some image → image_of (images ++ more) v ≡ Some image
image_of-append images more v image is = image_later images (images ++ more) v image (more, refl) is
