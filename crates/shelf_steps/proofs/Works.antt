-- Each step of a worker keeps the rule, and is one event.
use Rattle.reasoning.proofs.ListLemmas.{slice_get-set_same, slice_get-set_other}
use Rattle.version_core.specs.Actors.{no_actor, actor}
use Rattle.image_layout.specs.Image.{ImageValue}
use Rattle.std.proofs.Common.{◌≡◌, ◌≢◌, ℕ, zero, suc, ◌+◌, ◌-◌, ◌*◌, ◌/◌, ◌%◌, ◌<◌, ◌≤◌, Bool, true, false, cond, MatchBool}
use Rattle.std.proofs.Common.{List, [], ◌∷◌, length, set, get_or, Option, Some, None, slice_get, refl, ap, sym, ◌∙◌}
use Rattle.std.proofs.Common.{subst, arith, get_or-set_same, get_or-set_other, le_refl, inl, inr}
use Rattle.std.proofs.lemmas.Option.{slice_get_within}
use mathlib.Core.Option.{Option as Maybe, none, some}
use lib.ListN.{get_elem?}
use Rattle.atomic_table.specs.Table.{State as Table, Act, keeps, takes, gives, stepped, Allows, Valid, homes_after, carried_after}
use Rattle.version_core.specs.declared.event.Event.{Event}
use Rattle.version_core.specs.declared.event.Reply.{Reply}
use Rattle.version_core.specs.declared.state.Shelf.{Shelf}
use Rattle.version_core.specs.declared.state.Worker.{Worker}
use Rattle.version_core.specs.State.{State, looked, arrived, departed}
use Rattle.version_core.specs.Steps.{IsIdle, HasLooked, StaysAt, IsOpen, Step}
use Rattle.version_core.specs.Invariants.{KeepsInvariants, version_of, version_on}
use Rattle.version_core.proofs.Keeps.{looked_fits, stays_fits, held_known}
use Rattle.shelf_steps.specs.declared.edition.Edition.{Edition}
use Rattle.shelf_steps.specs.declared.views.KnownHistory.{KnownHistory}
use Rattle.shelf_steps.specs.declared.views.WorkerView.{WorkerView}
use Rattle.shelf_steps.specs.declared.views.View.{View}
use Rattle.shelf_steps.specs.EventHistory.{EventHistory, LeadsToItsState, IsLonger, extended, known_in_full, IsKnownBeginning, Happened, IsEdition}
use Rattle.version_core.specs.Shown.{WordsShow, WorkerShows, shelf_word}
use Rattle.shelf_steps.specs.Seats.{WorkerFits, LoaderFits, SeatsFit, HasEdition}
use Rattle.shelf_steps.specs.Slots.{SlotsFit, SlotFits, Slot, held_by}
use Rattle.shelf_steps.specs.Rule.{KeepsRule}
use Rattle.shelf_steps.specs.Plays.{SeatAndSlots, looked_at, is_open, holding, come_late, gone, Looks, TakesFound, TakesAs}
use Rattle.shelf_steps.specs.Plays.{Takes, Leaves, GivesBack, ShowsIdle, ShowsLooked, ShowsLate, HoldsOut, ShowsIn}
use Rattle.shelf_steps.specs.Events.{known_of}
use Rattle.shelf_steps.specs.Steps.{Adds, added, word_change, word_values, LooksAdd, TakesAdd, LeavesAdd, GivingsAdd}
use Rattle.shelf_steps.proofs.Courses.{kept_of, joined_same, no_note, no_join, nothing_snoc, workers_event}
use Rattle.shelf_steps.proofs.Courses.{begins_longer, happened, goes_same, loader_apart, prefix_same, other_fits, worker_next}
use Rattle.shelf_steps.proofs.Frames.{there, worker_moves}
use Rattle.shelf_steps.proofs.WordsAfter.{current_word, words_same, words_after, word_rises, word_falls, word_tells, found_at}
use Rattle.shelf_steps.proofs.NoteLists.{notices_worker}
use Rattle.shelf_steps.proofs.SlotsAfter.{slots_worker, slots_one, slot_filled, filled_fits}

-- a step of a worker changes what is so of that worker alone
module _ (table : Table (Option Edition) View) (r : KeepsRule table) (id : ℕ) (v v' : WorkerView)
    (at : get_elem? table.views id ≡ some (View.Working v)) (named : v'.number ≡ v.number)
    (e : Event) (reply : Reply) (t : State) (whose : actor e ≡ Some v.number) (is_step : Step r.history.state e reply t)
    (current : t.current ≡ r.history.state.current) (current_shelf : t.current_shelf
    ≡ r.history.state.current_shelf) (shelves : t.shelves ≡ r.history.state.shelves) (editions : t.editions
    ≡ r.history.state.editions)
    (rest : (w : ℕ) → w ≢ v.number → (slice_get t.workers w ≡ slice_get r.history.state.workers w) × (get_or t.seen w 0 ≡ get_or r.history.state.seen w 0))
  where
    pub next_goes : LeadsToItsState (extended r.history e reply t r.history.images)
    next_goes = goes_same r.history e reply t r.goes is_step
        (workers_event e v.number whose (let a = (r.seats.each id (View.Working v) at).0 in let b = r.seats.few in omega arith)) editions

    not_loaders : actor e ≢ None
    not_loaders q = let z : Some v.number ≡ None = sym whose ∙ q in cc

    not_of : (u : ℕ) → u ≢ v.number → actor e ≢ Some u
    not_of u other q = let z : Some v.number ≡ Some u = sym whose ∙ q in other (cc)

    number_small : v.number < 16
    number_small = let a = (r.seats.each id (View.Working v) at).0 in let b = r.seats.few in omega arith

    not_nobodys : actor e ≢ no_actor
    not_nobodys q = let z : Some v.number ≡ Some 16 = sym whose ∙ q in let same : v.number ≡ 16 = cc in let less = number_small in omega arith

    loads : LoaderFits (extended r.history e reply t r.history.images) r.loader
    loads = loader_apart r.history e reply t r.loader r.loader.notes not_loaders current current_shelf shelves editions
        (let z = no_note e not_nobodys in omega arith) r.seats.loads

    others : (u : WorkerView) → u.number ≢ v.number → WorkerFits r.history u → WorkerFits (extended r.history e reply t r.history.images) u
    others u other f = let z = rest u.number other in
        other_fits r.history (extended r.history e reply t r.history.images) u z.0 z.1 (omega arith) (prefix_same r.history.images)
        (begins_longer r.history e reply t r.history.images u.known (Some u.number) (not_of u.number other) (prefix_same r.history.images) f.known)
        (joined_same u.number r.history.events e (no_join u.number e not_nobodys)) f

    pub next_seats : WorkerFits (extended r.history e reply t r.history.images) v'
        → SeatsFit (extended r.history e reply t r.history.images) (set table.views id (View.Working v')) r.loader
    next_seats fits = worker_moves r.history (extended r.history e reply t r.history.images) table.views r.loader r.seats id v v' at named others loads rest
        (λ w low other h. nothing_snoc w r.history.events e (not_of w other) (no_join w e not_nobodys) h) fits

    pub next_ruled : (words' : List ℕ) (homes' : List (Maybe (Option Edition))) → v'.known ≡ known_in_full (extended r.history e reply t r.history.images)
        → WorkerFits (extended r.history e reply t r.history.images) v' → WordsShow words' t
        → SlotsFit homes' t.shelves t.workers r.history.images r.loader.hand → t.notices ≡ r.history.state.notices
        → (after : KeepsRule record { words = words'; homes = homes'; views = set table.views id (View.Working v') })
        × IsLonger r.history e reply after.history × (v'.known ≡ known_in_full after.history)
        × Happened v.known e reply (known_in_full (extended r.history e reply t r.history.images))
        × LeadsToItsState (extended r.history e reply t r.history.images)
    next_ruled words' homes' knows fits words slots notices = (
      record {
        history = extended r.history e reply t r.history.images;
        loader = r.loader;
        goes = next_goes;
        words = words;
        seats = next_seats fits;
        notices = notices_worker table.views id v v' at ∙ (r.notices ∙ sym notices);
        slots = slots;
      },
      record { is_step = is_step; events = refl; replies = refl; images = prefix_same r.history.images },
      knows,
      happened r.history e reply t r.history.images v.known
          (subst (λ (a : Option ℕ). IsKnownBeginning v.known a r.history) (sym whose) (r.seats.each id (View.Working v) at).2.known) next_goes
          (prefix_same r.history.images),
      next_goes,
    )

-- what the kit asks of an operation on a word, where the history grows by its event
pub allows : (slots id : ℕ) (me : SeatAndSlots) (i : ℕ) (f : ℕ → ℕ) (e : Event) (reply : ℕ → Reply) (tells : ℕ → SeatAndSlots → Type 0)
    → Adds slots id me (word_change i f e reply) tells → Allows KeepsRule slots id me i f tells
allows slots id me i f e reply tells adds table r full at small = let z = adds table r full at small in (z.0, z.1, z.2, z.3, z.6)

pub looks_add : LooksAdd
looks_add slots id v c idle table r full at small =
    let s = r.history.state in let w = v.number in let n = get_or table.words 0 0 in
    let kept : KeepsInvariants s = kept_of r.history r.goes in
    let f : WorkerFits r.history v = (r.seats.each id (View.Working v) at).2 in
    let is_idle : IsIdle s w = f.shows.now ∙ ap (λ (x : Worker). Some x) idle in
    let within = slice_get_within s.workers w _ is_idle in
    let z = current_word s n kept r.words.cur in
    let t : State = looked s w in
    let e : Event = Event.Look w in let reply : Reply = Reply.Looked (n / 8) (n % 8) in
    let is_step : Step s e reply t = (is_idle, z.1, z.2, refl) in
    let d : EventHistory = extended r.history e reply t r.history.images in
    let v' : WorkerView = looked_at v n (known_in_full d) in
    let rest : (j : ℕ) → j ≢ w → (slice_get t.workers j ≡ slice_get s.workers j) × (get_or t.seen j 0 ≡ get_or s.seen j 0) =
    λ j other. (slice_get-set_other s.workers w j (Worker.Looked s.current s.current_shelf) other, get_or-set_other s.seen w j s.current 0 other) in
    let many = kept.workers.sixteen in let many' = kept.workers.sixteen_seen in
    let seen_less : v.seen ≤ n / 8 = let q = kept.workers.each w Worker.Idle is_idle in let q' = f.shows.seen in let q'' = z.1 in omega arith in
    let shows : WorkerShows w v'.now v'.seen d.state = record {
      now = slice_get-set_same s.workers w (Worker.Looked s.current s.current_shelf) within ∙ (λ i. Some (Worker.Looked (sym z.1 i) (sym z.2 i)));
      seen = get_or-set_same s.seen w s.current 0 (omega arith) ∙ sym z.1;
    } in
    let fits : WorkerFits d v' = worker_next r.history d e v v' f refl refl refl (refl, refl) shows
    ((let q = z.1 in omega arith), le_refl (n / 8)) (λ p. absurd (cc)) refl in
    let after =
    next_ruled table r id v v' at refl e reply t refl is_step refl refl refl refl rest (set table.words 0 n) table.homes refl fits
    (words_same table.words 0 s t r.words refl refl refl refl)
    (slots_worker table.homes s.shelves s.workers r.history.images r.loader.hand w Worker.Idle (Worker.Looked s.current s.current_shelf) is_idle
    (λ k x q. cc) (λ k x q. cc) r.slots) refl in (
      View.Working v',
      keeps,
      tt,
      after.0,
      after.1,
      after.2,
      (
        known_in_full d,
        refl,
        after.3,
        seen_less,
        (λ p. let q = f.passed p in let q' = z.1 in omega arith),
        (t, after.4, fits.shows),
      ),
    )

pub looks : (slots id : ℕ) (me : SeatAndSlots) → ShowsIdle me.0 → Allows KeepsRule slots id me 0 (λ n. n) (Looks me)
looks slots id (View.Working v, c) idle =
    allows slots id (View.Working v, c) 0 (λ n. n) (Event.Look v.number) (λ n. Reply.Looked (n / 8) (n % 8)) (Looks (View.Working v, c))
    (looks_add slots id v c idle)
looks slots id (_, c) idle = absurd idle

-- the count of the shelf k becomes another, and its word with it
words_counted : (words : List ℕ) (k new count : ℕ) (ws : List Worker) (s : State) → KeepsInvariants s → WordsShow words s → k < 8
    → ((y : Shelf) → slice_get s.shelves k ≡ Some y → new ≡ shelf_word y count)
    → WordsShow (set words (k + 1) new) (record s { counts = set s.counts k count; workers = ws })
words_counted words k new count ws s kept shown small is =
    let l = kept.counts.eight in
    words_after words k new s (record s { counts = set s.counts k count; workers = ws }) shown small refl refl
    (λ j ne. (refl, get_or-set_other s.counts k j count 0 ne))
    (λ x at. is x at ∙ ap (λ m. shelf_word x m) (sym (get_or-set_same s.counts k count 0 (omega arith))))

-- what is known of a worker that has looked at a shelf
record Looker (s : State) (d : EventHistory) (v : WorkerView) (version k : ℕ) : Type 0 where
  fits : WorkerFits d v
  has : HasLooked s v.number version k
  within : v.number < length s.workers
  shelf : (v.number < 16) × (k < 8) × (get_or s.seen v.number 0 ≡ version) × (version ≤ s.current) × (version ≡ s.current → k ≡ s.current_shelf)

looker : (id k : ℕ) (v : WorkerView) (version : ℕ) (table : Table (Option Edition) View) (r : KeepsRule table)
    → get_elem? table.views id ≡ some (View.Working v) → v.now ≡ Worker.Looked version k
    → Looker r.history.state r.history v version k
looker id k v version table r at now =
    let s = r.history.state in let f : WorkerFits r.history v = (r.seats.each id (View.Working v) at).2 in
    let has : HasLooked s v.number version k = f.shows.now ∙ ap (λ (x : Worker). Some x) now in
    record { fits = f; has = has; within = slice_get_within s.workers v.number _ has; shelf = looked_fits s v.number version k (kept_of r.history r.goes) has }

takes_found : (id k : ℕ) (v : WorkerView) (version : ℕ) (c : List (ℕ
    × Option Edition)) (table : Table (Option Edition) View) (r : KeepsRule table)
    → get_elem? table.views id ≡ some (View.Working v) → v.now ≡ Worker.Looked version k
    → (b : Bool) → MatchBool b (IsOpen r.history.state k version) (¬ (IsOpen r.history.state k version))
    → (w : View) × (a : Act (Option Edition)) × Valid table.homes c a
    × (after : KeepsRule (stepped table (k + 1) (added 1 (get_or table.words (k + 1) 0)) id c w a))
    × IsLonger r.history (Event.Take v.number) (cond b (Reply.Holds version) Reply.Late) after.history × (known_of w ≡ known_in_full after.history)
    × TakesFound (v, c) (version, k) (get_or table.words (k + 1) 0) b (w, carried_after c a)
takes_found id k v version c table r at now true stands =
    let s = r.history.state in let w = v.number in let n = get_or table.words (k + 1) 0 in
    let kept : KeepsInvariants s = kept_of r.history r.goes in let l = looker id k v version table r at now in
    let f = l.fits in let has = l.has in let within = l.within in let z = l.shelf in
    let t : State = arrived s w k (Worker.Holding k version) in
    let e : Event = Event.Take w in let reply : Reply = Reply.Holds version in
    let is_step : Step s e reply t = (k, has, stands, refl) in
    let rest : (j : ℕ) → j ≢ w → (slice_get t.workers j ≡ slice_get s.workers j)
    × (get_or t.seen j 0 ≡ get_or s.seen j 0) =
    λ j other. (slice_get-set_other s.workers w j (Worker.Holding k version) other, refl) in
    let home : (x : Option Edition) × (get_elem? table.homes (16 * k + w) ≡ some (some x)) × IsEdition r.history.images version x =
    elim (r.slots k w (Shelf.Open version) stands z.0).1 [
      | inl a ↦ (a.0, a.1, a.2)
      | inr a ↦ absurd (let q : Some (Worker.Looked version k) ≡ Some (Worker.Holding k version) = sym has ∙ a.1 in cc)
    ] in
    let edition : Edition = home.2.0 in
    let filled : get_elem? table.homes (16 * k + w) ≡ some (some (Some edition)) = home.1 ∙ ap (λ (x : Option Edition). some (some x)) home.2.1 in
    let is_its : IsEdition r.history.images version (Some edition) = (edition, refl, home.2.2, home.2.3) in
    let d : EventHistory = extended r.history e reply t r.history.images in
    let v' : WorkerView = holding v k version edition (known_in_full d) in
    let shows : WorkerShows w v'.now v'.seen d.state = record { now = slice_get-set_same s.workers w (Worker.Holding k version) within; seen = f.shows.seen } in
    let fits : WorkerFits d v' = worker_next r.history d e v v' f refl refl refl (refl, refl) shows f.last f.passed is_its in
    let after =
    next_ruled table r id v v' at refl e reply t refl is_step refl refl refl refl rest (set table.words (k + 1) (added 1 n))
    (homes_after table.homes c (takes (16 * k + w) (Some edition))) refl fits
    (words_counted table.words k (added 1 n) (get_or s.counts k 0 + 1) t.workers s kept r.words z.1
    (word_rises table.words s k kept r.words z.1))
    (slots_one table.homes s.shelves s.workers r.history.images r.loader.hand k w (Worker.Looked version k) (Worker.Holding k version)
    (Shelf.Open version) none has (λ j x ne q. cc) (λ j x ne q. ne (cc)) stands z.0 (there table.homes (16 * k + w) _ filled)
    ((r.slots k w (Shelf.Open version) stands z.0).0, inr (refl, slice_get-set_same s.workers w (Worker.Holding k version) within)) r.slots) refl in (
      View.Working v',
      takes (16 * k + w) (Some edition),
      filled,
      after.0,
      after.1,
      after.2,
      (
        edition,
        known_in_full d,
        refl,
        after.3,
        is_its,
        (t, after.4, fits.shows),
        found_at table.words r.history r.goes r.words k e d refl z.1,
      ),
    )
takes_found id k v version c table r at now false shut =
    let s = r.history.state in let w = v.number in let n = get_or table.words (k + 1) 0 in
    let kept : KeepsInvariants s = kept_of r.history r.goes in let l = looker id k v version table r at now in
    let f = l.fits in let has = l.has in let within = l.within in let z = l.shelf in
    let t : State = arrived s w k (Worker.Late k) in
    let e : Event = Event.Take w in let reply : Reply = Reply.Late in
    let is_step : Step s e reply t = (version, k, has, shut, refl) in
    let rest : (j : ℕ) → j ≢ w → (slice_get t.workers j ≡ slice_get s.workers j)
    × (get_or t.seen j 0 ≡ get_or s.seen j 0) =
    λ j other. (slice_get-set_other s.workers w j (Worker.Late k) other, refl) in
    let d : EventHistory = extended r.history e reply t r.history.images in
    let v' : WorkerView = come_late v k (known_in_full d) in
    let goes' : LeadsToItsState d = next_goes table r id v v' at refl e reply t refl is_step refl refl refl refl rest in
    let late = (kept_of d goes').workers.each w (Worker.Late k) (slice_get-set_same s.workers w (Worker.Late k) within) in
    let shows : WorkerShows w v'.now v'.seen d.state = record { now = slice_get-set_same s.workers w (Worker.Late k) within; seen = f.shows.seen } in
    let fits : WorkerFits d v' = worker_next r.history d e v v' f refl refl refl (refl, refl) shows f.last
    (λ p. let a = f.last.1 in let b = f.shows.seen in let q = late.1 in omega arith) refl in
    let after =
    next_ruled table r id v v' at refl e reply t refl is_step refl refl refl refl rest
    (set table.words (k + 1) (added 1 n)) table.homes refl fits
    (words_counted table.words k (added 1 n) (get_or s.counts k 0 + 1) t.workers s kept r.words z.1
    (word_rises table.words s k kept r.words z.1))
    (slots_worker table.homes s.shelves s.workers r.history.images r.loader.hand w (Worker.Looked version k)
    (Worker.Late k) has (λ j x q. cc) (λ j x q. cc) r.slots) refl in (
      View.Working v',
      keeps,
      tt,
      after.0,
      after.1,
      after.2,
      (
        known_in_full d,
        refl,
        after.3,
        (t, goes', fits.shows),
        found_at table.words r.history r.goes r.words k e d refl z.1,
      ),
    )

pub takes_add : TakesAdd
takes_add slots id k version v c now table r full at fits =
    let s = r.history.state in let n = get_or table.words (k + 1) 0 in
    let kept : KeepsInvariants s = kept_of r.history r.goes in
    let f : WorkerFits r.history v = (r.seats.each id (View.Working v) at).2 in
    let z = looked_fits s v.number version k kept (f.shows.now ∙ ap (λ (x : Worker). Some x) now) in
    let t = takes_found id k v version c table r at now (is_open n version) (word_tells table.words s k version kept r.words z.1) in
    (t.0, t.1, t.2, t.3, t.4, t.5, subst (λ (x : Worker). TakesAs v c x n (t.0, carried_after c t.1)) (sym now) t.6)

pub takings : (slots id k : ℕ) (me : SeatAndSlots) → ShowsLooked k me.0 → Allows KeepsRule slots id me (k + 1) (added 1) (Takes me)
takings slots id k (View.Working v, c) has =
    allows slots id (View.Working v, c) (k + 1) (added 1) (Event.Take v.number)
    (λ n. cond (is_open n has.0) (Reply.Holds has.0) Reply.Late) (Takes (View.Working v, c)) (takes_add slots id k has.0 v c has.1)
takings slots id k (_, c) has = absurd has

-- a worker leaves the shelf k, and something is done with the slots
leaves_with : (id k : ℕ) (v : WorkerView) (table : Table (Option Edition) View) (r : KeepsRule table)
    (at : get_elem? table.views id ≡ some (View.Working v)) (stays : StaysAt r.history.state v.number k) (c : List (ℕ
    × Option Edition)) (a : Act (Option Edition))
    → get_or table.words (k + 1) 0 < word_values
    → SlotsFit (homes_after table.homes c a) r.history.state.shelves (set r.history.state.workers v.number Worker.Idle) r.history.images r.loader.hand
    → (known : KnownHistory) × (after : KeepsRule (stepped table (k + 1)
    (added (word_values - 1) (get_or table.words (k + 1) 0)) id c
    (View.Working (gone v known)) a))
    × IsLonger r.history (Event.Drop v.number) Reply.Dropped after.history × (known ≡ known_in_full after.history)
    × Happened v.known (Event.Drop v.number) Reply.Dropped known
    × ShowsIn (gone v known)
leaves_with id k v table r at stays c a small slots =
    let s = r.history.state in let w = v.number in let n = get_or table.words (k + 1) 0 in
    let kept : KeepsInvariants s = kept_of r.history r.goes in
    let f : WorkerFits r.history v = (r.seats.each id (View.Working v) at).2 in
    let within = slice_get_within s.workers w _ f.shows.now in
    let z = stays_fits s w k kept stays in
    let t : State = departed s w k in
    let e : Event = Event.Drop w in let reply : Reply = Reply.Dropped in
    let is_step : Step s e reply t = (k, stays, refl) in
    let rest : (j : ℕ) → j ≢ w → (slice_get t.workers j ≡ slice_get s.workers j)
    × (get_or t.seen j 0 ≡ get_or s.seen j 0) =
    λ j other. (slice_get-set_other s.workers w j Worker.Idle other, refl) in
    let d : EventHistory = extended r.history e reply t r.history.images in
    let v' : WorkerView = gone v (known_in_full d) in
    let shows : WorkerShows w v'.now v'.seen d.state = record { now = slice_get-set_same s.workers w Worker.Idle within; seen = f.shows.seen } in
    let fits : WorkerFits d v' = worker_next r.history d e v v' f refl refl refl (refl, refl) shows f.last f.passed refl in
    let after =
    next_ruled table r id v v' at refl e reply t refl is_step refl refl refl refl rest
    (set table.words (k + 1) (added (word_values - 1) n)) (homes_after table.homes c a) refl fits
    (words_counted table.words k (added (word_values - 1) n) (get_or s.counts k 0 - 1) t.workers s kept r.words z.1
    (word_falls table.words s k kept r.words z.1 z.2)) slots refl in (
      known_in_full d,
      after.0,
      after.1,
      after.2,
      after.3,
      (t, after.4, fits.shows),
    )

pub leaves_add : LeavesAdd
leaves_add slots id k v c late table r full at small =
    let s = r.history.state in
    let f : WorkerFits r.history v = (r.seats.each id (View.Working v) at).2 in
    let here : slice_get s.workers v.number ≡ Some (Worker.Late k) = f.shows.now ∙ ap (λ (x : Worker). Some x) late in
    let t = leaves_with id k v table r at (inl here) c keeps small
    (slots_worker table.homes s.shelves s.workers r.history.images r.loader.hand v.number (Worker.Late k)
    Worker.Idle here (λ j x q. cc) (λ j x q. cc) r.slots) in
    (View.Working (gone v t.0), keeps, tt, t.1, t.2, t.3, (t.0, refl, t.4, t.5))

pub leavings : (slots id k : ℕ) (me : SeatAndSlots) → ShowsLate k me.0
    → Allows KeepsRule slots id me (k + 1) (added (word_values - 1)) (λ _. Leaves me)
leavings slots id k (View.Working v, c) late =
    allows slots id (View.Working v, c) (k + 1) (added (word_values - 1)) (Event.Drop v.number)
    (λ _. Reply.Dropped) (λ _. Leaves (View.Working v, c)) (leaves_add slots id k v c late)
leavings slots id k (_, c) late = absurd late

-- the shelf that a worker holds
pub held_on : (shelves : List Shelf) (k version : ℕ) → version_on shelves k ≡ Some version
    → (y : Shelf) × (slice_get shelves k ≡ Some y) × (version_of y ≡ Some version)
held_on [] k version e = absurd (cc)
held_on (y ∷ ys) zero version e = (y, refl, e)
held_on (y ∷ ys) (suc k) version e = held_on ys k version e

held_shelf : (s : State) (w k version : ℕ) → KeepsInvariants s → slice_get s.workers w ≡ Some (Worker.Holding k version)
    → (y : Shelf) × (slice_get s.shelves k ≡ Some y) × (version_of y ≡ Some version)
held_shelf s w k version kept here = held_on s.shelves k version (held_known s w k version kept here).0

-- a slot at home with the edition of the shelf's version, if its worker doesn't hold the shelf
fills : (y : Shelf) (images : List ImageValue) (before ws : List Worker) (hand : Option ℕ) (k w version : ℕ) (slot : Slot)
    (edition : Option Edition) → version_of y ≡ Some version → IsEdition images version edition
    → ((x : ℕ) → slice_get ws w ≢ Some (Worker.Holding k x)) → SlotFits (held_by images before hand) y k w slot
    → SlotFits (held_by images ws hand) y k w (some (some edition))
fills y images before ws hand k w version slot edition e its away was =
    filled_fits images ws hand y k w version (some (some edition)) e (slot_filled images before hand y k w version slot e was).0
    (inl (edition, refl, its, away version))

pub gives_add : GivingsAdd
gives_add slots id k version v many now table r full at small =
    let s = r.history.state in let w = v.number in let kept : KeepsInvariants s = kept_of r.history r.goes in
    let f : WorkerFits r.history v = (r.seats.each id (View.Working v) at).2 in
    let here : slice_get s.workers w ≡ Some (Worker.Holding k version) = f.shows.now ∙ ap (λ (x : Worker). Some x) now in
    let z = stays_fits s w k kept (inr (version, here)) in
    let its : IsEdition r.history.images version v.edition = subst (λ (x : Worker). HasEdition r.history.images x v.edition) now f.edition in
    let stands = held_shelf s w k version kept here in
    let idle : slice_get (set s.workers w Worker.Idle) w ≡ Some Worker.Idle =
    slice_get-set_same s.workers w Worker.Idle (slice_get_within s.workers w _ here) in
    let away : (x : ℕ) → slice_get (set s.workers w Worker.Idle) w ≢ Some (Worker.Holding k x) =
    λ x q. let y : Some Worker.Idle ≡ Some (Worker.Holding k x) = sym idle ∙ q in cc in
    let t = leaves_with id k v table r at (inr (version, here)) ((16 * k + w, v.edition) ∷ []) gives small
    (slots_one table.homes s.shelves s.workers r.history.images r.loader.hand k w (Worker.Holding k version) Worker.Idle stands.0 (some v.edition) here
    (λ j x ne q. ne (cc)) (λ j x ne q. cc) stands.1 z.0 (let a = z.0 in let b = z.1 in omega arith)
    (fills stands.0 r.history.images s.workers (set s.workers w Worker.Idle) r.loader.hand k w version
    (get_elem? table.homes (16 * k + w)) v.edition stands.2 its away (r.slots k w stands.0 stands.1 z.0)) r.slots) in
    (View.Working (gone v t.0), gives, tt, t.1, t.2, t.3, (t.0, refl, t.4, t.5))

pub givings : (slots id k : ℕ) (me : SeatAndSlots) → slots ≡ 128 → HoldsOut k me.0 me.1
    → Allows KeepsRule slots id me (k + 1) (added (word_values - 1)) (λ _. GivesBack me)
givings slots id k (View.Working v, c) many h =
    subst (λ (x : List (ℕ × Option Edition)). Allows KeepsRule slots id (
      View.Working v,
      x,
    ) (k + 1) (added (word_values - 1)) (λ _. GivesBack (View.Working v, x)))
    (sym h.2)
    (allows slots id (View.Working v, (16 * k + v.number, v.edition) ∷ []) (k + 1)
    (added (word_values - 1)) (Event.Drop v.number) (λ _. Reply.Dropped)
    (λ _. GivesBack (View.Working v, (16 * k + v.number, v.edition) ∷ [])) (gives_add slots id k h.0 v many h.1))
givings slots id k (_, c) many h = absurd h
