-- The loader's seat between two calls: what it remembers is true, and follows from all that it knows.
use Rattle.std.proofs.Common.{◌≡◌, ◌≢◌, ℕ, zero, suc, ◌+◌, ◌<◌, ◌≤◌, ◌⊎◌, Bool, true, false, List, [], ◌∷◌, ◌++◌, length, set, get_or, take}
use Rattle.std.proofs.Common.{Option, Some, None, slice_get, refl, ap, sym, ◌∙◌, subst, arith, inl, inr, length-set, length-append}
use Rattle.std.proofs.Common.{get_or-set_same, get_or-set_other}
use Rattle.std.proofs.lemmas.List.{append_cancel_left}
use Rattle.std.proofs.lemmas.Option.{slice_get_within}
use Rattle.std.proofs.Math.Seq.{take-append_seam}
use Rattle.reasoning.proofs.ListLemmas.{slice_get-set_same, slice_get-set_other, at_below}
use Rattle.image_layout.specs.Image.{ImageValue}
use Rattle.version_core.specs.declared.event.Event.{Event}
use Rattle.version_core.specs.declared.event.Reply.{Reply}
use Rattle.version_core.specs.declared.state.Shelf.{Shelf}
use Rattle.version_core.specs.State.{State, most_versions, start}
use Rattle.version_core.specs.Steps.{Step}
use Rattle.version_core.specs.Runs.{Run}
use Rattle.version_core.specs.Actors.{actor, NoneOf}
use Rattle.version_core.proofs.Lists.{slice_get-set}
use Rattle.version_core.proofs.Runs.{runs_part}
use Rattle.shelf_steps.specs.declared.views.KnownHistory.{KnownHistory}
use Rattle.shelf_steps.specs.declared.views.LoaderView.{LoaderView}
use Rattle.shelf_steps.specs.declared.views.View.{View}
use Rattle.shelf_steps.specs.EventHistory.{Happened}
use Rattle.shelf_steps.specs.Events.{known_of}
use Rattle.shelf_steps.specs.Loading.{LoadsShelf, Loads, FreesShelf, Frees, FindsShelfBusy, FindsBusy}
use Rattle.shelf_steps.specs.Plays.{OfLoader, newest_of}
use Rattle.shelves.specs.declared.collected.Collected.{Collected}
use Rattle.shelves.specs.declared.faults.PublishFault.{PublishFault}
use Rattle.shelves.specs.declared.answers.LoaderAnswer.{LoaderAnswer}
use Rattle.shelves.specs.SeatHistory.{EachClosingIsTried}
use Rattle.shelves.specs.Seats.{AreBusyButOne, ShowsRefusal}
use Rattle.shelves.specs.ShelfLoads.{LeadsToShelves, KnowsShelves, RefusesBySteps, IsUnspent, Rests, TriedShelf, TriesBelow, shelf_of, HasFree, AreFull}
use Rattle.shelves.proofs.Tries.{of_loaders, was_there, was_reported, WasFound, tried_once, freed_is_free}

-- what events that aren't the loader's leave alone
pub record LeavesShelves (s t : State) : Type 0 where
  pub shelves : t.shelves ≡ s.shelves
  pub editions : t.editions ≡ s.editions

leaves : (s t u : State) → t ≡ u → LeavesShelves s u → LeavesShelves s t
leaves s t u e same = subst (λ x. LeavesShelves s x) (sym e) same

pub other_leaves : (s : State) (e : Event) (r : Reply) (t : State) → actor e ≢ None → Step s e r t → LeavesShelves s t
other_leaves s (Event.Look w) (Reply.Looked v k) t other h = leaves s t _ h.3 (record { shelves = refl; editions = refl })
other_leaves s (Event.Look w) Reply.NotNow t other h = leaves s t _ h.1 (record { shelves = refl; editions = refl })
other_leaves s (Event.Look w) _ t other h = absurd h
other_leaves s (Event.Take w) (Reply.Holds v) t other h = leaves s t _ h.3 (record { shelves = refl; editions = refl })
other_leaves s (Event.Take w) Reply.Late t other h = leaves s t _ h.4 (record { shelves = refl; editions = refl })
other_leaves s (Event.Take w) Reply.NotNow t other h = leaves s t _ h.1 (record { shelves = refl; editions = refl })
other_leaves s (Event.Take w) _ t other h = absurd h
other_leaves s (Event.Drop w) Reply.Dropped t other h = leaves s t _ h.2 (record { shelves = refl; editions = refl })
other_leaves s (Event.Drop w) Reply.NotNow t other h = leaves s t _ h.1 (record { shelves = refl; editions = refl })
other_leaves s (Event.Drop w) _ t other h = absurd h
other_leaves s (Event.Ask w) (Reply.From v e) t other h = leaves s t _ h.3 (record { shelves = refl; editions = refl })
other_leaves s (Event.Ask w) Reply.NotNow t other h = leaves s t _ h.1 (record { shelves = refl; editions = refl })
other_leaves s (Event.Ask w) _ t other h = absurd h
other_leaves s Event.Note (Reply.Noted v) t other h = leaves s t _ h.1 (record { shelves = refl; editions = refl })
other_leaves s Event.Note _ t other h = absurd h
other_leaves s (Event.Join w v) (Reply.Joined n) t other h = leaves s t _ h.2.2 (record { shelves = refl; editions = refl })
other_leaves s (Event.Join w v) Reply.NotNow t other h = leaves s t _ h.1 (record { shelves = refl; editions = refl })
other_leaves s (Event.Join w v) _ t other h = absurd h
other_leaves s _ r t other h = absurd (other refl)

others_leave : (s : State) (es : List Event) (rs : List Reply) (t : State) → NoneOf None es → Run s es rs t → t.shelves ≡ s.shelves
others_leave s [] [] t none h = ap (λ (x : State). x.shelves) h
others_leave s (e ∷ es) (r ∷ rs) t none h = others_leave h.0 es rs t none.1 h.2 ∙ (other_leaves s e r h.0 none.0 h.1).shelves
others_leave s _ _ t none h = absurd h

as_many : (s : State) (es : List Event) (rs : List Reply) (t : State) → Run s es rs t → length rs ≡ length es
as_many s [] [] t h = refl
as_many s (e ∷ es) (r ∷ rs) t h = let l = as_many h.0 es rs t h.2 in omega arith
as_many s _ _ t h = absurd h

module _ {A : Type 0} where
  -- as long a beginning of one list is one beginning
  same_front : (xs zs ys ws : List A) → length xs ≡ length zs → xs ++ ys ≡ zs ++ ws → xs ≡ zs
  same_front xs zs ys ws long is =
      sym (take-append_seam xs ys) ∙ (ap (λ (l : List A). take (length xs) l) is ∙ (ap (λ n. take n (zs ++ ws)) long ∙ take-append_seam zs ws))

  same_last : (xs zs : List A) (x z : A) → xs ++ x ∷ [] ≡ zs ++ z ∷ [] → (xs ≡ zs) × (x ≡ z)
  same_last xs zs x z is =
      let long : length xs ≡ length zs = omega (arith, length-append xs (x ∷ []), length-append zs (z ∷ []), ap (λ (l : List A). length l) is) in
      let front = same_front xs zs (x ∷ []) (z ∷ []) long is in
      let last : x ∷ [] ≡ z ∷ [] = append_cancel_left zs (x ∷ []) (z ∷ []) (ap (λ (l : List A). l ++ x ∷ []) (sym front) ∙ is) in
      (front, (cc))

-- the last event of a list is a step
last_step : (t u : State) (e : Event) (rs : List Reply) → Run t (e ∷ []) rs u → (r : Reply) × (rs ≡ r ∷ []) × Step t e r u
last_step t u e (r ∷ []) h = (r, refl, subst (λ (x : State). Step t e r x) (sym h.2) h.1)
last_step t u e [] h = absurd h
last_step t u e (r ∷ q ∷ rs) h = absurd h.2

-- the state in which the last event came has the shelves that were known before
before_last : (before after : KnownHistory) (shelves : List Shelf) (e : Event) (r : Reply) → LeadsToShelves before shelves → actor e ≡ None
    → Happened before e r after → (u : State) → Run start after.events after.replies u → (t : State) × (t.shelves ≡ shelves) × Step t e r u
before_last before after shelves e r led loaders h u run =
    let cut = runs_part start u (before.events ++ h.events.0) (e ∷ []) after.replies (subst (λ (l : List Event). Run start l after.replies u) h.events.1 run) in
    let last = last_step cut.0 u e cut.2 cut.5 in
    let early = runs_part start cut.0 before.events h.events.0 cut.1 cut.4 in
    let both : cut.1 ++ last.0 ∷ [] ≡ (before.replies ++ h.replies.0) ++ r ∷ [] =
    ap (λ (l : List Reply). cut.1 ++ l) (sym last.1) ∙ (sym cut.3 ∙ h.replies.1) in
    let split = same_last cut.1 (before.replies ++ h.replies.0) last.0 r both in
    let long : length early.1 ≡ length before.replies = as_many start before.events early.1 early.0 early.4
    ∙ sym (as_many start before.events before.replies led.state led.history.run) in
    let front : early.1 ≡ before.replies = same_front early.1 before.replies early.2 h.replies.0 long (sym early.3 ∙ split.0) in
    let none : NoneOf None h.events.0 = subst (λ a. NoneOf a h.events.0) loaders h.events.2 in (
      cut.0,
      others_leave early.0 h.events.0 early.2 cut.0 none early.5
          ∙ led.each early.0 (subst (λ (l : List Reply). Run start before.events l early.0) front early.4),
      subst (λ q. Step cut.0 e q u) split.1 last.2,
    )

-- what is known after one event of the loader more
led_on : {before after : KnownHistory} {shelves : List Shelf} {e : Event} {r : Reply} (now : List Shelf) → LeadsToShelves before shelves → actor e ≡ None
    → Happened before e r after → ((t u : State) → t.shelves ≡ shelves → Step t e r u → u.shelves ≡ now) → LeadsToShelves after now
led_on {before} {after} {shelves} {e} {r} now led loaders h turns = record {
  state = h.state;
  history = h.goes;
  each = λ u run. let b = before_last before after shelves e r led loaders h u run in turns b.0 u b.1 b.2;
}

led_freed : (a b : LoaderView) (k : ℕ) → LeadsToShelves a.known a.shelves → FreesShelf a k b → LeadsToShelves b.known b.shelves
led_freed a b k led f =
    let freed = led_on (set a.shelves k Shelf.Free) led refl f.collect
    (λ t u same step. ap (λ (x : State). x.shelves) step.3 ∙ ap (λ (xs : List Shelf). set xs k Shelf.Free) same) in
    led_on b.shelves freed refl f.put_back (λ t u same step. ap (λ (x : State). x.shelves) step.1 ∙ (same ∙ sym f.shelves))

led_loaded : (a b : LoaderView) (image : ImageValue) (version shelf : ℕ) → LeadsToShelves a.known a.shelves
    → (h : LoadsShelf a image version shelf b) → slice_get (set a.shelves shelf (Shelf.Open version)) h.former ≡ Some (Shelf.Open a.current)
    → LeadsToShelves b.known b.shelves
led_loaded a b image version shelf led h there =
    let first : List Shelf = set a.shelves shelf (Shelf.Open version) in
    let gathered = led_on a.shelves led refl h.gather (λ t u same step. ap (λ (x : State). x.shelves) step.1 ∙ same) in
    let opened = led_on first gathered refl h.opening (λ t u same step. ap (λ (x : State). x.shelves) step.3
    ∙ (ap (λ n. set t.shelves shelf (Shelf.Open n)) (sym step.2) ∙ ap (λ (xs : List Shelf). set xs shelf (Shelf.Open version)) same)) in
    let published = led_on first opened refl h.publish (λ t u same step. ap (λ (x : State). x.shelves) step.2 ∙ same) in
    led_on b.shelves published refl h.close (λ t u same step.
    let both : Some (Shelf.Open step.0) ≡ Some (Shelf.Open a.current) =
    sym (ap (λ (xs : List Shelf). slice_get xs h.former) (sym same) ∙ step.1.0) ∙ there in let one : step.0 ≡ a.current = cc in
    ap (λ (x : State). x.shelves) step.2 ∙ (ap (λ n. set t.shelves h.former (Shelf.Closing n)) one
    ∙ (ap (λ (xs : List Shelf). set xs h.former (Shelf.Closing a.current)) same ∙ sym h.shelves)))

pub busy_known : (k count : ℕ) (u u' : View) → KnowsShelves u → FindsBusy k count u u' → KnowsShelves u'
busy_known k count u u' led h = of_loaders (λ a b. FindsShelfBusy a k count b) (λ v v'. KnowsShelves v → KnowsShelves v') u u'
    (λ a b f led. led_on b.shelves led refl f.collect (λ t u same step. ap (λ (x : State). x.shelves) step.4 ∙ (same ∙ sym f.shelves))) h led

-- a load of the next version
rests_loaded : (a b : LoaderView) (current current_shelf : ℕ) (shelves : List Shelf) (image : ImageValue)
    (shelf version : ℕ) → Rests current current_shelf shelves a → slice_get a.shelves shelf ≡ Some Shelf.Free
    → version ≡ current + 1 → version ≤ most_versions → LoadsShelf a image version shelf b
    → Rests version shelf (set (set shelves shelf (Shelf.Open version)) current_shelf (Shelf.Closing current)) b
rests_loaded a b current current_shelf shelves image shelf version rest free next few loaded =
    let free' : slice_get shelves shelf ≡ Some Shelf.Free = ap (λ (xs : List Shelf). slice_get xs shelf) (sym rest.shelves_are) ∙ free in
    let within = slice_get_within shelves shelf _ free' in
    let eight = rest.small.1 in
    let former = loaded.former_is ∙ rest.current_shelf_is in
    let first : List Shelf = set shelves shelf (Shelf.Open version) in
    let long : length first ≡ 8 = length-set shelves shelf (Shelf.Open version) ∙ eight in
    let other : shelf ≢ current_shelf = λ e. let z : Some Shelf.Free ≡ Some (Shelf.Open current) =
    sym free' ∙ (ap (λ n. slice_get shelves n) e ∙ rest.stands) in cc in
    let n1 = rest.newest in let n2 = rest.current_is in let n3 = length-append a.known.images (image ∷ []) in
    let n4 : newest_of b ≡ length (a.known.images ++ image ∷ []) = ap (λ (l : List ImageValue). length l) loaded.images in
    record {
      empty = loaded.hand;
      newest = loaded.current.0 ∙ (let z : version ≡ newest_of b = omega arith in z);
      current_is = loaded.current.0;
      current_shelf_is = loaded.current.1;
      shelves_are = loaded.shelves ∙ (λ i. set (set (rest.shelves_are i) shelf (Shelf.Open version)) (former i) (Shelf.Closing (rest.current_is i)));
      few = ((let f = rest.few.0 in omega arith), few);
      small = ((omega arith), length-set first current_shelf (Shelf.Closing current) ∙ long);
      stands = slice_get-set_other first current_shelf shelf (Shelf.Closing current) other ∙ slice_get-set_same shelves shelf (Shelf.Open version) within;
      one_open = λ k v is. let small = rest.small.0 in elim (slice_get-set first current_shelf k (Shelf.Closing current) (Shelf.Open v) (omega arith) is) [
        | inl q ↦ absurd (let z = q.1 in cc)
        | inr q ↦ elim (slice_get-set shelves shelf k (Shelf.Open version) (Shelf.Open v) within q.1) [
          | inl p ↦ p.0
          | inr p ↦ absurd (q.0 (rest.one_open k v p.1))
        ]
      ];
      closing = λ k v is. let small = rest.small.0 in elim (slice_get-set first current_shelf k (Shelf.Closing current) (Shelf.Closing v) (omega arith) is) [
        | inl q ↦ (let same : v ≡ current = cc in let f = rest.few.1 in omega arith)
        | inr q ↦ elim (slice_get-set shelves shelf k (Shelf.Open version) (Shelf.Closing v) within q.1) [
          | inl p ↦ absurd (let z = p.1 in cc)
          | inr p ↦ rest.closing k v p.1
        ]
      ];
    }

-- what the seat remembers is true, and follows from what it knows
abbrev pub Remembers : ℕ → ℕ → List Shelf → View → Type 0
Remembers current current_shelf shelves u = OfLoader u (λ l. Rests current current_shelf shelves l) × KnowsShelves u

pub remembers_loaded : (current current_shelf : ℕ) (shelves : List Shelf) (image : ImageValue) (shelf version : ℕ) (u u' : View)
    → Remembers current current_shelf shelves u → shelf_of u shelf ≡ Some Shelf.Free → version ≡ current + 1 → version ≤ most_versions
    → Loads shelf version image u u'
    → Remembers version shelf (set (set shelves shelf (Shelf.Open version)) current_shelf (Shelf.Closing current)) u'
remembers_loaded current current_shelf shelves image shelf version u u' known free next few loads =
    of_loaders (λ a b. LoadsShelf a image version shelf b) (λ v v'. Remembers current current_shelf shelves v → shelf_of v shelf ≡ Some Shelf.Free
    → Remembers version shelf (set (set shelves shelf (Shelf.Open version)) current_shelf (Shelf.Closing current)) v') u u' (λ a b loaded known free.
    let rest = known.0 in
    let stands : slice_get a.shelves current_shelf ≡ Some (Shelf.Open a.current) =
    ap (λ (xs : List Shelf). slice_get xs current_shelf) rest.shelves_are ∙ (rest.stands ∙ ap (λ n. Some (Shelf.Open n)) (sym rest.current_is)) in
    let other : current_shelf ≢ shelf = λ e. let z : Some (Shelf.Open a.current) ≡ Some Shelf.Free =
    sym stands ∙ (ap (λ n. slice_get a.shelves n) e ∙ free) in cc in (
      rests_loaded a b current current_shelf shelves image shelf version rest free next few loaded,
      led_loaded a b image version shelf known.1 loaded
          (subst (λ k. slice_get (set a.shelves shelf (Shelf.Open version)) k ≡ Some (Shelf.Open a.current)) (sym (loaded.former_is ∙ rest.current_shelf_is))
          (slice_get-set_other a.shelves shelf current_shelf (Shelf.Open version) other ∙ stands)),
    )) loads known free

-- a closing shelf that was freed leaves the rest as it was
pub remembers_freed : (current current_shelf : ℕ) (shelves : List Shelf) (k v : ℕ) (u u' : View)
    → Remembers current current_shelf shelves u → get_or shelves k Shelf.Free ≡ Shelf.Closing v → Frees k u u'
    → Remembers current current_shelf (set shelves k Shelf.Free) u'
remembers_freed current current_shelf shelves k v u u' known is frees = of_loaders (λ a b. FreesShelf a k b)
    (λ v v'. Remembers current current_shelf shelves v → Remembers current current_shelf (set shelves k Shelf.Free) v') u u' (λ a b f known.
    let rest = known.0 in
    let closing : slice_get shelves k ≡ Some (Shelf.Closing v) =
    was_there shelves k Shelf.Free (λ e. let z = is in cc) ∙ ap (λ (x : Shelf). Some x) is in
    let within = slice_get_within shelves k _ closing in
    let other : current_shelf ≢ k = λ e. let z : Some (Shelf.Open current) ≡ Some (Shelf.Closing v) =
    sym rest.stands ∙ (ap (λ n. slice_get shelves n) e ∙ closing) in cc in (
      record {
        empty = f.hand;
        newest = f.current.0 ∙ (rest.newest ∙ ap (λ (l : List ImageValue). length l) (sym f.images));
        current_is = f.current.0 ∙ rest.current_is;
        current_shelf_is = f.current.1 ∙ rest.current_shelf_is;
        shelves_are = f.shelves ∙ ap (λ (xs : List Shelf). set xs k Shelf.Free) rest.shelves_are;
        few = rest.few;
        small = (rest.small.0, length-set shelves k Shelf.Free ∙ rest.small.1);
        stands = slice_get-set_other shelves k current_shelf Shelf.Free other ∙ rest.stands;
        one_open = λ j w is. elim (slice_get-set shelves k j Shelf.Free (Shelf.Open w) within is) [
          | inl p ↦ absurd (let z = p.1 in cc)
          | inr p ↦ rest.one_open j w p.1
        ];
        closing = λ j w is. elim (slice_get-set shelves k j Shelf.Free (Shelf.Closing w) within is) [
          | inl p ↦ absurd (let z = p.1 in cc)
          | inr p ↦ rest.closing j w p.1
        ];
      },
      led_freed a b k known.1 f,
    )) frees known

-- what was found below k stays found
tries_stay : (k n : ℕ) (u u' : View) (freed : List Bool) (busy : List ℕ) (f : Bool) (b : ℕ) → k ≤ n
    → TriesBelow k u freed busy u' → TriesBelow k u (set freed n f) (set busy n b) u'
tries_stay zero n u u' freed busy f b less t = t
tries_stay (suc k) n u u' freed busy f b less t = (
  t.0,
  tries_stay k n u t.0 freed busy f b (omega arith) t.1,
  subst (λ x. TriedShelf k (shelf_of t.0 k) t.0 (x, get_or (set busy n b) k 0) u') (sym (get_or-set_other freed n k f false (λ e. omega arith)))
      (subst (λ x. TriedShelf k (shelf_of t.0 k) t.0 (get_or freed k false, x) u') (sym (get_or-set_other busy n k b 0 (λ e. omega arith))) t.2),
)

pub one_more_try : (k : ℕ) (u mid u' : View) (freed : List Bool) (busy : List ℕ) (f : Bool) (b : ℕ) → k < length freed
    → k < length busy → TriesBelow k u freed busy mid → TriedShelf k (shelf_of mid k) mid (f, b) u'
    → TriesBelow (k + 1) u (set freed k f) (set busy k b) u'
one_more_try k u mid u' freed busy f b l1 l2 t new =
    let e : suc k ≡ k + 1 = omega arith in
    subst (λ n. TriesBelow n u (set freed k f) (set busy k b) u') e (
      mid,
      tries_stay k k u mid freed busy f b (omega arith) t,
      subst (λ x. TriedShelf k (shelf_of mid k) mid (x, get_or (set busy k b) k 0) u')
          (sym (get_or-set_same freed k f false l1))
          (subst (λ x. TriedShelf k (shelf_of mid k) mid (f, x) u') (sym (get_or-set_same busy k b 0 l2)) new),
    )

-- a try at a shelf that doesn't free it finds it in use, if it is closing, and nobody there, if it is open
found_at : (k : ℕ) (s : Option Shelf) (u : View) (f : Bool) (b : ℕ) (u' : View) → TriedShelf k s u (f, b) u'
    → ((v : ℕ) → s ≡ Some (Shelf.Closing v) → (f ≡ true) ⊎ (0 < b)) × ((v : ℕ) → s ≡ Some (Shelf.Open v) → b ≡ 0)
found_at k (Some (Shelf.Closing v)) u true b u' t = ((λ x e. inl refl), (λ x e. absurd (cc)))
found_at k (Some (Shelf.Closing v)) u false b u' t =
    ((λ x e. inr (of_loaders (λ a b'. FindsShelfBusy a k b b') (λ v v'. 0 < b) u u' (λ a b' h. h.some_one) t)), (λ x e. absurd (cc)))
found_at k _ u f b u' t = ((λ x e. absurd (cc)), (λ x e. t.1))

-- the same of all eight, by what they were before
all_found : (u u' : View) (found : Collected) → TriesBelow 8 u found.freed found.busy u' → (k : ℕ) → k < 8
    → ((v : ℕ) → shelf_of u k ≡ Some (Shelf.Closing v) → WasFound found.freed found.busy k)
    × ((v : ℕ) → shelf_of u k ≡ Some (Shelf.Open v) → get_or found.busy k 0 ≡ 0)
all_found u u' found t k less =
    let once = tried_once 8 u found.freed found.busy u' t k less in let was = once.before.others k (λ ne. ne refl) in
    let at = found_at k (shelf_of once.first k) once.first (get_or found.freed k false) (get_or found.busy k 0) once.last once.here in
    ((λ v is. at.0 v (was ∙ is)), (λ v is. at.1 v (was ∙ is)))

-- so each shelf that was closing by what the loader knows is reported
pub each_closing : (current current_shelf : ℕ) (shelves : List Shelf) (u u' : View) (found : Collected)
    → Remembers current current_shelf shelves u → TriesBelow 8 u found.freed found.busy u' → EachClosingIsTried (known_of u) found
each_closing current current_shelf shelves (View.Loading l) u' found known t =
    let rest = known.0 in let led = known.1 in
    record {
      state = led.state;
      history = led.history;
      each = λ k v closing.
          let same : led.state.shelves ≡ l.shelves = led.each led.state led.history.run in
          let here : slice_get l.shelves k ≡ Some (Shelf.Closing v) = ap (λ (xs : List Shelf). slice_get xs k) (sym same) ∙ closing in
          let within = slice_get_within l.shelves k _ here in let eight = rest.small.1 in
          let long : length l.shelves ≡ length shelves = ap (λ (xs : List Shelf). length xs) rest.shelves_are in
          was_reported found k ((all_found (View.Loading l) u' found t k (omega arith)).0 v here);
    }
each_closing current current_shelf shelves _ u' found known t = absurd known.0

pub unspent : (current current_shelf : ℕ) (shelves : List Shelf) (u : View) → Remembers current current_shelf shelves u → current < most_versions → IsUnspent u
unspent current current_shelf shelves (View.Loading l) known less = let e = known.0.current_is in omega arith
unspent current current_shelf shelves _ known less = absurd known.0

-- a shelf that is neither free nor open is closing
closing_else : {P : Type 0} (x : Shelf) → x ≢ Shelf.Free → ((v : ℕ) → x ≢ Shelf.Open v) → ((v : ℕ) → x ≡ Shelf.Closing v → P) → P
closing_else Shelf.Free a b f = absurd (a refl)
closing_else (Shelf.Open v) a b f = absurd (b v refl)
closing_else (Shelf.Closing v) a b f = f v refl

-- where none was free, and none is after all tries, workers are at all shelves but the current one
pub full_so : (current current_shelf : ℕ) (shelves : List Shelf) (u u' : View) (found : Collected)
    → Remembers current current_shelf shelves u → ¬ (HasFree u) → TriesBelow 8 u found.freed found.busy u'
    → ¬ (HasFree u') → AreFull u found.busy
full_so current current_shelf shelves (View.Loading l) u' found known none t none' =
    let rest = known.0 in let here = rest.current_shelf_is in let small = rest.small.0 in let eight = rest.small.1 in
    let at : (k : ℕ) → slice_get l.shelves k ≡ slice_get shelves k = λ k. ap (λ (xs : List Shelf). slice_get xs k) rest.shelves_are in (
      omega arith,
      (all_found (View.Loading l) u' found t l.current_shelf (omega arith)).1 current (at l.current_shelf ∙ (ap (λ n. slice_get shelves n) here ∙ rest.stands)),
      λ k less ne.
          let x = at_below shelves k (omega arith) in
          let is : (y : Shelf) → x.0 ≡ y → slice_get l.shelves k ≡ Some y = λ y e. at k ∙ (x.1 ∙ ap (λ (z : Shelf). Some z) e) in
          closing_else x.0 (λ e. none (k, is Shelf.Free e)) (λ v e. ne (rest.one_open k v (x.1 ∙ ap (λ (z : Shelf). Some z) e) ∙ sym here))
          (λ v e. elim ((all_found (View.Loading l) u' found t k less).0 v (is (Shelf.Closing v) e)) [
            | inl freed ↦ absurd (none' (k, freed_is_free (View.Loading l) found u' t k less freed))
            | inr busy ↦ busy
          ]),
    )
full_so current current_shelf shelves _ u' found known none t none' = absurd known.0

busy_but_one : (u : View) (counts : List ℕ) → AreFull u counts → AreBusyButOne counts
busy_but_one (View.Loading l) counts full = (l.current_shelf, full.0, full.1, full.2)
busy_but_one _ counts full = absurd full

-- what is noted of a refusal
pub refuses : (u u' : View) (fault : PublishFault) (before after : List LoaderAnswer) → RefusesBySteps u fault u'
    → after ≡ before ++ LoaderAnswer.PublishRefused fault ∷ [] → ShowsRefusal before fault after
refuses u u' PublishFault.VersionsSpent before after fact is = is
refuses u u' PublishFault.OutOfMemory before after fact is = is
refuses u u' (PublishFault.ShelvesFull counts) before after fact is = (busy_but_one u counts fact.4, is)
