-- What the loader's tries at shelves find, and that it does nothing else.
use Rattle.std.proofs.Common.{◌≡◌, ◌≢◌, ℕ, zero, suc, ◌<◌, ◌⊎◌, Bool, true, false, List, [], ◌∷◌, ◌++◌, length, get_or, Option, Some, None}
use Rattle.std.proofs.Common.{slice_get, refl, sym, ap, ◌∙◌, subst, arith, inl, inr, append_assoc, append-nil}
use mathlib.Core.Logic.{dite}
use native.Mathlib.Decide.{ℕ_discrete}
use Rattle.std.proofs.lemmas.Option.{get_or_from_slice_get, slice_get-get_or, slice_get_within}
use Rattle.reasoning.proofs.ListLemmas.{slice_get-set_same, slice_get-set_other}
use Rattle.version_core.specs.Actors.{NoneOf}
use Rattle.version_core.specs.declared.event.Event.{Event}
use Rattle.version_core.specs.declared.event.Reply.{Reply}
use Rattle.version_core.specs.declared.state.Shelf.{Shelf}
use Rattle.shelf_steps.specs.declared.views.KnownHistory.{KnownHistory}
use Rattle.shelf_steps.specs.declared.views.LoaderView.{LoaderView}
use Rattle.shelf_steps.specs.declared.views.View.{View}
use Rattle.shelf_steps.specs.EventHistory.{Happened}
use Rattle.shelf_steps.specs.Events.{known_of}
use Rattle.shelf_steps.specs.Loading.{FreesShelf, FindsShelfBusy}
use Rattle.shelf_steps.specs.Plays.{OfLoader}
use Rattle.shelves.specs.declared.collected.Collected.{Collected}
use Rattle.shelves.specs.SeatHistory.{Grows, FindsByTries, AreTries, IsReported, OnlyTries}
use Rattle.shelves.specs.ShelfLoads.{TriedShelf, TriesBelow, shelf_of}
use Rattle.shelves.proofs.GrowthLemmas.{grows_same, growths_join, happened_grows}

-- what holds of any two views of the loader holds of two views of which this is said
pub of_loaders : (P : LoaderView → LoaderView → Type 0) (Q : View → View → Type 0) (u u' : View)
    → ((a b : LoaderView) → P a b → Q (View.Loading a) (View.Loading b)) → OfLoader u (λ a. OfLoader u' (λ b. P a b)) → Q u u'
of_loaders P Q (View.Loading a) (View.Loading b) each h = each a b h
of_loaders P Q (View.Loading a) _ each h = absurd h
of_loaders P Q _ u' each h = absurd h

-- a reported value is no default
pub was_there : {X : Type 0} (xs : List X) (k : ℕ) (d : X) → get_or xs k d ≢ d → slice_get xs k ≡ Some (get_or xs k d)
was_there [] k d other = absurd (other refl)
was_there (x ∷ xs) zero d other = refl
was_there (x ∷ xs) (suc k) d other = was_there xs k d other

-- the shelf was freed, or found in use
abbrev pub WasFound : List Bool → List ℕ → ℕ → Type 0
WasFound freed busy k = (get_or freed k false ≡ true) ⊎ (0 < get_or busy k 0)

pub was_reported : (found : Collected) (k : ℕ) → WasFound found.freed found.busy k → IsReported found k
was_reported found k h = elim h [
  | inl a ↦ inl (was_there found.freed k false (λ e. let z : true ≡ false = sym a ∙ e in cc) ∙ ap (λ (x : Bool). Some x) a)
  | inr b ↦ inr (get_or found.busy k 0, b, was_there found.busy k 0 (λ e. let z = e in omega arith))
]

-- the loader's events in two parts
tries_append : (P : ℕ → Type 0) (first second : List Event) → AreTries P first → AreTries P second → AreTries P (first ++ second)
tries_append P [] second a b = b
tries_append P (e ∷ es) second a b = (a.0, tries_append P es second a.1 b)

others_try : (P : ℕ → Type 0) (es : List Event) → NoneOf None es → AreTries P es
others_try P [] none = tt
others_try P (e ∷ es) none = (inl none.0, others_try P es none.1)

pub only_join : (P : ℕ → Type 0) (first second third : KnownHistory) → OnlyTries P first second → OnlyTries P second third → OnlyTries P first third
only_join P first second third a b = (
  a.0 ++ b.0,
  b.1 ∙ (ap (λ (l : List Event). l ++ b.0) a.1 ∙ append_assoc first.events a.0 b.0),
  tries_append P a.0 b.0 a.2 b.2,
)

pub one_try : (P : ℕ → Type 0) (k : ℕ) (before : KnownHistory) (reply : Reply) (after : KnownHistory) → P k
    → Happened before (Event.Collect k) reply after → OnlyTries P before after
one_try P k before reply after is h =
    let rest = h.events.0 in (
      rest ++ Event.Collect k ∷ [],
      h.events.1 ∙ append_assoc before.events rest (Event.Collect k ∷ []),
      tries_append P rest (Event.Collect k ∷ []) (others_try P rest h.events.2) ((inr (k, refl, is), tt)),
    )

-- the loader did nothing but tries at shelves of which P holds; the others are as they were
pub record Tries (P : ℕ → Type 0) (u u' : View) : Type 0 where
  pub grows : Grows (known_of u) (known_of u')
  pub only : OnlyTries P (known_of u) (known_of u')
  pub images : (known_of u').images ≡ (known_of u).images
  pub others : (j : ℕ) → ¬ (P j) → shelf_of u' j ≡ shelf_of u j

pub no_tries : (P : ℕ → Type 0) (u u' : View) → u' ≡ u → Tries P u u'
no_tries P u u' is = subst (λ v. Tries P u v) (sym is)
    (record { grows = grows_same (known_of u); only = ([], sym (append-nil (known_of u).events), tt); images = refl; others = λ j not. refl })

tries_join : (P : ℕ → Type 0) (u v w : View) → Tries P u v → Tries P v w → Tries P u w
tries_join P u v w a b = record {
  grows = growths_join (known_of u) (known_of v) (known_of w) a.grows b.grows;
  only = only_join P (known_of u) (known_of v) (known_of w) a.only b.only;
  images = b.images ∙ a.images;
  others = λ j not. b.others j not ∙ a.others j not;
}

-- one try at a shelf
tried : (P : ℕ → Type 0) (k : ℕ) (s : Option Shelf) (u : View) (f : Bool) (b : ℕ) (u' : View)
    → ((f ≡ true) ⊎ (0 < b) → P k) → TriedShelf k s u (f, b) u' → Tries P u u'
tried P k (Some (Shelf.Closing v)) u true b u' at t = of_loaders (λ x y. FreesShelf x k y) (λ x y. Tries P x y) u u' (λ x y h. record {
  grows = growths_join x.known h.freed y.known (happened_grows x.known h.freed _ _ h.collect) (happened_grows h.freed y.known _ _ h.put_back);
  only = only_join P x.known h.freed y.known (one_try P k x.known Reply.Freed h.freed (at (inl refl)) h.collect)
      (one_try P k h.freed Reply.NotNow y.known (at (inl refl)) h.put_back);
  images = h.images;
  others = λ j not. ap (λ (xs : List Shelf). slice_get xs j) h.shelves
      ∙ slice_get-set_other x.shelves k j Shelf.Free (λ e. not (subst P (sym e) (at (inl refl))));
}) t.1
tried P k (Some (Shelf.Closing v)) u false b u' at t = of_loaders (λ x y. FindsShelfBusy x k b y) (λ x y. Tries P x y) u u' (λ x y h. record {
  grows = happened_grows x.known y.known _ _ h.collect;
  only = one_try P k x.known (Reply.Busy b) y.known (at (inr h.some_one)) h.collect;
  images = h.images;
  others = λ j not. ap (λ (xs : List Shelf). slice_get xs j) h.shelves;
}) t
tried P k _ u f b u' at t = no_tries P u u' t.2

pub tries_below : (P : ℕ → Type 0) (n : ℕ) (u : View) (freed : List Bool) (busy : List ℕ) (u' : View)
    → ((k : ℕ) → k < n → WasFound freed busy k → P k) → TriesBelow n u freed busy u' → Tries P u u'
tries_below P zero u freed busy u' at t = no_tries P u u' t
tries_below P (suc n) u freed busy u' at t =
    tries_join P u t.0 u' (tries_below P n u freed busy t.0 (λ k less. at k (omega arith)) t.1)
    (tried P n (shelf_of t.0 n) t.0 (get_or freed n false) (get_or busy n 0) u' (at n (omega arith)) t.2)

-- among tries at other shelves, the try at this one
pub record TriedOnce (k : ℕ) (u : View) (f : Bool) (b : ℕ) (u' : View) : Type 0 where
  pub first : View
  pub last : View
  pub before : Tries (λ j. j ≢ k) u first
  pub here : TriedShelf k (shelf_of first k) first (f, b) last
  pub after : Tries (λ j. j ≢ k) last u'

pub tried_once : (n : ℕ) (u : View) (freed : List Bool) (busy : List ℕ) (u' : View) → TriesBelow n u freed busy u' → (k : ℕ) → k < n
    → TriedOnce k u (get_or freed k false) (get_or busy k 0) u'
tried_once zero u freed busy u' t k less = absurd (omega arith)
tried_once (suc n) u freed busy u' t k less = dite (ℕ_discrete k n)
    (λ e. subst (λ m. TriedOnce m u (get_or freed m false) (get_or busy m 0) u') (sym e) (record {
      first = t.0;
      last = u';
      before = tries_below (λ j. j ≢ n) n u freed busy t.0 (λ j low was same. omega arith) t.1;
      here = t.2;
      after = no_tries (λ j. j ≢ n) u' u' refl;
    }))
    (λ ne. let once = tried_once n u freed busy t.0 t.1 k (omega arith) in
    record {
      first = once.first;
      last = once.last;
      before = once.before;
      here = once.here;
      after = tries_join (λ j. j ≢ k) once.last t.0 u' once.after
          (tried (λ j. j ≢ k) n (shelf_of t.0 n) t.0 (get_or freed n false) (get_or busy n 0) u' (λ was e. ne (sym e)) t.2);
    })

-- where workers were found, the try counted them
busy_try : (k : ℕ) (s : Option Shelf) (u : View) (f : Bool) (b : ℕ) (u' : View) → 0 < b → TriedShelf k s u (f, b) u'
    → Happened (known_of u) (Event.Collect k) (Reply.Busy b) (known_of u')
busy_try k (Some (Shelf.Closing v)) u true b u' some t = absurd (let z = t.0 in omega arith)
busy_try k (Some (Shelf.Closing v)) u false b u' some t = of_loaders (λ x y. FindsShelfBusy x k b y)
    (λ x y. Happened (known_of x) (Event.Collect k) (Reply.Busy b) (known_of y)) u u' (λ x y h. h.collect) t
busy_try k _ u f b u' some t = absurd (let z = t.1 in omega arith)

-- where the shelf was freed, the try freed it, with nobody there
record FreesOnce (k : ℕ) (u : View) (b : ℕ) (u' : View) : Type 0 where
  pub freed : KnownHistory
  pub collect : Happened (known_of u) (Event.Collect k) Reply.Freed freed
  pub grows : Grows freed (known_of u')
  pub free : shelf_of u' k ≡ Some Shelf.Free
  pub empty : b ≡ 0

free_try : (k : ℕ) (s : Option Shelf) (u : View) (f : Bool) (b : ℕ) (u' : View) → f ≡ true → shelf_of u k ≡ s → TriedShelf k s u (f, b) u' → FreesOnce k u b u'
free_try k (Some (Shelf.Closing v)) u true b u' is at t = of_loaders (λ x y. FreesShelf x k y)
    (λ x y. shelf_of x k ≡ Some (Shelf.Closing v) → FreesOnce k x b y) u u' (λ x y h closing. record {
      freed = h.freed;
      collect = h.collect;
      grows = happened_grows h.freed y.known _ _ h.put_back;
      free = ap (λ (xs : List Shelf). slice_get xs k) h.shelves ∙ slice_get-set_same x.shelves k Shelf.Free (slice_get_within x.shelves k _ closing);
      empty = t.0;
    }) t.1 at
free_try k (Some (Shelf.Closing v)) u false b u' is at t = absurd (cc)
free_try k _ u f b u' is at t = absurd (let z = t.0 in cc)

-- a shelf that is reported as freed is free
pub freed_is_free : (u : View) (found : Collected) (u' : View) → TriesBelow 8 u found.freed found.busy u' → (k : ℕ) → k < 8
    → get_or found.freed k false ≡ true → shelf_of u' k ≡ Some Shelf.Free
freed_is_free u found u' t k less is =
    let once = tried_once 8 u found.freed found.busy u' t k less in
    once.after.others k (λ ne. ne refl)
    ∙ (free_try k _ once.first _ _ once.last is refl once.here).free

-- and was found with nobody there
pub freed_is_empty : (u : View) (found : Collected) (u' : View) → length found.busy ≡ 8 → TriesBelow 8 u found.freed found.busy u' → (k : ℕ) → k < 8
    → slice_get found.freed k ≡ Some true → slice_get found.busy k ≡ Some 0
freed_is_empty u found u' eight t k less is =
    let once = tried_once 8 u found.freed found.busy u' t k less in
    slice_get-get_or found.busy k 0 (omega arith)
    ∙ ap (λ n. Some n) (free_try k _ once.first _ _ once.last (get_or_from_slice_get found.freed k true false is) refl once.here).empty

pub tries_find : (u u' : View) (found : Collected) → TriesBelow 8 u found.freed found.busy u' → FindsByTries (known_of u) found (known_of u')
tries_find u u' found t =
    let all = tries_below (IsReported found) 8 u found.freed found.busy u' (λ k less was. was_reported found k was) t in record {
      freed = λ k less is.
          let once = tried_once 8 u found.freed found.busy u' t k less in
          let free = free_try k _ once.first _ _ once.last (get_or_from_slice_get found.freed k true false is) refl once.here in (
            known_of once.first,
            free.freed,
            once.before.grows,
            once.before.only,
            free.collect,
            growths_join free.freed (known_of once.last) (known_of u') free.grows once.after.grows,
          );
      busy = λ k count less some is.
          let once = counted k count less is in
          (known_of once.first, known_of once.last, once.before.grows, busy_try k _ once.first _ count once.last some once.here, once.after.grows);
      once = λ k count less some is.
          let once = counted k count less is in
          (known_of once.first, known_of once.last, once.before.only, busy_try k _ once.first _ count once.last some once.here, once.after.only);
      only = all.only;
      images = all.images;
    }
  where
    counted : (k count : ℕ) → k < 8 → slice_get found.busy k ≡ Some count → TriedOnce k u (get_or found.freed k false) count u'
    counted k count less is = subst (λ n. TriedOnce k u (get_or found.freed k false) n u') (get_or_from_slice_get found.busy k count 0 is)
        (tried_once 8 u found.freed found.busy u' t k less)
