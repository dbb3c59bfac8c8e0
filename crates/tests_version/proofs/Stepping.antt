-- What steps leave to be remembered.
use Rattle.std.proofs.Common.{get_or, ◌≡◌, ℕ, zero, suc, ◌+◌, ◌*◌, ◌/◌, ◌%◌, ◌<◌, ◌≤◌, Bool, true, false, List, [], ◌∷◌}
use Rattle.std.proofs.Common.{length, set, Option, Some, slice_get, refl, ap, sym, ◌∙◌, subst, arith, length-set}
use Rattle.std.proofs.Common.{length-append}
use Rattle.std.proofs.Common.{inl, inr}
use mathlib.Core.Logic.{dite}
use native.Mathlib.Decide.{ℕ_discrete}
use Rattle.std.specs.Option.{option_and_then}
use Rattle.std.proofs.lemmas.Option.{slice_get_within}
use Rattle.reasoning.proofs.ListLemmas.{slice_get-set_same, slice_get-set_other}
use Rattle.image_layout.specs.Image.{ImageValue}
use Rattle.version_core.specs.State.{most_versions}
use Rattle.version_core.specs.declared.state.Shelf.{Shelf}
use Rattle.version_core.specs.declared.state.Worker.{Worker}
use Rattle.version_core.specs.Invariants.{version_on, version_of}
use Rattle.shelf_steps.specs.declared.edition.Edition.{Edition}
use Rattle.shelf_steps.specs.declared.views.WorkerView.{WorkerView}
use Rattle.shelf_steps.specs.declared.views.View.{View}
use Rattle.shelf_steps.specs.Slots.{down_from}
use Rattle.shelf_steps.specs.Loading.{Frees, FindsBusy}
use Rattle.shelf_steps.specs.Plays.{OfLoader, SeatAndSlots, Looks, Takes, TakesFound, Leaves, GivesBack, ShowsIdle, ShowsLooked}
use Rattle.shelf_steps.specs.Plays.{ShowsLate, HoldsOut, is_open, with_hand, AllHave, OpensOn, PublishesOn, ClosesOn}
use Rattle.shelf_steps.specs.Plays.{GathersOn, MayOpenOn, MayPublish, MayCloseShelf, MayCollect, MayGather}
use Rattle.shelf_steps.specs.Plays.{ShowsSettled, IsNotice, IsLoading, joins_notice, gives_notice, new_notice}
use Rattle.tests_version.specs.Stepping.{DoesSo, Remembers, RemembersSo}

of_idle : (u : View) (c : List (ℕ × Option Edition)) → DoesSo Worker.Idle (u, c) → ShowsIdle u
of_idle (View.Loading l) c h = absurd h
of_idle (View.Noting x') c h = absurd h
of_idle View.Spent c h = absurd h
of_idle (View.Working v) c h = h.0

pub idle_now : (m : SeatAndSlots) → DoesSo Worker.Idle m → ShowsIdle m.0
idle_now m h = of_idle m.0 m.1 h

of_looked : (version k : ℕ) (u : View) (c : List (ℕ × Option Edition)) → DoesSo (Worker.Looked version k) (u, c) → (k < 8) × ShowsLooked k u
of_looked version k (View.Loading l) c h = absurd h
of_looked version k (View.Noting x') c h = absurd h
of_looked version k View.Spent c h = absurd h
of_looked version k (View.Working v) c h = (h.1.0, (version, h.0))

pub looked_now : (version k : ℕ) (m : SeatAndSlots) → DoesSo (Worker.Looked version k) m → (k < 8) × ShowsLooked k m.0
looked_now version k m h = of_looked version k m.0 m.1 h

of_late : (k : ℕ) (u : View) (c : List (ℕ × Option Edition)) → DoesSo (Worker.Late k) (u, c) → (k < 8) × ShowsLate k u
of_late k (View.Loading l) c h = absurd h
of_late k (View.Noting x') c h = absurd h
of_late k View.Spent c h = absurd h
of_late k (View.Working v) c h = (h.1.0, h.0)

pub late_now : (k : ℕ) (m : SeatAndSlots) → DoesSo (Worker.Late k) m → (k < 8) × ShowsLate k m.0
late_now k m h = of_late k m.0 m.1 h

of_holding : (k version : ℕ) (u : View) (c : List (ℕ × Option Edition)) → DoesSo (Worker.Holding k version) (u, c) → (k < 8) × HoldsOut k u c
of_holding k version (View.Loading l) c h = absurd h
of_holding k version (View.Noting x') c h = absurd h
of_holding k version View.Spent c h = absurd h
of_holding k version (View.Working v) c h = (h.1.0, (version, h.0, h.1.1))

pub holding_now : (k version : ℕ) (m : SeatAndSlots) → DoesSo (Worker.Holding k version) m → (k < 8) × HoldsOut k m.0 m.1
holding_now k version m h = of_holding k version m.0 m.1 h

after_look : (u : View) (c : List (ℕ × Option Edition)) (n : ℕ) (m' : SeatAndSlots) → DoesSo Worker.Idle (u, c)
    → Looks (u, c) n m' → DoesSo (Worker.Looked (n / 8) (n % 8)) m'
after_look (View.Loading l) c n m' h look = absurd h
after_look (View.Noting x') c n m' h look = absurd h
after_look View.Spent c n m' h look = absurd h
after_look (View.Working v) c n m' h look = subst (λ (m : SeatAndSlots). DoesSo (Worker.Looked (n / 8) (n % 8)) m) (sym look.1) (refl, (omega arith, h.1))

pub looked_so : (m m' : SeatAndSlots) (n : ℕ) → DoesSo Worker.Idle m → Looks m n m' → DoesSo (Worker.Looked (n / 8) (n % 8)) m'
looked_so m m' n h look = after_look m.0 m.1 n m' h look

abbrev taken : ℕ → ℕ → Bool → Worker
taken version k true = Worker.Holding k version
taken version k false = Worker.Late k

found_so : (v : WorkerView) (c : List (ℕ × Option Edition)) (version k n : ℕ) (b : Bool) (m' : SeatAndSlots) → k < 8 → c ≡ []
    → TakesFound (v, c) (version, k) n b m' → DoesSo (taken version k b) m'
found_so v c version k n true m' small empty t =
    subst (λ (m : SeatAndSlots). DoesSo (Worker.Holding k version) m) (sym t.2) (
      refl,
      (small, ap (λ (l : List (ℕ × Option Edition)). (16 * k + v.number, Some t.0) ∷ l) empty),
    )
found_so v c version k n false m' small empty t = subst (λ (m : SeatAndSlots). DoesSo (Worker.Late k) m) (sym t.1) (refl, (small, empty))

after_take : (u : View) (c : List (ℕ × Option Edition)) (version k n : ℕ) (b : Bool) (m' : SeatAndSlots)
    → DoesSo (Worker.Looked version k) (u, c) → Takes (u, c) n m' → is_open n version ≡ b
    → DoesSo (taken version k b) m'
after_take (View.Loading l) c version k n b m' h take is = absurd h
after_take (View.Noting x') c version k n b m' h take is = absurd h
after_take View.Spent c version k n b m' h take is = absurd h
after_take (View.Working v) c version k n b m' h take is =
    let t : TakesFound (v, c) (version, k) n (is_open n version) m' = subst (λ (w : Worker). Rattle.shelf_steps.specs.Plays.TakesAs v c w n m') h.0 take in
    found_so v c version k n b m' h.1.0 h.1.1 (subst (λ x. TakesFound (v, c) (version, k) n x m') is t)

pub held_so : (m m' : SeatAndSlots) (version k n : ℕ) → DoesSo (Worker.Looked version k) m → Takes m n m'
    → is_open n version ≡ true → DoesSo (Worker.Holding k version) m'
held_so m m' version k n h take is = after_take m.0 m.1 version k n true m' h take is

pub late_so : (m m' : SeatAndSlots) (version k n : ℕ) → DoesSo (Worker.Looked version k) m → Takes m n m' → is_open n version ≡ false
    → DoesSo (Worker.Late k) m'
late_so m m' version k n h take is = after_take m.0 m.1 version k n false m' h take is

after_leave : (k : ℕ) (u : View) (c : List (ℕ × Option Edition)) (m' : SeatAndSlots) → DoesSo (Worker.Late k) (u, c) → Leaves (u, c) m' → DoesSo Worker.Idle m'
after_leave k (View.Loading l) c m' h leave = absurd h
after_leave k (View.Noting x') c m' h leave = absurd h
after_leave k View.Spent c m' h leave = absurd h
after_leave k (View.Working v) c m' h leave = subst (λ (m : SeatAndSlots). DoesSo Worker.Idle m) (sym leave.1) (refl, h.1.1)

pub left_so : (k : ℕ) (m m' : SeatAndSlots) → DoesSo (Worker.Late k) m → Leaves m m' → DoesSo Worker.Idle m'
left_so k m m' h leave = after_leave k m.0 m.1 m' h leave

after_give : (u : View) (c : List (ℕ × Option Edition)) (m' : SeatAndSlots) → GivesBack (u, c) m' → DoesSo Worker.Idle m'
after_give (View.Loading l) c m' give = absurd give
after_give (View.Noting x') c m' give = absurd give
after_give View.Spent c m' give = absurd give
after_give (View.Working v) c m' give = subst (λ (m : SeatAndSlots). DoesSo Worker.Idle m) (sym give.1) (refl, refl)

pub given_so : (m m' : SeatAndSlots) → GivesBack m m' → DoesSo Worker.Idle m'
given_so m m' give = after_give m.0 m.1 m' give

-- the versions of the shelves after one of them became another
known_after : (shelves : List Shelf) (k : ℕ) (x : Shelf) (top top' : ℕ) → k < length shelves → top ≤ top'
    → ((j v : ℕ) → version_on shelves j ≡ Some v → v ≤ top) → ((v : ℕ) → version_of x ≡ Some v → v ≤ top')
    → (j v : ℕ) → version_on (set shelves k x) j ≡ Some v → v ≤ top'
known_after shelves k x top top' within up known new j v is = dite (ℕ_discrete j k)
    (λ e. new v (sym (ap (λ (s : Option Shelf). option_and_then version_of s) (ap (λ n. slice_get (set shelves k x) n) e
    ∙ slice_get-set_same shelves k x within)) ∙ is))
    (λ ne. let z = known j v (sym (ap (λ (s : Option Shelf). option_and_then version_of s) (slice_get-set_other shelves k j x ne)) ∙ is) in omega arith)

filled_of : (k current newest : ℕ) (shelves : List Shelf) (image : ImageValue) (f : ℕ
    → Option Edition) (u : View) (c : List (ℕ × Option Edition)) (m1 m2 : SeatAndSlots)
    → RemembersSo current newest shelves (u, c) → slice_get shelves k ≡ Some Shelf.Free
    → current ≡ newest → newest < most_versions → AllHave (newest + 1) image k f → GathersOn k (u, c) m1
    → m2 ≡ (m1.0, down_from f (16 * k) 16 []) → MayOpenOn k (newest + 1) m2.0 m2.1
filled_of k current newest shelves image f (View.Working v) c m1 m2 h free same left all g filled = absurd h.0
filled_of k current newest shelves image f (View.Noting x') c m1 m2 h free same left all g filled = absurd h.0
filled_of k current newest shelves image f View.Spent c m1 m2 h free same left all g filled = absurd h.0
filled_of k current newest shelves image f (View.Loading l) c m1 m2 h free same left all g filled =
    let r = h.0 in
    let top : length g.0.images ≡ newest = ap (λ (x : List ImageValue). length x) g.2.1 ∙ r.newest_is in
    subst (λ (m : SeatAndSlots). MayOpenOn k (newest + 1) m.0 m.1) (sym (filled ∙ ap (λ (m : SeatAndSlots). (m.0, down_from f (16 * k) 16 [])) g.1)) (
      ap (λ (s : List Shelf). slice_get s k) r.shelves_are ∙ free,
      refl,
      r.current_is ∙ (same ∙ sym top),
      ap (λ n. n + 1) (sym top),
      omega arith,
      (image, f, refl, all),
    )

pub may_open_so : (k current newest : ℕ) (shelves : List Shelf) (image : ImageValue) (f : ℕ
    → Option Edition) (m m1 m2 : SeatAndSlots) → RemembersSo current newest shelves m → slice_get shelves k ≡ Some Shelf.Free
    → current ≡ newest → newest < most_versions → AllHave (newest + 1) image k f → GathersOn k m m1
    → m2 ≡ (m1.0, down_from f (16 * k) 16 []) → MayOpenOn k (newest + 1) m2.0 m2.1
may_open_so k current newest shelves image f m m1 m2 h free same left all g filled =
    filled_of k current newest shelves image f m.0 m.1 m1 m2 h free same left all g filled

open_of : (k current newest : ℕ) (shelves : List Shelf) (f : ℕ
    → Option Edition) (u : View) (c : List (ℕ × Option Edition)) (m1 m2 m3 : SeatAndSlots)
    → RemembersSo current newest shelves (u, c) → k < 8 → newest < most_versions
    → GathersOn k (u, c) m1 → m2 ≡ (m1.0, down_from f (16 * k) 16 []) → OpensOn k m2 m3
    → RemembersSo current (newest + 1) (set shelves k (Shelf.Open (newest + 1))) m3
open_of k current newest shelves f (View.Working v) c m1 m2 m3 h small left g filled o = absurd h.0
open_of k current newest shelves f (View.Noting x') c m1 m2 m3 h small left g filled o = absurd h.0
open_of k current newest shelves f View.Spent c m1 m2 m3 h small left g filled o = absurd h.0
open_of k current newest shelves f (View.Loading l) c m1 m2 m3 h small left g filled o =
    let r = h.0 in let eight = r.eight in
    let top : length g.0.images ≡ newest = ap (λ (x : List ImageValue). length x) g.2.1 ∙ r.newest_is in
    let o' : OpensOn k (View.Loading (with_hand l (Some k) g.0), down_from f (16 * k) 16 []) m3 =
    subst (λ (m : SeatAndSlots). OpensOn k m m3) (filled ∙ ap (λ (m : SeatAndSlots). (m.0, down_from f (16 * k) 16 [])) g.1) o in
    let added = length-append g.0.images (o'.0 ∷ []) in
    subst (λ (m : SeatAndSlots). RemembersSo current (newest + 1) (set shelves k (Shelf.Open (newest + 1))) m) (sym o'.5) (
      record {
        empty = refl;
        current_is = r.current_is;
        newest_is = ap (λ (x : List ImageValue). length x) o'.7 ∙ (added ∙ ap (λ n. n + 1) top);
        shelves_are = λ i. set (r.shelves_are i) k (Shelf.Open (top i + 1));
        eight = length-set shelves k (Shelf.Open (newest + 1)) ∙ eight;
        small = omega arith;
        known = known_after shelves k (Shelf.Open (newest + 1)) newest (newest + 1) (omega arith) (omega arith) r.known
            (λ v e. let z : newest + 1 ≡ v = cc in omega arith);
      },
      refl,
    )

pub opened_so : (k current newest : ℕ) (shelves : List Shelf) (f : ℕ → Option Edition) (m m1 m2 m3 : SeatAndSlots)
    → RemembersSo current newest shelves m → k < 8 → newest < most_versions
    → GathersOn k m m1 → m2 ≡ (m1.0, down_from f (16 * k) 16 []) → OpensOn k m2 m3
    → RemembersSo current (newest + 1) (set shelves k (Shelf.Open (newest + 1))) m3
opened_so k current newest shelves f m m1 m2 m3 h small left g filled o = open_of k current newest shelves f m.0 m.1 m1 m2 m3 h small left g filled o

publish_of : (k version current newest : ℕ) (shelves : List Shelf) (u : View) (c : List (ℕ × Option Edition))
    → RemembersSo current newest shelves (u, c) → slice_get shelves k ≡ Some (Shelf.Open version) → current < version
    → (version ≤ most_versions) × MayPublish version k u × ((m' : SeatAndSlots) → PublishesOn version k (u, c) m' → RemembersSo version newest shelves m')
publish_of k version current newest shelves (View.Working v) c h is later = absurd h.0
publish_of k version current newest shelves (View.Noting x') c h is later = absurd h.0
publish_of k version current newest shelves View.Spent c h is later = absurd h.0
publish_of k version current newest shelves (View.Loading l) c h is later =
    let r = h.0 in let a = r.known k version (ap (λ (s : Option Shelf). option_and_then version_of s) is) in let b = r.small in (
      omega arith,
      (ap (λ (s : List Shelf). slice_get s k) r.shelves_are ∙ is, subst (λ n. n < version) (sym r.current_is) later),
      λ m' p. subst (λ (m : SeatAndSlots). RemembersSo version newest shelves m) (sym p.1) (
        record {
          empty = r.empty;
          current_is = refl;
          newest_is =
              ap (λ (x : List ImageValue). length x) p.2.1 ∙ r.newest_is;
          shelves_are = r.shelves_are;
          eight =
              r.eight;
          small = r.small;
          known = r.known;
        },
        h.1,
      ),
    )

pub published_so : (k version current newest : ℕ) (shelves : List Shelf) (m : SeatAndSlots)
    → RemembersSo current newest shelves m → slice_get shelves k ≡ Some (Shelf.Open version) → current < version
    → (version ≤ most_versions) × MayPublish version k m.0 × ((m' : SeatAndSlots) → PublishesOn version k m m' → RemembersSo version newest shelves m')
published_so k version current newest shelves m h is later = publish_of k version current newest shelves m.0 m.1 h is later

close_of : (k version current newest : ℕ) (shelves : List Shelf) (u : View) (c : List (ℕ × Option Edition))
    → RemembersSo current newest shelves (u, c) → slice_get shelves k ≡ Some (Shelf.Open version) → version < current
    → MayCloseShelf k u × ((m' : SeatAndSlots) → ClosesOn k (u, c) m' → RemembersSo current newest (set shelves k (Shelf.Closing version)) m')
close_of k version current newest shelves (View.Working v) c h is older = absurd h.0
close_of k version current newest shelves (View.Noting x') c h is older = absurd h.0
close_of k version current newest shelves View.Spent c h is older = absurd h.0
close_of k version current newest shelves (View.Loading l) c h is older =
    let r = h.0 in let here : slice_get l.shelves k ≡ Some (Shelf.Open version) = ap (λ (s : List Shelf). slice_get s k) r.shelves_are ∙ is in
    let within = slice_get_within shelves k (Shelf.Open version) is in (
      (version, here, subst (λ n. version < n) (sym r.current_is) older),
      λ m' p.
          let z : Some (Shelf.Open p.0) ≡ Some (Shelf.Open version) = sym p.2 ∙ here in let same : p.0 ≡ version = cc in
          subst (λ (m : SeatAndSlots). RemembersSo current newest (set shelves k (Shelf.Closing version)) m) (sym p.3) (
            record {
              empty = r.empty;
              current_is = r.current_is;
              newest_is = ap (λ (x : List ImageValue). length x) p.4.1 ∙ r.newest_is;
              shelves_are = λ i. set (r.shelves_are i) k (Shelf.Closing (same i));
              eight = length-set shelves k (Shelf.Closing version) ∙ r.eight;
              small = r.small;
              known = known_after shelves k (Shelf.Closing version) newest newest within (omega arith) r.known
                  (λ v e. let same' : version ≡ v = cc in
                  subst (λ n. n ≤ newest) same' (r.known k version
                  (ap (λ (s : Option Shelf). option_and_then version_of s) is)));
            },
            h.1,
          ),
    )

pub closed_so : (k version current newest : ℕ) (shelves : List Shelf) (m : SeatAndSlots) → RemembersSo current newest shelves m
    → slice_get shelves k ≡ Some (Shelf.Open version) → version < current
    → MayCloseShelf k m.0 × ((m' : SeatAndSlots) → ClosesOn k m m' → RemembersSo current newest (set shelves k (Shelf.Closing version)) m')
closed_so k version current newest shelves m h is older = close_of k version current newest shelves m.0 m.1 h is older

collect_of : (k version current newest : ℕ) (shelves : List Shelf) (u : View) (c : List (ℕ × Option Edition))
    → RemembersSo current newest shelves (u, c) → slice_get shelves k ≡ Some (Shelf.Closing version)
    → (version ≤ most_versions) × MayCollect k version u c
collect_of k version current newest shelves (View.Working v) c h is = absurd h.0
collect_of k version current newest shelves (View.Noting x') c h is = absurd h.0
collect_of k version current newest shelves View.Spent c h is = absurd h.0
collect_of k version current newest shelves (View.Loading l) c h is =
    let r = h.0 in let a = r.known k version (ap (λ (s : Option Shelf). option_and_then version_of s) is) in let b = r.small in
    ((omega arith), (ap (λ (s : List Shelf). slice_get s k) r.shelves_are ∙ is, r.empty, h.1))

pub may_collect_so : (k version current newest : ℕ) (shelves : List Shelf) (m : SeatAndSlots)
    → RemembersSo current newest shelves m → slice_get shelves k ≡ Some (Shelf.Closing version)
    → (version ≤ most_versions) × MayCollect k version m.0 m.1
may_collect_so k version current newest shelves m h is = collect_of k version current newest shelves m.0 m.1 h is

pub freed_so : (k current newest : ℕ) (shelves : List Shelf) (u u' : View) (x : Shelf)
    → OfLoader u (λ l. Remembers current newest shelves l) → slice_get shelves k ≡ Some x → Frees k u u'
    → OfLoader u' (λ l. Remembers current newest (set shelves k Shelf.Free) l)
freed_so k current newest shelves (View.Working v) u' x h is f = absurd h
freed_so k current newest shelves (View.Noting x') u' x h is f = absurd h
freed_so k current newest shelves View.Spent u' x h is f = absurd h
freed_so k current newest shelves (View.Loading a) (View.Working v) x h is f = absurd f
freed_so k current newest shelves (View.Loading a) (View.Noting x') x h is f = absurd f
freed_so k current newest shelves (View.Loading a) View.Spent x h is f = absurd f
freed_so k current newest shelves (View.Loading a) (View.Loading b) x h is f = record {
  empty = f.hand;
  current_is = f.current.0 ∙ h.current_is;
  newest_is = ap (λ (x : List ImageValue). length x) f.images ∙ h.newest_is;
  shelves_are = f.shelves ∙ ap (λ (s : List Shelf). set s k Shelf.Free) h.shelves_are;
  eight = length-set shelves k Shelf.Free ∙ h.eight;
  small = h.small;
  known = known_after shelves k Shelf.Free newest newest (slice_get_within shelves k x is) (omega arith) h.known (λ v e. absurd (cc));
}

-- what stands at an index
pub got_at : (xs : List Shelf) (k : ℕ) (d x : Shelf) → length xs ≡ 8 → k < 8 → get_or xs k d ≡ x → slice_get xs k ≡ Some x
got_at xs k d x eight small is = there xs k (omega arith) is
  where
    there : (l : List Shelf) (n : ℕ) → n < length l → get_or l n d ≡ x → slice_get l n ≡ Some x
    there [] n less e = absurd (omega arith)
    there (y ∷ ys) zero less e = ap (λ (z : Shelf). Some z) e
    there (y ∷ ys) (suc n) less e = there ys n (omega arith) e

-- a worker that is idle or holds a version may take in a notice, and does what it did
idle_of : (u : View) (c : List (ℕ × Option Edition)) → DoesSo Worker.Idle (u, c) → ShowsSettled u
idle_of (View.Working v) c h = inl h.0
idle_of (View.Loading l) c h = absurd h
idle_of (View.Noting x') c h = absurd h
idle_of View.Spent c h = absurd h

pub idle_settled : (m : SeatAndSlots) → DoesSo Worker.Idle m → ShowsSettled m.0
idle_settled m h = idle_of m.0 m.1 h

held_of : (k version : ℕ) (u : View) (c : List (ℕ × Option Edition)) → DoesSo (Worker.Holding k version) (u, c) → ShowsSettled u
held_of k version (View.Working v) c h = inr (k, version, h.0)
held_of k version (View.Loading l) c h = absurd h
held_of k version (View.Noting x') c h = absurd h
held_of k version View.Spent c h = absurd h

pub holding_settled : (k version : ℕ) (m : SeatAndSlots) → DoesSo (Worker.Holding k version) m → ShowsSettled m.0
holding_settled k version m h = held_of k version m.0 m.1 h

join_idle : (n : ℕ) (u : View) (c : List (ℕ × Option Edition)) → DoesSo Worker.Idle (u, c) → DoesSo Worker.Idle (joins_notice u (View.Noting n), c)
join_idle n (View.Working v) c h = h
join_idle n (View.Loading l) c h = absurd h
join_idle n (View.Noting x') c h = absurd h
join_idle n View.Spent c h = absurd h

pub idle_joined : (n : ℕ) (m notice m' : SeatAndSlots) → DoesSo Worker.Idle m → IsNotice n notice → m' ≡ (joins_notice m.0 notice.0, m.1)
    → DoesSo Worker.Idle m'
idle_joined n m notice m' h is e =
    subst (λ (x : SeatAndSlots). DoesSo Worker.Idle x) (sym (e ∙ ap (λ (x : SeatAndSlots). (joins_notice m.0 x.0, m.1)) is)) (join_idle n m.0 m.1 h)

join_holding : (n k version : ℕ) (u : View) (c : List (ℕ × Option Edition)) → DoesSo (Worker.Holding k version) (u, c)
    → DoesSo (Worker.Holding k version) (joins_notice u (View.Noting n), c)
join_holding n k version (View.Working v) c h = h
join_holding n k version (View.Loading l) c h = absurd h
join_holding n k version (View.Noting x') c h = absurd h
join_holding n k version View.Spent c h = absurd h

pub holding_joined : (n k version : ℕ) (m notice m' : SeatAndSlots) → DoesSo (Worker.Holding k version) m → IsNotice n notice → m'
    ≡ (joins_notice m.0 notice.0, m.1)
    → DoesSo (Worker.Holding k version) m'
holding_joined n k version m notice m' h is e =
    subst (λ (x : SeatAndSlots). DoesSo (Worker.Holding k version) x) (sym (e ∙ ap (λ (x : SeatAndSlots). (joins_notice m.0 x.0, m.1)) is))
    (join_holding n k version m.0 m.1 h)

-- the loader may give a notice of the current version, and remembers what it did
note_of : (current newest : ℕ) (shelves : List Shelf) (u : View) (c : List (ℕ × Option Edition)) → RemembersSo current newest shelves (u, c)
    → IsLoading u × (new_notice u ≡ View.Noting current) × RemembersSo current newest shelves (gives_notice u, c)
note_of current newest shelves (View.Working v) c h = absurd h.0
note_of current newest shelves (View.Noting x') c h = absurd h.0
note_of current newest shelves View.Spent c h = absurd h.0
note_of current newest shelves (View.Loading l) c h = (tt, ap (λ n. View.Noting n) h.0.current_is, h)

pub may_note_so : (current newest : ℕ) (shelves : List Shelf) (m : SeatAndSlots) → RemembersSo current newest shelves m → IsLoading m.0
may_note_so current newest shelves m h = (note_of current newest shelves m.0 m.1 h).0

pub notice_so : (current newest : ℕ) (shelves : List Shelf) (m notice : SeatAndSlots) → RemembersSo current newest shelves m → notice ≡ (new_notice m.0, [])
    → IsNotice current notice
notice_so current newest shelves m notice h is = is ∙ ap (λ (u : View). (u, [])) (note_of current newest shelves m.0 m.1 h).1

pub noted_so : (current newest : ℕ) (shelves : List Shelf) (m m' : SeatAndSlots) → RemembersSo current newest shelves m → m' ≡ (gives_notice m.0, m.1)
    → RemembersSo current newest shelves m'
noted_so current newest shelves m m' h is = subst (λ (x : SeatAndSlots). RemembersSo current newest shelves x) (sym is)
    (note_of current newest shelves m.0 m.1 h).2
