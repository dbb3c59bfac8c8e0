-- What a pin and a release do to the worker's view, by the events that happen.
use Rattle.std.specs.Prelude.{◌≡◌, ℕ, ◌+◌, ◌*◌, ◌<◌, ◌≤◌, true, List, [], ◌∷◌, ◌++◌, length, Option, Some, None}
use Rattle.version_core.specs.declared.event.Event.{Event}
use Rattle.version_core.specs.declared.event.Reply.{Reply}
use Rattle.version_core.specs.declared.state.Worker.{Worker}
use Rattle.shelf_steps.specs.declared.edition.Edition.{Edition}
use Rattle.shelf_steps.specs.declared.views.KnownHistory.{KnownHistory}
use Rattle.shelf_steps.specs.declared.views.WorkerView.{WorkerView}
use Rattle.shelf_steps.specs.declared.views.View.{View}
use Rattle.shelf_steps.specs.EventHistory.{Happened, IsEdition}
use Rattle.shelf_steps.specs.Plays.{OfWorker, SeatAndSlots, ShowsIn}
use Rattle.shelf_steps.specs.Slots.{slot_at}

-- a look finds the version n: no older than any that was seen, and greater than the one last looked at if the take of that came late
pub record LooksOnce (a : WorkerView) (n shelf : ℕ) (looked : KnownHistory) : Type 0 where
  pub from : a.seen ≤ n
  pub above : a.passed ≡ true → a.last < n
  pub happened : Happened a.known (Event.Look a.number) (Reply.Looked n shelf) looked

-- a look, a take that comes late, and a drop
pub record LateTry (a : WorkerView) (n : ℕ) (b : WorkerView) : Type 0 where
  pub shelf : ℕ
  pub looked : KnownHistory
  pub taken : KnownHistory
  pub look : LooksOnce a n shelf looked
  pub take : Happened looked (Event.Take a.number) Reply.Late taken
  pub drop : Happened taken (Event.Drop a.number) Reply.Dropped b.known
  pub number : b.number ≡ a.number
  pub now : b.now ≡ Worker.Idle
  pub seen : b.seen ≡ n
  pub last : (b.last ≡ n) × (b.passed ≡ true)
  pub joined : b.joined ≡ a.joined
  pub shows : ShowsIn b

-- a look, and a take that finds the version still there: the worker holds e, which is the edition of that version in what the worker now knows
pub record HoldingTry (a : WorkerView) (n shelf : ℕ) (e : Edition) (b : WorkerView) : Type 0 where
  pub looked : KnownHistory
  pub look : LooksOnce a n shelf looked
  pub take : Happened looked (Event.Take a.number) (Reply.Holds n) b.known
  pub number : b.number ≡ a.number
  pub now : b.now ≡ Worker.Holding shelf n
  pub seen : b.seen ≡ n
  pub joined : b.joined ≡ a.joined
  pub edition : b.edition ≡ Some e
  pub its : IsEdition b.known.images n (Some e)
  pub shows : ShowsIn b

abbrev pub TryIsLate : View → ℕ → View → Type 0
TryIsLate u n u' = OfWorker u (λ a. OfWorker u' (λ b. LateTry a n b))

abbrev pub TryHolds : View → ℕ → ℕ → Edition → View → Type 0
TryHolds u n shelf e u' = OfWorker u (λ a. OfWorker u' (λ b. HoldingTry a n shelf e b))

-- late tries, one after another, whose looks found these versions
abbrev pub TriesAreLate : View → List ℕ → View → Type 0
TriesAreLate u [] u' = u' ≡ u
TriesAreLate u (n ∷ ns) u' = (mid : View) × TryIsLate u n mid × TriesAreLate mid ns u'

-- each is greater than the one before
abbrev pub IsRising : List ℕ → Type 0
IsRising [] = Unit {0}
IsRising (n ∷ []) = Unit {0}
IsRising (n ∷ m ∷ ns) = (n < m) × IsRising (m ∷ ns)

-- at most three late tries and then one that holds: each look found a greater version than the one before, and the last found the version that is
-- held
abbrev pub Pins : View → ℕ → ℕ → Edition → View → Type 0
Pins u n shelf e u' = (ns : List ℕ) × (length ns < 4) × (mid : View) × TriesAreLate u ns mid × TryHolds mid n shelf e u' × IsRising (ns ++ n ∷ [])

-- four late tries, whose looks each found a greater version than the one before; n is the last
abbrev pub Moves : View → ℕ → View → Type 0
Moves u n u' = (i j k : ℕ) × TriesAreLate u (i ∷ j ∷ k ∷ n ∷ []) u' × (i < j) × (j < k) × (k < n)

-- the seat of an idle worker with this number, with no slot out
abbrev pub IsIdleAs : ℕ → SeatAndSlots → Type 0
IsIdleAs number m = OfWorker m.0 (λ a. (a.now ≡ Worker.Idle) × (a.number ≡ number)) × (m.1 ≡ [])

-- the worker holds the shelf, and the edition was taken from its slot
abbrev pub IsHoldingAs : ℕ → ℕ → Edition → SeatAndSlots → Type 0
IsHoldingAs number shelf e m = OfWorker m.0 (λ a. (a.now ≡ Worker.Holding shelf e.version) × (a.number ≡ number)
    × (a.edition ≡ Some e)) × (m.1 ≡ (slot_at shelf number, None) ∷ [])

-- one drop, and the worker is idle
pub record ReleasesShelf (a b : WorkerView) : Type 0 where
  pub happened : Happened a.known (Event.Drop a.number) Reply.Dropped b.known
  pub number : b.number ≡ a.number
  pub now : b.now ≡ Worker.Idle
  pub seen : b.seen ≡ a.seen
  pub joined : b.joined ≡ a.joined
  pub shows : ShowsIn b

abbrev pub Releases : View → View → Type 0
Releases u u' = OfWorker u (λ a. OfWorker u' (λ b. ReleasesShelf a b))
