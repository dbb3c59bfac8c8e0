-- What holds in every state of every run, part by part.
use Rattle.std.specs.Prelude.{◌≡◌, ℕ, ◌+◌, ◌<◌, ◌≤◌, Bool, false, ◌==◌, List, [], ◌∷◌, length, count_by, slice_get, slice_index, Option, Some, None, ◌⊎◌}
use Rattle.std.specs.Option.{option_and_then}
use Rattle.version_core.specs.declared.state.Shelf.{Shelf}
use Rattle.version_core.specs.declared.state.Worker.{Worker}
use Rattle.version_core.specs.State.{State, most_versions, newest}

-- the version of a shelf, open or closing
abbrev pub version_of : Shelf → Option ℕ
version_of Shelf.Free = None
version_of (Shelf.Open v) = Some v
version_of (Shelf.Closing v) = Some v

-- the version on shelf k, open or closing, if there is one
abbrev pub version_on : List Shelf → ℕ → Option ℕ
version_on shelves k = option_and_then version_of (slice_get shelves k)

-- the worker is late at the shelf or holds it
abbrev pub is_at : ℕ → Worker → Bool
is_at k (Worker.Late j) = j == k
is_at k (Worker.Holding j v) = j == k
is_at k _ = false

-- the newest version stands open: it is current, or the next to be published
abbrev pub NewestIsOpen : ℕ → ℕ → List Shelf → Type 0
NewestIsOpen current newest shelves =
    (newest ≡ current) ⊎ ((newest ≡ current + 1) × ((k : ℕ) × (slice_get shelves k ≡ Some (Shelf.Open newest))))

-- eight shelves. The current one is open with the current version, and the newest version stands open. Versions are 1 to the newest, no two shelves
-- have the same version, and a closing shelf's version is older than the current one
pub record ShelvesFit (current current_shelf newest : ℕ) (shelves : List Shelf) : Type 0 where
  pub eight : length shelves ≡ 8
  pub current_open : slice_get shelves current_shelf ≡ Some (Shelf.Open current)
  pub newest_open : NewestIsOpen current newest shelves
  pub known : (k v : ℕ) → version_on shelves k ≡ Some v → (0 < v) × (v ≤ newest)
  pub apart : (j k v : ℕ) → version_on shelves j ≡ Some v → version_on shelves k ≡ Some v → j ≡ k
  pub closing_old : (k v : ℕ) → slice_get shelves k ≡ Some (Shelf.Closing v) → v < current

-- each of the eight counts is the number of workers that are late at that shelf or hold it
pub record CountsFit (counts : List ℕ) (workers : List Worker) : Type 0 where
  pub eight : length counts ≡ 8
  pub each : (k : ℕ) → k < 8 → slice_index counts k ≡ count_by (is_at k) workers

-- a worker fits the shelves and the greatest version that it has seen; if it is late, that version is older than the current one
abbrev pub Fits : ℕ → ℕ → List Shelf → Worker → ℕ → Type 0
Fits current current_shelf shelves Worker.Idle seen = seen ≤ current
Fits current current_shelf shelves (Worker.Looked v k) seen = (k < 8) × (seen ≡ v) × (v ≤ current) × (v ≡ current → k ≡ current_shelf)
Fits current current_shelf shelves (Worker.Late k) seen = (k < 8) × (seen < current)
Fits current current_shelf shelves (Worker.Holding k v) seen = (k < 8) × (version_on shelves k ≡ Some v) × (v ≤ seen) × (seen ≤ current)

-- sixteen workers, each of which fits the shelves and the greatest version that it has seen
pub record WorkersFit (current current_shelf : ℕ) (shelves : List Shelf) (workers : List Worker) (seen : List ℕ) : Type 0 where
  pub sixteen : length workers ≡ 16
  pub sixteen_seen : length seen ≡ 16
  pub each : (w : ℕ) (worker : Worker) → slice_get workers w ≡ Some worker → Fits current current_shelf shelves worker (slice_index seen w)

-- the versions never fall, and none is below `low` or above `high`
abbrev pub RiseWithin : ℕ → List ℕ → ℕ → Type 0
RiseWithin low [] high = low ≤ high
RiseWithin low (v ∷ vs) high = (low ≤ v) × RiseWithin v vs high

-- what holds in every state: at most 1,000,000,000 versions; shelves, counts and workers that fit one another; and notices whose versions never fall,
-- none of them above the current one
pub record KeepsInvariants (s : State) : Type 0 where
  pub room : newest s ≤ most_versions
  pub shelves : ShelvesFit s.current s.current_shelf (newest s) s.shelves
  pub counts : CountsFit s.counts s.workers
  pub workers : WorkersFit s.current s.current_shelf s.shelves s.workers s.seen
  pub notices : RiseWithin 0 s.notices s.current
