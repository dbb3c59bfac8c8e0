-- When words show a state, and when what a worker or the loader knows shows it.
use Rattle.std.specs.Prelude.{◌≡◌, ℕ, ◌+◌, ◌*◌, List, length, slice_get, slice_index, Some}
use Rattle.version_core.specs.declared.state.Shelf.{Shelf}
use Rattle.version_core.specs.declared.state.Worker.{Worker}
use Rattle.version_core.specs.State.{State, newest}

-- a shelf as a word: the count in bits 0 to 7, the state in bits 8 and 9, the version from bit 16 on
abbrev pub shelf_word : Shelf → ℕ → ℕ
shelf_word Shelf.Free count = count
shelf_word (Shelf.Open v) count = count + 256 + 65536 * v
shelf_word (Shelf.Closing v) count = count + 512 + 65536 * v

-- the first word has the current version and its shelf, and each further word a shelf with its count
pub record WordsShow (words : List ℕ) (s : State) : Type 0 where
  pub nine : length words ≡ 9
  pub cur : slice_index words 0 ≡ 8 * s.current + s.current_shelf
  pub each : (k : ℕ) (x : Shelf) → slice_get s.shelves k ≡ Some x → slice_index words (k + 1) ≡ shelf_word x (slice_index s.counts k)

-- what a worker knows: what it is doing, and the greatest version that it has seen
pub record WorkerShows (number : ℕ) (worker : Worker) (greatest : ℕ) (s : State) : Type 0 where
  pub now : slice_get s.workers number ≡ Some worker
  pub seen : slice_index s.seen number ≡ greatest

-- what the loader knows: the current version and its shelf, what each shelf is for, and how many versions were opened. If that number is greater than
-- the current version, the last one opened is unpublished
pub record LoaderShows (version shelf : ℕ) (known : List Shelf) (opened : ℕ) (s : State) : Type 0 where
  pub current : version ≡ s.current
  pub current_shelf : shelf ≡ s.current_shelf
  pub shelves : known ≡ s.shelves
  pub newest_is : opened ≡ newest s
