-- The table of versions as plain data.
use Rattle.std.specs.Prelude.{ℕ, zero, suc, ◌+◌, ◌-◌, max, List, [], ◌∷◌, ◌++◌, Option, None, length, remove, replicate, slice_get, slice_index, slice_set}
use Rattle.version_core.specs.declared.state.Shelf.{Shelf}
use Rattle.version_core.specs.declared.state.Worker.{Worker}

-- the greatest version
abbrev pub most_versions : ℕ
most_versions = 1000000000

-- the current version, what the shelves are for, what the workers are doing, and what was opened and noted so far
pub record State : Type 0 where
  pub current : ℕ  -- the current version
  pub current_shelf : ℕ  -- and its shelf
  pub shelves : List Shelf  -- eight
  pub counts : List ℕ  -- of each shelf: how many workers are late at it or hold it
  pub workers : List Worker  -- sixteen
  pub seen : List ℕ  -- of each worker: the greatest version that it has seen
  pub editions : List ℕ  -- the edition of version 1, then that of version 2, and so on
  pub notices : List ℕ  -- the versions whose notices are out

-- version 1 has edition 0, stands open on shelf 0 and is current. All workers are idle and have seen nothing
abbrev pub start : State
start =
    record {
      current = 1;
      current_shelf = 0;
      shelves = Shelf.Open 1 ∷ replicate 7 Shelf.Free;
      counts = replicate 8 0;
      workers = replicate 16 Worker.Idle;
      seen = replicate 16 0;
      editions = 0 ∷ [];
      notices = [];
    }

-- the version that was opened last
abbrev pub newest : State → ℕ
newest s = length s.editions

-- the edition of a version. Versions count from 1
abbrev pub edition_of : List ℕ → ℕ → Option ℕ
edition_of editions zero = None
edition_of editions (suc n) = slice_get editions n

-- the worker has looked at the current version
abbrev pub looked : State → ℕ → State
looked s w = record s { workers = slice_set s.workers w (Worker.Looked s.current s.current_shelf); seen = slice_set s.seen w s.current }

-- the worker is counted at the shelf, late or holding
abbrev pub arrived : State → ℕ → ℕ → Worker → State
arrived s w k worker = record s { counts = slice_set s.counts k (slice_index s.counts k + 1); workers = slice_set s.workers w worker }

-- the worker is idle, and no longer counted at the shelf
abbrev pub departed : State → ℕ → ℕ → State
departed s w k = record s { counts = slice_set s.counts k (slice_index s.counts k - 1); workers = slice_set s.workers w Worker.Idle }

-- the shelf is open with the next version, which has this edition
abbrev pub opened : State → ℕ → ℕ → State
opened s k edition = record s { shelves = slice_set s.shelves k (Shelf.Open (newest s + 1)); editions = s.editions ++ edition ∷ [] }

-- the version on the shelf is current
abbrev pub published : State → ℕ → ℕ → State
published s k version = record s { current = version; current_shelf = k }

-- the shelf k is for this now, and its count stays
abbrev pub shelved : State → ℕ → Shelf → State
shelved s k shelf = record s { shelves = slice_set s.shelves k shelf }

-- a notice of the current version is out
abbrev pub noted : State → State
noted s = record s { notices = s.notices ++ s.current ∷ [] }

-- the worker has seen the version of the notice at this place, which is no longer out
abbrev pub joined : State → ℕ → ℕ → ℕ → State
joined s w v index = record s { seen = slice_set s.seen w (max (slice_index s.seen w) v); notices = remove s.notices index }
