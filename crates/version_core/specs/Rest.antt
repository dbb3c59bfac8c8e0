-- The table between two loads.
use Rattle.std.specs.Prelude.{◌≡◌, ◌≢◌, ℕ, ◌+◌, ◌<◌, List, [], ◌∷◌, ◌++◌, slice_set}
use Rattle.version_core.specs.declared.state.Shelf.{Shelf}
use Rattle.version_core.specs.declared.event.Event.{Event}
use Rattle.version_core.specs.declared.event.Reply.{Reply}
use Rattle.version_core.specs.State.{State, most_versions, newest}
use Rattle.version_core.specs.Steps.{Step, IsOpen, IsClosing}
use Rattle.version_core.specs.Runs.{Run}
use Rattle.version_core.specs.Invariants.{KeepsInvariants}

-- nothing is unpublished, and no version but the current one is open
pub record IsAtRest (s : State) : Type 0 where
  pub published : newest s ≡ s.current
  pub one_open : (k v : ℕ) → IsOpen s k v → v ≡ s.current

-- the state after a load: the next version is current on the shelf k, and the version before is closing
abbrev pub loaded : State → ℕ → ℕ → State
loaded s k edition =
    record s {
      current = newest s + 1;
      current_shelf = k;
      shelves = slice_set (slice_set s.shelves k (Shelf.Open (newest s + 1))) s.current_shelf (Shelf.Closing s.current);
      editions = s.editions ++ edition ∷ [];
    }

-- the event is none of the three of a load
abbrev pub IsNoLoad : Event → Type 0
IsNoLoad (Event.Open e) = ⊥
IsNoLoad Event.Publish = ⊥
IsNoLoad (Event.Close k) = ⊥
IsNoLoad _ = Unit {0}

-- any other event leaves a table at rest
abbrev pub RestStays : Type 0
RestStays = (s t : State) (event : Event) (reply : Reply) → IsAtRest s → IsNoLoad event → Step s event reply t → IsAtRest t

-- a load whose opening finds room publishes the next version, closes the one before, and ends at rest
abbrev pub LoadsRest : Type 0
LoadsRest =
    (s t : State) (e v k : ℕ) (second third : Reply) → KeepsInvariants s → IsAtRest s
    → Run s (Event.Open e ∷ Event.Publish ∷ Event.Close s.current_shelf ∷ []) (Reply.Opened v k ∷ second ∷ third ∷ []) t
    → (v ≡ newest s + 1) × (second ≡ Reply.Published v) × (third ≡ Reply.Closing) × (t ≡ loaded s k e) × IsAtRest t

-- at rest, an opening is answered with NotNow only if no version number is left
abbrev pub RestIsSpent : Type 0
RestIsSpent = (s t : State) (e : ℕ) → KeepsInvariants s → IsAtRest s → Step s (Event.Open e) Reply.NotNow t → newest s ≡ most_versions

-- at rest, an opening finds no room only if all shelves but the current one are closing
abbrev pub RestIsFull : Type 0
RestIsFull =
    (s t : State) (e k : ℕ) (counts : List ℕ) → KeepsInvariants s → IsAtRest s → Step s (Event.Open e) (Reply.NoRoom counts) t
    → k < 8 → k ≢ s.current_shelf → (v : ℕ) × IsClosing s k v
