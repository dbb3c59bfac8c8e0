-- Steps over lists of events.
use Rattle.std.specs.Prelude.{◌≡◌, ℕ, ◌≤◌, List, [], ◌∷◌, ◌++◌, length, take, slice_get, slice_index, Some, ◌⊎◌}
use Rattle.version_core.specs.declared.event.Event.{Event}
use Rattle.version_core.specs.declared.event.Reply.{Reply}
use Rattle.version_core.specs.State.{State, start}
use Rattle.version_core.specs.Steps.{Step, Grows, OpensLeast}

-- the events may be answered with these replies, one after another
abbrev pub Run : State → List Event → List Reply → State → Type 0
Run s [] [] t = t ≡ s
Run s (e ∷ es) (r ∷ rs) t = (mid : State) × Step s e r mid × Run mid es rs t
Run s _ _ t = ⊥

-- a run in which each opening takes the least free shelf
abbrev pub LeastRun : State → List Event → List Reply → State → Type 0
LeastRun s [] [] t = t ≡ s
LeastRun s (e ∷ es) (r ∷ rs) t = (mid : State) × Step s e r mid × OpensLeast s e r × LeastRun mid es rs t
LeastRun s _ _ t = ⊥

-- the events lead from the one state to the other, with some replies
pub record IsRun (s : State) (events : List Event) (t : State) : Type 0 where
  pub replies : List Reply
  pub run : Run s events replies t

-- some run leads from the start to this state
abbrev pub IsReached : State → Type 0
IsReached s = (events : List Event) × IsRun start events s

-- t is later than s: no version has lost its edition, and neither the current version nor the greatest that a worker has seen has become older
pub record IsLater (s t : State) : Type 0 where
  pub current : s.current ≤ t.current
  pub seen : (w : ℕ) → slice_index s.seen w ≤ slice_index t.seen w
  pub editions : (opened : List ℕ) × (t.editions ≡ s.editions ++ opened)

-- the run ended for want of memory: before its first event, or before one that takes memory
pub record IsStopped (s : State) (events : List Event) (t : State) : Type 0 where
  pub done : ℕ
  pub replies : List Reply
  pub within : done ≤ length events
  pub run : Run s (take done events) replies t
  pub least : LeastRun s (take done events) replies t
  pub there : (done ≡ 0) ⊎ ((e : Event) × (slice_get events done ≡ Some e) × Grows t e)
