-- The laws of the table over every list of events. A state is kept if `KeepsInvariants` holds of it; every state of every run is.
use Rattle.std.specs.Prelude.{◌≡◌, ℕ, ◌<◌, ◌≤◌, List, [], ◌∷◌, ◌++◌, length, count_by, slice_index, Some}
use Rattle.version_core.specs.declared.state.Worker.{Worker}
use Rattle.version_core.specs.declared.event.Event.{Event}
use Rattle.version_core.specs.declared.event.Reply.{Reply}
use Rattle.version_core.specs.State.{State, newest, edition_of, looked, arrived, departed}
use Rattle.version_core.specs.Steps.{Step, IsIdle, IsOpen, Holds, IsNoted, OpensLeast}
use Rattle.version_core.specs.Runs.{Run, LeastRun, IsRun, IsReached, IsLater}
use Rattle.version_core.specs.Invariants.{KeepsInvariants, is_at, version_on}

-- every state of every run is kept
abbrev pub EveryRunKeeps : Type 0
EveryRunKeeps = (s : State) → IsReached s → KeepsInvariants s

-- a step from a kept state leads to a kept state, whatever events led there
abbrev pub EveryStepKeeps : Type 0
EveryStepKeeps = (s t : State) (event : Event) (reply : Reply) → KeepsInvariants s → Step s event reply t → KeepsInvariants t

-- each count is the number of workers that are late at the shelf or hold it
abbrev pub CountsAreWorkers : Type 0
CountsAreWorkers = (s : State) (k : ℕ) → KeepsInvariants s → k < length s.shelves → slice_index s.counts k ≡ count_by (is_at k) s.workers

-- the shelf of a version that is held is not free, and has no other version
abbrev pub NoHeldShelfIsCollected : Type 0
NoHeldShelfIsCollected = (s : State) (w k v : ℕ) → KeepsInvariants s → Holds s w k v → version_on s.shelves k ≡ Some v

-- the current version and what a worker has seen never fall, and editions are only added
abbrev pub NothingFalls : Type 0
NothingFalls = (s t : State) (events : List Event) (replies : List Reply) → KeepsInvariants s → Run s events replies t → IsLater s t

-- the same in one step
abbrev pub NothingFallsInAStep : Type 0
NothingFallsInAStep = (s t : State) (event : Event) (reply : Reply) → KeepsInvariants s → Step s event reply t → IsLater s t

-- a version keeps its edition
abbrev pub EditionsStay : Type 0
EditionsStay =
    (s t : State) (events : List Event) (replies : List Reply) (v e : ℕ) → KeepsInvariants s → Run s events replies t
    → edition_of s.editions v ≡ Some e → edition_of t.editions v ≡ Some e

-- a version that is held has an edition, and a worker that holds it and asks gets both
abbrev pub AsksAreAnswered : Type 0
AsksAreAnswered =
    (s : State) (w k v : ℕ) → KeepsInvariants s → Holds s w k v
    → (e : ℕ) × (edition_of s.editions v ≡ Some e)
    × ((reply : Reply) (t : State) → Step s (Event.Ask w) reply t → (reply ≡ Reply.From v e) × (t ≡ s))

-- an idle worker that looks and takes, with no event between, holds the current version
abbrev pub LooksAndTakesHold : Type 0
LooksAndTakesHold =
    (s t u : State) (w : ℕ) (first second : Reply) → KeepsInvariants s → IsIdle s w → Step s (Event.Look w) first t → Step t (Event.Take w) second u
    → (first ≡ Reply.Looked s.current s.current_shelf) × (second ≡ Reply.Holds s.current)
    × (u ≡ arrived (looked s w) w s.current_shelf (Worker.Holding s.current_shelf s.current)) × Holds u w s.current_shelf s.current

-- a worker that holds a version and drops it is idle again, and no longer counted at its shelf
abbrev pub DropsLetGo : Type 0
DropsLetGo =
    (s t : State) (w k v : ℕ) (reply : Reply) → KeepsInvariants s → Holds s w k v → Step s (Event.Drop w) reply t
    → (reply ≡ Reply.Dropped) × (t ≡ departed s w k) × IsIdle t w

-- a notice is of the current version or an older one
abbrev pub NoticesAreOfTheirTime : Type 0
NoticesAreOfTheirTime = (s : State) (v : ℕ) → KeepsInvariants s → IsNoted s v → v ≤ s.current

-- once a worker has taken in a notice of a version, it has seen that version, and each of its looks gives that version or a newer one, whatever happens between
abbrev pub JoinedVersionsStay : Type 0
JoinedVersionsStay =
    (s t u x : State) (w v seen found k : ℕ) (events : List Event) (replies : List Reply) → KeepsInvariants s
    → Step s (Event.Join w v) (Reply.Joined seen) t → Run t events replies u → Step u (Event.Look w) (Reply.Looked found k) x
    → (v ≤ seen) × (seen ≤ found)

-- an opening leaves its shelf open with the new version, which has the edition that the event names
abbrev pub OpensWithEdition : Type 0
OpensWithEdition =
    (s t : State) (e v k : ℕ) → Step s (Event.Open e) (Reply.Opened v k) t → IsOpen t k v × (v ≡ newest t) × (edition_of t.editions v ≡ Some e)

-- if an opening takes the least free shelf, a state and an event have one reply and one next state
abbrev pub OneReply : Type 0
OneReply =
    (s t u : State) (event : Event) (reply other : Reply) → KeepsInvariants s
    → Step s event reply t → OpensLeast s event reply → Step s event other u → OpensLeast s event other → (other ≡ reply) × (u ≡ t)

-- the same of a state and a list of events
abbrev pub OneRun : Type 0
OneRun =
    (s t u : State) (events : List Event) (replies others : List Reply) → KeepsInvariants s
    → LeastRun s events replies t → LeastRun s events others u → (others ≡ replies) × (u ≡ t)

-- the empty list leads from a state to itself
abbrev pub RunsBegin : Type 0
RunsBegin = (s : State) → IsRun s [] s

-- a list of events that leads to a state, with the event of a step from there added, leads to the state after the step
abbrev pub RunsGrow : Type 0
RunsGrow =
    (s t u : State) (before events : List Event) (event : Event) (reply : Reply)
    → IsRun s before t → events ≡ before ++ event ∷ [] → Step t event reply u → IsRun s events u

-- the same with the events of a run added
abbrev pub RunsGrowByRuns : Type 0
RunsGrowByRuns =
    (s t u : State) (before added events : List Event) (replies : List Reply)
    → IsRun s before t → events ≡ before ++ added → Run t added replies u → IsRun s events u

-- the same as RunsGrow, with the list of replies
abbrev pub RunsGrowWithReplies : Type 0
RunsGrowWithReplies =
    (s t u : State) (before events : List Event) (event : Event) (first replies : List Reply) (reply : Reply)
    → Run s before first t → events ≡ before ++ event ∷ [] → replies ≡ first ++ reply ∷ [] → Step t event reply u → Run s events replies u

-- one run after another is a run
abbrev pub RunsJoin : Type 0
RunsJoin =
    (s t u : State) (before after : List Event) (first second : List Reply)
    → Run s before first t → Run t after second u → Run s (before ++ after) (first ++ second) u

-- a run of two lists joined is a run of the first and then one of the second
abbrev pub RunsPart : Type 0
RunsPart =
    (s u : State) (before after : List Event) (replies : List Reply) → Run s (before ++ after) replies u
    → (t : State) × (first : List Reply) × (second : List Reply) × (replies ≡ first ++ second) × Run s before first t × Run t after second u
