-- Labels of many trips, each trip's in a run.
use Rattle.std.specs.Prelude.{◌≡◌, ◌⊎◌, ℕ, ◌+◌, ◌<◌, ◌≤◌, List, [], take, drop, length, slice_index_or, Contains}
use Rattle.reasoning.specs.Lists.{Extends}
use Rattle.criteria.specs.Laws.{Rules, Admits}
use Rattle.fronts.specs.declared.labels.Label.{Label}
use Rattle.fronts.specs.declared.labels.LabelRun.{LabelRun}
use Rattle.fronts.specs.declared.labels.Labels.{Labels}

-- no labels, and no room
abbrev pub no_run : LabelRun
no_run = record { first = 0; count = 0; room = 0 }

abbrev pub run_at : List LabelRun → ℕ → LabelRun
run_at runs trip = slice_index_or runs trip no_run

-- the labels of a run
abbrev pub labels_in : {V : Type 0} → List (Label V) → LabelRun → List (Label V)
labels_in labels run = take run.count (drop run.first labels)

-- how many trips there are
abbrev pub trips_of : {V : Type 0} → Labels V → ℕ
trips_of labels = length labels.runs.items

-- the labels of a trip
abbrev pub labels_at : {V : Type 0} → Labels V → ℕ → List (Label V)
labels_at labels trip = labels_in labels.labels.items (run_at labels.runs.items trip)

-- the room of one run ends before that of the other begins
abbrev pub AreApart : LabelRun → LabelRun → Type 0
AreApart a b = (a.first + a.room ≤ b.first) ⊎ (b.first + b.room ≤ a.first)

-- runs of a vector of `size` labels: each has room for its labels, within the vector, and no two overlap
pub record AreRuns (runs : List LabelRun) (size : ℕ) : Type 0 where
  pub counted : (k : ℕ) → (run_at runs k).count ≤ (run_at runs k).room
  pub within : (k : ℕ) → (run_at runs k).first + (run_at runs k).room ≤ size
  pub apart : (a b : ℕ) → (a ≡ b → ⊥) → AreApart (run_at runs a) (run_at runs b)

-- labels in runs, whose values are admitted
pub record AreLabels {V : Type 0} (rules : Rules V) (labels : Labels V) : Type 0 where
  pub runs : AreRuns labels.runs.items (length labels.labels.items)
  pub admitted : (l : Label V) → Contains labels.labels.items l → Admits rules l.value

-- there are as many trips as before, and the labels are as `AreLabels` says
pub record AreStillLabels {V : Type 0} (rules : Rules V) (old new : Labels V) : Type 0 where
  pub sound : AreLabels rules new
  pub long : trips_of new ≡ trips_of old

-- this many trips have no labels yet
pub record HaveNone {V : Type 0} (trips : ℕ) (labels : Labels V) : Type 0 where
  pub long : trips_of labels ≡ trips
  pub sound : (rules : Rules V) → AreLabels rules labels
  pub none : (trip : ℕ) → labels_at labels trip ≡ []

-- the new labels are in a run, and those of other runs where they were; what was in the room of the old run may be gone
pub record ArePut {V : Type 0} (old : List (Label V)) (run : LabelRun) (new : List (Label V)) (placed : LabelRun)
    (now : List (Label V)) : Type 0 where
  pub counted : placed.count ≤ placed.room
  pub within : placed.first + placed.room ≤ length now
  pub longer : length old ≤ length now
  pub here : labels_in now placed ≡ new
  pub others : (other : LabelRun) → other.count ≤ other.room → other.first + other.room ≤ length old → AreApart other run
      → labels_in now other ≡ labels_in old other
  pub apart : (other : LabelRun) → other.first + other.room ≤ length old → AreApart other run → AreApart other placed
  pub only : (l : Label V) → Contains now l → Contains old l ⊎ Contains new l

-- the new labels may not all be there: the old ones are where they were, and behind them are only new ones
pub record ArePartlyPut {V : Type 0} (old new now : List (Label V)) : Type 0 where
  pub extends : Extends old now
  pub only : (l : Label V) → Contains now l → Contains old l ⊎ Contains new l

-- there is such a trip, and the labels are as `AreLabels` says
pub record HasTrip {V : Type 0} (rules : Rules V) (labels : Labels V) (trip : ℕ) : Type 0 where
  pub there : trip < trips_of labels
  pub sound : AreLabels rules labels
