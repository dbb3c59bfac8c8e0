-- What is wrong with a question between several stops that can't be asked.
use Rattle.std.specs.Prelude.{◌≡◌, ℕ, ◌<◌, ◌≤◌, ◌⊎◌, List, Contains}
use Rattle.timetable.specs.declared.limits.TheConstants.{TIME_END}
use Rattle.timetable.specs.declared.query.QueryFault.{QueryFault}
use Rattle.timetable.specs.declared.query.QueryFault.TheVariants.{UnknownStop, SameStop, BadWindow}
use Rattle.scan_state.specs.SetQuery.{SetQueryValue}
use Rattle.profile_scan.specs.declared.destination.Destination.{Destination}

-- all are stops of a timetable with this many stops
abbrev pub AreStops : ℕ → List ℕ → Type 0
AreStops count listed = (stop : ℕ) → Contains listed stop → stop < count

-- one is no stop of a timetable with this many stops
abbrev pub IsOneUnknown : ℕ → List ℕ → Type 0
IsOneUnknown count listed = (stop : ℕ) × Contains listed stop × (count ≤ stop)

-- no source is a target
abbrev pub AreApart : SetQueryValue → Type 0
AreApart b = (stop : ℕ) → Contains b.sources stop → Contains b.targets stop → ⊥

-- the latest departure or the latest arrival is before the earliest departure, or a time is `TIME_END` or later
abbrev pub HasBadTimes : SetQueryValue → Type 0
HasBadTimes b = (b.until < b.from) ⊎ (b.by < b.from) ⊎ (TIME_END ≤ b.from) ⊎ (TIME_END ≤ b.until) ⊎ (TIME_END ≤ b.by)

-- the question has this fault, and none of those before it
abbrev pub IsFirstFault : ℕ → SetQueryValue → QueryFault → Type 0
IsFirstFault stops b UnknownStop = IsOneUnknown stops b.sources ⊎ IsOneUnknown stops b.targets
IsFirstFault stops b SameStop =
    AreStops stops b.sources × AreStops stops b.targets × ((stop : ℕ) × Contains b.sources stop × Contains b.targets stop)
IsFirstFault stops b BadWindow = AreStops stops b.sources × AreStops stops b.targets × AreApart b × HasBadTimes b

-- the question from every stop to one target
abbrev pub destination_to : SetQueryValue → ℕ → Destination
destination_to b target = record { target = target; from = b.from; until = b.until; by = b.by }

-- a destination is one of the targets, with the question's times
pub record IsToTarget (b : SetQueryValue) (d : Destination) : Type 0 where
  pub leads : Contains b.targets d.target
  pub times : (d.from ≡ b.from) × (d.until ≡ b.until) × (d.by ≡ b.by)
