-- What is known during the search for the least walks into one stop.
use Rattle.std.specs.Prelude.{◌≡◌, ℕ, ◌+◌, ◌*◌, ◌<◌, ◌≤◌, ◌⊎◌, suc, List, length, min, Option, Some, None, Contains, All, slice_index_or, sum_by}
use Rattle.std.specs.BinaryHeap.{heap_items, heap_len}
use Rattle.timetable.specs.declared.network.Footpath.{Footpath}
use Rattle.timetable.specs.Journeys.{walk_secs}
use Rattle.footpaths.specs.Walks.{IsWalkBetween}
use Rattle.footpaths.specs.declared.search.HeapEntry.{HeapEntry}
use Rattle.footpaths.specs.declared.search.Search.{Search}

-- the time that a table has for a stop
abbrev pub time_at : List (Option ℕ) → ℕ → Option ℕ
time_at times stop = slice_index_or times stop None

-- a time that was found for a stop
abbrev pub found_at : ℕ → ℕ → HeapEntry
found_at secs stop = record { secs = record { 0 = secs }; stop = stop }

-- the table has a time for the stop, of at most `secs` seconds
abbrev pub IsWithin : List (Option ℕ) → ℕ → ℕ → Type 0
IsWithin times stop secs = (d : ℕ) × (time_at times stop ≡ Some d) × (d ≤ secs)

-- the table has a greater time for the stop, or none
abbrev pub IsUndercut : List (Option ℕ) → ℕ → ℕ → Type 0
IsUndercut times stop secs = (d : ℕ) → time_at times stop ≡ Some d → secs < d

-- some walk between the two stops takes `secs` seconds, cut to the cap if it takes more
abbrev pub IsCappedTime : List Footpath → ℕ → ℕ → ℕ → ℕ → Type 0
IsCappedTime listed cap from to secs = (walk : List Footpath) × IsWalkBetween listed from to walk × (min (walk_secs walk) cap ≡ secs)

-- some walk from where the footpath begins into the target takes `secs` seconds more than the footpath, cut to the cap
abbrev pub IsBackFrom : List Footpath → ℕ → ℕ → Footpath → ℕ → Type 0
IsBackFrom listed cap target f secs = IsCappedTime listed cap f.from target (min (f.secs + secs) cap)

-- each time of the table is that of a walk into the target
abbrev pub AreWalked : List Footpath → ℕ → ℕ → List (Option ℕ) → Type 0
AreWalked listed cap target times = (stop secs : ℕ) → time_at times stop ≡ Some secs → IsCappedTime listed cap stop target secs

-- each stop that has a time was reached, and all those reached are stops of the table
pub record AreReached (times : List (Option ℕ)) (reached : List ℕ) : Type 0 where
  pub has : (stop secs : ℕ) → time_at times stop ≡ Some secs → Contains reached stop
  pub inside : All (λ s. s < length times) reached

-- no footpath into the stop, walked before `secs` more seconds, would lower a time
abbrev pub IsFollowed : List Footpath → List (Option ℕ) → ℕ → ℕ → Type 0
IsFollowed listed times stop secs = (f : Footpath) → Contains listed f → f.to ≡ stop → IsWithin times f.from (f.secs + secs)

-- each time of the table was followed
abbrev pub AreFollowed : List Footpath → List (Option ℕ) → Type 0
AreFollowed listed times = (stop secs : ℕ) → time_at times stop ≡ Some secs → IsFollowed listed times stop secs

-- each time of the table is pending, or was followed
abbrev pub ArePendingOrFollowed : List Footpath → List (Option ℕ) → List HeapEntry → Type 0
ArePendingOrFollowed listed times pending = (stop secs : ℕ) → time_at times stop ≡ Some secs → Contains pending (found_at secs stop)
    ⊎ IsFollowed listed times stop secs

-- all pending times are for stops of the table
abbrev pub ArePendingInside : List (Option ℕ) → List HeapEntry → Type 0
ArePendingInside times pending = All (λ x. x.stop < length times) pending

-- times only fall, what is pending remains pending, and new times are pending
pub record Grows (times : List (Option ℕ)) (pending : List HeapEntry) (times' : List (Option ℕ)) (pending' : List HeapEntry) : Type 0 where
  pub same_length : length times' ≡ length times
  pub inside : ArePendingInside times pending → ArePendingInside times' pending'
  pub lower : (stop secs : ℕ) → IsWithin times stop secs → IsWithin times' stop secs
  pub kept : (x : HeapEntry) → Contains pending x → Contains pending' x
  pub fresh : (stop secs : ℕ) → time_at times' stop ≡ Some secs → (time_at times stop ≡ Some secs) ⊎ Contains pending' (found_at secs stop)

-- the weight of an entry, and of the table: each lower time lessens it
abbrev pub weight_of : ℕ → Option ℕ → ℕ
weight_of cap None = suc cap
weight_of cap (Some secs) = secs

abbrev pub weight : ℕ → List (Option ℕ) → ℕ
weight cap times = sum_by (weight_of cap) times

-- the search took in that some walk from the stop takes `secs` seconds: the table has that time or a lower one, and what was known still holds
pub record TakesTime (old : Search) (stop secs : ℕ) (new : Search) : Type 0 where
  pub grows : Grows old.times.items (heap_items old.pending) new.times.items (heap_items new.pending)
  pub within : IsWithin new.times.items stop secs
  pub walked : (listed : List Footpath) (cap target : ℕ) → IsCappedTime listed cap stop target secs → AreWalked listed cap target old.times.items
      → AreWalked listed cap target new.times.items
  pub reached : AreReached old.times.items old.reached.items → AreReached new.times.items new.reached.items
  pub falls : (cap : ℕ) → secs ≤ cap
      → 2 * weight cap new.times.items + heap_len new.pending ≤ 2 * weight cap old.times.items + heap_len old.pending

-- the least time of a walk between the two stops, cut to the cap; None if no walk joins them
abbrev pub IsCappedLeast : List Footpath → ℕ → ℕ → ℕ → Option ℕ → Type 0
IsCappedLeast listed cap from to None = (walk : List Footpath) → ¬ IsWalkBetween listed from to walk
IsCappedLeast listed cap from to (Some secs) =
    IsCappedTime listed cap from to secs × ((walk : List Footpath) → IsWalkBetween listed from to walk → secs ≤ walk_secs walk)

abbrev pub AreCappedLeast : List Footpath → ℕ → ℕ → List (Option ℕ) → Type 0
AreCappedLeast listed cap target times = (stop : ℕ) → IsCappedLeast listed cap stop target (time_at times stop)
