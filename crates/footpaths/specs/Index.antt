-- Footpaths by the stop that they lead into.
use Rattle.std.specs.Prelude.{◌≡◌, ℕ, ◌+◌, ◌<◌, ◌≤◌, List, ◌++◌, length, slice_index, slice_range, All, Contains}
use Rattle.timetable.specs.declared.network.Footpath.{Footpath}
use Rattle.timetable.specs.Legal.{At}

-- the listed footpaths that lead into a stop
pub record AreThoseInto (listed : List Footpath) (stop : ℕ) (paths : List Footpath) : Type 0 where
  pub into : All (λ f. Contains listed f × (f.to ≡ stop)) paths
  pub whole : (f : Footpath) → Contains listed f → f.to ≡ stop → Contains paths f

-- the footpaths into a stop are those from its first index up to before the first index of the next stop
abbrev pub IsIndex : List Footpath → List ℕ → List Footpath → Type 0
IsIndex listed first paths = (s : ℕ) → s + 1 < length first → AreThoseInto listed s (slice_range paths (slice_index first s) (slice_index first (s + 1)))

-- first indices never fall, and none is past the end of the footpaths
abbrev pub AreRanges : List ℕ → ℕ → Type 0
AreRanges first count = (s : ℕ) → s + 1 < length first → (slice_index first s ≤ slice_index first (s + 1)) × (slice_index first (s + 1) ≤ count)

-- an index of this many stops
pub record IsOver (stops : ℕ) (first : List ℕ) (paths : List Footpath) : Type 0 where
  pub count : length first ≡ stops + 1
  pub in_range : All (λ f. f.from < stops) paths

-- the index while it is made: the first `stops` stops are done
pub record IsIndexUpTo (listed : List Footpath) (stops : ℕ) (first : List ℕ) (paths : List Footpath) : Type 0 where
  pub count : length first ≡ stops + 1
  pub end : slice_index first stops ≡ length paths
  pub ranges : AreRanges first (length paths)
  pub index : IsIndex listed first paths
  pub listed_ones : All (Contains listed) paths

-- of the first n listed footpaths, the k-th, counted from 1, is the last into the stop; k is 0 if none leads there
pub record IsLastInto (listed : List Footpath) (stop n k : ℕ) : Type 0 where
  pub within : k ≤ n
  pub into : (i : ℕ) (f : Footpath) → k ≡ i + 1 → At listed i f → f.to ≡ stop
  pub none_after : (i : ℕ) (f : Footpath) → k ≤ i → i < n → At listed i f → f.to ≡ stop → ⊥

-- of the first n listed footpaths: the last into each stop, and for each footpath the one before it into the same stop
pub record AreChains (listed : List Footpath) (n : ℕ) (last before : List ℕ) : Type 0 where
  pub lasts : (s : ℕ) → s < length last → IsLastInto listed s n (slice_index last s)
  pub befores : (i : ℕ) (f : Footpath) → i < n → At listed i f → IsLastInto listed f.to i (slice_index before i)

-- listed footpaths into the stop were added, among them all that are listed at index k or later
pub record AddsThoseFrom (listed : List Footpath) (stop k : ℕ) (old new : List Footpath) : Type 0 where
  pub added : List Footpath
  pub is : new ≡ old ++ added
  pub into : All (λ f. Contains listed f × (f.to ≡ stop)) added
  pub whole : (i : ℕ) (f : Footpath) → k ≤ i → At listed i f → f.to ≡ stop → Contains added f
