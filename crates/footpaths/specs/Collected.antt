-- The closure while it is collected, target by target.
use Rattle.std.specs.Prelude.{◌≡◌, ℕ, ◌<◌, ◌≤◌, List, [], ◌∷◌, Option, Some, None, Contains}
use Rattle.timetable.specs.declared.network.Footpath.{Footpath}
use Rattle.timetable.specs.Legal.{HasFootpath, AreInOrder}
use Rattle.footpaths.specs.declared.fault.FootFault.{FootFault}
use Rattle.footpaths.specs.declared.fault.FootFault.TheVariants.{WalkTooLong, TooManyFootpaths, OutOfMemory}
use Rattle.footpaths.specs.Walks.{AreJoined}
use Rattle.footpaths.specs.Search.{IsCappedLeast}
use Rattle.footpaths.specs.Closure.{HasMorePairs}

-- the footpaths of the closure into stops below `stops`, with greater times cut to the cap
pub record IsClosedInto (listed : List Footpath) (cap stops : ℕ) (closed : List Footpath) : Type 0 where
  pub in_order : AreInOrder closed
  pub below : (f : Footpath) → Contains closed f → f.to < stops
  pub least : (f : Footpath) → Contains closed f → IsCappedLeast listed cap f.from f.to (Some f.secs)
  pub whole : (from to : ℕ) → to < stops → AreJoined listed from to → (secs : ℕ) × HasFootpath closed from to secs

-- a time of the table as a footpath from its stop into the target
abbrev pub taken : Option ℕ → ℕ → ℕ → List Footpath
taken None stop target = []
taken (Some secs) stop target = record { from = stop; to = target; secs = secs } ∷ []

-- why a footpath isn't added: there are `most` already, or there is no memory
abbrev pub IsAddFault : ℕ → ℕ → FootFault → Type 0
IsAddFault count most TooManyFootpaths = most ≤ count
IsAddFault count most WalkTooLong = ⊥
IsAddFault count most OutOfMemory = Unit {0}

-- why a time isn't taken
abbrev pub IsTakeFault : Option ℕ → ℕ → ℕ → FootFault → Type 0
IsTakeFault time count most TooManyFootpaths = (secs : ℕ) × (time ≡ Some secs) × (most ≤ count)
IsTakeFault time count most WalkTooLong = ⊥
IsTakeFault time count most OutOfMemory = Unit {0}

-- why the footpaths aren't collected
abbrev pub IsCountFault : List Footpath → ℕ → FootFault → Type 0
IsCountFault listed most TooManyFootpaths = HasMorePairs listed most
IsCountFault listed most WalkTooLong = ⊥
IsCountFault listed most OutOfMemory = Unit {0}
