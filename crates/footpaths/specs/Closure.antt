-- The closure of listed footpaths, what a legal timetable asks of it, and why it isn't made. (Closed footpaths:
-- Dibbelt, Pajor, Strasser, Wagner: Connection Scan Algorithm, ACM JEA 2018. The limits, and that loops count as footpaths, are our own.)
use Rattle.std.specs.Prelude.{ℕ, ◌+◌, ◌<◌, ◌≤◌, List, length, All, Contains}
use Rattle.timetable.specs.declared.network.Footpath.{Footpath}
use Rattle.timetable.specs.Journeys.{walk_secs}
use Rattle.timetable.specs.Legal.{At, HasFootpath, AreInOrder}
use Rattle.footpaths.specs.declared.fault.FootFault.{FootFault}
use Rattle.footpaths.specs.declared.fault.FootFault.TheVariants.{WalkTooLong, TooManyFootpaths, OutOfMemory}
use Rattle.footpaths.specs.Walks.{IsWalkBetween, AreJoined, IsLeastTime}

-- one footpath for each ordered pair of stops that walks join, with the least time of such a walk, in the order of the stop that it leads
-- into, then of the stop that it leaves
pub record IsClosure (listed closure : List Footpath) : Type 0 where
  pub in_order : AreInOrder closure
  pub least : (f : Footpath) → Contains closure f → IsLeastTime listed f.from f.to f.secs
  pub whole : (from to : ℕ) → AreJoined listed from to → (secs : ℕ) × HasFootpath closure from to secs

-- walks join more than `most` ordered pairs of stops: each of `pairs` stands for one of them, whatever its seconds
pub record JoinsMore (listed : List Footpath) (most : ℕ) (pairs : List Footpath) : Type 0 where
  pub in_order : AreInOrder pairs
  pub joined : (f : Footpath) → Contains pairs f → AreJoined listed f.from f.to
  pub more : most < length pairs

abbrev pub HasMorePairs : List Footpath → ℕ → Type 0
HasMorePairs listed most = (pairs : List Footpath) × JoinsMore listed most pairs

-- walks join the two stops, and each of them takes more than `longest` seconds
pub record TakesLonger (listed : List Footpath) (longest from to : ℕ) : Type 0 where
  pub joined : AreJoined listed from to
  pub longer : (walk : List Footpath) → IsWalkBetween listed from to walk → longest < walk_secs walk

abbrev pub HasLongerWalk : List Footpath → ℕ → Type 0
HasLongerWalk listed longest = (from : ℕ) × (to : ℕ) × TakesLonger listed longest from to

-- what a fault says of the listed footpaths: too many pairs come before a walk that takes too long
abbrev pub IsFault : List Footpath → ℕ → ℕ → FootFault → Type 0
IsFault listed most longest TooManyFootpaths = HasMorePairs listed most
IsFault listed most longest WalkTooLong = (¬ HasMorePairs listed most) × HasLongerWalk listed longest
IsFault listed most longest OutOfMemory = Unit {0}

-- both stops of each footpath are below `stops`
abbrev pub AreInRange : List Footpath → ℕ → Type 0
AreInRange listed stops = All (λ f. (f.from < stops) × (f.to < stops)) listed

-- each stop has a loop
abbrev pub HasLoops : List Footpath → ℕ → Type 0
HasLoops listed stops = (s : ℕ) → s < stops → (secs : ℕ) × HasFootpath listed s s secs

-- what a legal timetable with this many stops asks of its footpaths
pub record HasLegalFootpaths (stops : ℕ) (paths : List Footpath) : Type 0 where
  pub ends_in_range : (i : ℕ) (f : Footpath) → At paths i f → (f.from < stops) × (f.to < stops)
  pub in_order : AreInOrder paths
  pub loops : HasLoops paths stops
  pub closed : (a b c d1 d2 : ℕ) → HasFootpath paths a b d1 → HasFootpath paths b c d2 → (d : ℕ) × HasFootpath paths a c d × (d ≤ d1 + d2)
