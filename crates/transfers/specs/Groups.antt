-- The indices of a list of keys, grouped by key.
use Rattle.std.specs.Prelude.{◌≡◌, ◌<◌, ℕ, List, [], ◌∷◌, length, slice_index, Contains, Option, Some, None}
use Rattle.timetable.specs.Legal.{At}
use Rattle.transfers.specs.declared.groups.Member.{Member}

-- the index has this key
abbrev pub HasKey : List (Option ℕ) → ℕ → ℕ → Type 0
HasKey keys key number = At keys number (Some key)

-- the index with its key, if it has one
abbrev pub member_of : Option ℕ → ℕ → List Member
member_of None number = []
member_of (Some key) number = record { key = key; number = number } ∷ []

-- these are the indices below `count` that have a key
pub record AreMembers (all : List (Option ℕ)) (count : ℕ) (members : List Member) : Type 0 where
  pub has : (m : Member) → Contains members m → (m.number < count) × HasKey all m.key m.number
  pub each : (m : Member) → m.number < count → HasKey all m.key m.number → Contains members m

-- these are the indices that have a key, and their keys
pub record AreGroups (all : List (Option ℕ)) (keys numbers : List ℕ) : Type 0 where
  pub has : (k : ℕ) → k < length keys → HasKey all (slice_index keys k) (slice_index numbers k)
  pub each : (key number : ℕ) → HasKey all key number → (k : ℕ) × (k < length keys) × (slice_index keys k ≡ key) × (slice_index numbers k ≡ number)

-- these are the indices with this key
pub record IsGroup (all : List (Option ℕ)) (key : ℕ) (numbers : List ℕ) : Type 0 where
  pub has : (number : ℕ) → Contains numbers number → HasKey all key number
  pub each : (number : ℕ) → HasKey all key number → Contains numbers number
