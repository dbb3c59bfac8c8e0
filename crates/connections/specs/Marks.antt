-- The starts of a trip's rows, marked second by second.
use Rattle.std.specs.Prelude.{◌≡◌, ◌<◌, ℕ, List, length, slice_index_or, Bool, true}
use Rattle.gtfs_tables.specs.declared.tables.Frequency.{Frequency}
use Rattle.connections.specs.Repeats.{leaves_at}

-- each mark is set exactly if its second passes the test
abbrev pub AreMarks : (ℕ → Bool) → List Bool → Type 0
AreMarks test marks = (s : ℕ) (d : Bool) → s < length marks → slice_index_or marks s d ≡ test s

-- each start of a row before the end time of another row is also a start of that other row
abbrev pub Covers : Frequency → Frequency → Type 0
Covers other row = (s : ℕ) → s < other.end → leaves_at s row ≡ true → leaves_at s other ≡ true
