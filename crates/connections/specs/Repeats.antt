-- The starts of the trips that frequencies.txt names. Whether the starts are exact makes no difference.
use Rattle.std.specs.Prelude.{◌-◌, ◌%◌, ◌==◌, ◌&&◌, max, nat_le, nat_lt, ℕ, zero, suc, List, [], ◌∷◌, ◌++◌, filter, Bool, if◌then◌else◌}
use Rattle.std.specs.List.{list_any}
use Rattle.gtfs_tables.specs.declared.tables.Frequency.{Frequency}

-- a row starts its trip at this time: at its start time, and again after each headway, before its end time
abbrev pub leaves_at : ℕ → Frequency → Bool
leaves_at s row = nat_lt 0 row.headway && nat_le row.start s && nat_lt s row.end && ((s - row.start) % row.headway == 0)

-- one of the rows starts its trip at this time
abbrev pub is_start : List Frequency → ℕ → Bool
is_start rows s = list_any (leaves_at s) rows

-- the starts before a time, each once, rising
unfoldable pub starts_before : List Frequency → ℕ → List ℕ
starts_before rows zero = []
starts_before rows (suc s) = if is_start rows s then starts_before rows s ++ s ∷ [] else starts_before rows s

-- the greatest end time
unfoldable pub last_end : List Frequency → ℕ
last_end [] = 0
last_end (row ∷ rows) = max row.end (last_end rows)

-- the starts of a trip with these rows
abbrev pub starts_of : List Frequency → List ℕ
starts_of rows = starts_before rows (last_end rows)

-- the rows of the trip of an index
abbrev pub rows_for : List Frequency → ℕ → List Frequency
rows_for rows t = filter (λ row. row.trip == t) rows
