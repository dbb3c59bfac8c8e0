-- The window of a query: the connections that a scan reads.
use Rattle.std.specs.Prelude.{ℕ, zero, suc, ◌+◌, Bool, ◌&&◌, nat_le, nat_lt, List, [], ◌∷◌, length, filter}
use Rattle.std.specs.List.{range_with_len}
use Rattle.timetable.specs.TimetableValue.{TimetableValue}
use Rattle.timetable.specs.Journeys.{connection_at}
use Rattle.timetable.specs.declared.query.Query.{Query}

-- a connection departs at one time or later, and before another
abbrev pub departs_inside : TimetableValue → ℕ → ℕ → ℕ → Bool
departs_inside t from by i = nat_le from (connection_at t i).dep && nat_lt (connection_at t i).dep by

-- the indices of all such connections, rising
abbrev pub window_of : TimetableValue → ℕ → ℕ → List ℕ
window_of t from by = filter (departs_inside t from by) (range_with_len 0 (length t.connections))

-- the indices of connections that depart at `from` or later and before `by`
abbrev pub window : TimetableValue → Query → List ℕ
window t q = window_of t q.from q.by

-- n indices from low on, the last first
abbrev pub falling : ℕ → ℕ → List ℕ
falling low zero = []
falling low (suc n) = (low + n) ∷ falling low n
