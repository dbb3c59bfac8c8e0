-- The times of a trip's rows, with times given to the blank ones.
use Rattle.std.specs.Prelude.{◌≡◌, ◌+◌, ◌-◌, ◌*◌, ◌/◌, ◌<◌, ℕ, List, length, map, slice_index_or, Option, Some, None}
use Rattle.gtfs_rows.specs.declared.rows.StopTimeRow.{StopTimeRow}

-- a row's arrival and departure: if only one is given, it serves for both
abbrev pub either : Option ℕ → Option ℕ → Option ℕ
either (Some t) other = Some t
either None other = other

abbrev pub arrival_of : StopTimeRow → Option ℕ
arrival_of row = either row.arrival row.departure

abbrev pub departure_of : StopTimeRow → Option ℕ
departure_of row = either row.departure row.arrival

-- the arrival and the departure of the row at an index; none past the end
abbrev pub arrival_at : List StopTimeRow → ℕ → Option ℕ
arrival_at rows i = slice_index_or (map arrival_of rows) i None

abbrev pub departure_at : List StopTimeRow → ℕ → Option ℕ
departure_at rows i = slice_index_or (map departure_of rows) i None

-- the end of the j-th of the parts into which the time between a and b is cut
abbrev pub part_of : ℕ → ℕ → ℕ → ℕ → ℕ
part_of a b parts j = a + (j * (b - a)) / parts

-- the rows between p and q are blank; the row at p departs at a, and the row at q arrives at b
pub record IsGap (rows : List StopTimeRow) (p q a b : ℕ) : Type 0 where
  pub rising : p < q
  pub from : departure_at rows p ≡ Some a
  pub to : arrival_at rows q ≡ Some b
  pub blank : (m : ℕ) → p < m → m < q → arrival_at rows m ≡ None

-- these are the times of the rows before an index
pub record IsSpreadBefore (rows : List StopTimeRow) (times : List (ℕ × ℕ)) (end : ℕ) : Type 0 where
  pub given : (i a d : ℕ) → i < end → arrival_at rows i ≡ Some a → departure_at rows i ≡ Some d → slice_index_or times i (0, 0) ≡ (a, d)
  pub blank : (p q a b i : ℕ) → IsGap rows p q a b → p < i → i < q → i < end
      → slice_index_or times i (0, 0) ≡ (part_of a b (q - p) (i - p), part_of a b (q - p) (i - p))

-- these are the times of all rows
pub record IsSpread (rows : List StopTimeRow) (times : List (ℕ × ℕ)) : Type 0 where
  pub same_length : length times ≡ length rows
  pub spread : IsSpreadBefore rows times (length rows)
