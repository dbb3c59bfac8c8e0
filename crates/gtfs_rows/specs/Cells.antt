-- The columns of a table, and the values that a record has in them.
use Rattle.std.specs.Prelude.{◌==◌, if◌then◌else◌, ℕ, List, [], ◌∷◌, length, take, map, reverse, Option, Some, None, Bool, unwrap_or, is_some}
use Rattle.std.specs.List.{list_all}
use Rattle.std.specs.Str.{bytes_eq}
use Rattle.csv.specs.Records.{field_at}
use Rattle.reasoning.specs.First.{first_below}
use Rattle.gtfs_rows.specs.Source.{Record}

-- the text without the spaces (32) at its start
abbrev pub trim_front : List ℕ → List ℕ
trim_front [] = []
trim_front (b ∷ rest) = if b == 32 then trim_front rest else b ∷ rest

-- the text without the spaces at its end
abbrev pub trim_back : List ℕ → List ℕ
trim_back bs = reverse (trim_front (reverse bs))

-- the text without the spaces at both ends
abbrev pub trim_spaces : List ℕ → List ℕ
trim_spaces bs = trim_back (trim_front bs)

-- a record's value in a column, without spaces around it; blank if the column is absent
abbrev pub cell : Option ℕ → Record → List ℕ
cell None fields = []
cell (Some i) fields = trim_spaces (unwrap_or (field_at fields i) [])

-- the index of a column if it has this name
abbrev pub named_at : List ℕ → Record → ℕ → Option ℕ
named_at name header i = if bytes_eq name (cell (Some i) header) then Some i else None

-- the index of the first column with this name, if there is one
abbrev pub column : List ℕ → Record → Option ℕ
column name header = first_below (named_at name header) (length header)

-- the index in the header of each of a table's columns
abbrev pub ColumnIndices : Type 0
ColumnIndices = List (Option ℕ)

abbrev pub indices_of : List (List ℕ) → Record → ColumnIndices
indices_of names header = map (λ name. column name header) names

-- all required columns, which come first, are there
abbrev pub has_required : ℕ → ColumnIndices → Bool
has_required required indices = list_all is_some (take required indices)
