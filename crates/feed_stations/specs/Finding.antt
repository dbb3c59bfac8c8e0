-- Which stops have a text in their id or their name.
use Rattle.std.specs.Prelude.{◌≡◌, ◌<◌, ◌⊎◌, ℕ, List, [], ◌++◌, Bool, false, MatchBool, Option, Some, None, length, string_bytes}
use Rattle.std.specs.List.{slice_get, slice_index_or}
use Rattle.gtfs_rows.specs.declared.rows.StopRow.{StopRow}
use Rattle.feed_stations.specs.Folding.{folded}
use Rattle.feed_stations.specs.declared.labels.StopLabel.{StopLabel}

-- the text is somewhere in the name
abbrev pub IsIn : List ℕ → List ℕ → Type 0
IsIn text name = (before : List ℕ) × (after : List ℕ) × (name ≡ (before ++ text) ++ after)

-- the stop_id of a row, if there is one
abbrev pub id_of : Option StopRow → List ℕ
id_of None = []
id_of (Some row) = string_bytes row.id

-- the name and the platform code of a label, if there is one
abbrev pub name_of : Option StopLabel → List ℕ
name_of None = []
name_of (Some label) = string_bytes label.name

abbrev pub platform_of : Option StopLabel → List ℕ
platform_of None = []
platform_of (Some label) = string_bytes label.platform

-- a folded text is in an id or in a name, once they are folded
abbrev pub IsInEither : List ℕ → List ℕ → List ℕ → Type 0
IsInEither text id name = IsIn text (folded id) ⊎ IsIn text (folded name)

-- the text is in the id or the name of the row at an index, without regard to case and accents
abbrev pub IsFoundAt : List StopRow → List StopLabel → List ℕ → ℕ → Type 0
IsFoundAt rows labels text k = IsInEither (folded text) (id_of (slice_get rows k)) (name_of (slice_get labels k))

-- of the indices below n, those that this holds of are marked
abbrev pub AreMarks : (ℕ → Type 0) → ℕ → List Bool → Type 0
AreMarks P n marks = (length marks ≡ n) × ((k : ℕ) → k < n → MatchBool (slice_index_or marks k false) (P k) (¬ (P k)))
