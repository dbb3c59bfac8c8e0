-- Names and platform codes in the records of stops.txt.
use Rattle.std.specs.Prelude.{◌≡◌, ◌⊎◌, ℕ, List, [], ◌∷◌, Option, IsUtf8, codes, string_bytes}
use Rattle.std.specs.List.{AllZip}
use Rattle.gtfs_rows.specs.Cells.{cell, column}
use Rattle.gtfs_rows.specs.Source.{Record, table_records}
use Rattle.feed_stations.specs.declared.labels.StopLabel.{StopLabel}

-- the text that bytes spell; blank if they spell none
abbrev pub IsTextOf : List ℕ → List ℕ → Type 0
IsTextOf bytes text = (IsUtf8 bytes × (text ≡ bytes)) ⊎ ((¬ (IsUtf8 bytes)) × (text ≡ []))

-- the label has a record's values in the two columns
pub record IsStopLabel (names platforms : Option ℕ) (r : Record) (label : StopLabel) : Type 0 where
  pub name_is : IsTextOf (cell names r) (string_bytes label.name)
  pub platform_is : IsTextOf (cell platforms r) (string_bytes label.platform)

abbrev pub name_column : Record → Option ℕ
name_column header = column (codes "stop_name") header

abbrev pub platform_column : Record → Option ℕ
platform_column header = column (codes "platform_code") header

-- there is a label for each record after the header
abbrev pub AreLabelsOf : List Record → List StopLabel → Type 0
AreLabelsOf [] labels = labels ≡ []
AreLabelsOf (header ∷ records) labels = AllZip (IsStopLabel (name_column header) (platform_column header)) records labels

-- the labels are those of the bytes of stops.txt
abbrev pub AreLabels : List ℕ → List StopLabel → Type 0
AreLabels bytes labels = AreLabelsOf (table_records bytes) labels
