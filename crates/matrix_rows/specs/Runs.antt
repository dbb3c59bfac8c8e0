-- The rows of a run of targets, as several threads made them.
use Rattle.std.specs.Prelude.{◌≡◌, ℕ, List, Some, Contains, slice_get}
use Rattle.std.specs.Global.{Vec}
use Rattle.matrix_rows.specs.Tables.{AreRowsBy}
use Rattle.matrix_rows.specs.declared.table.TravelTable.{TravelTable}
use Rattle.matrix_rows.specs.declared.turns.TargetRows.{TargetRows}

-- each text has the rows of the target with its index
abbrev pub AreRowsIn : TravelTable → List (Vec ℕ) → List TargetRows → Type 0
AreRowsIn table run made = (rows : TargetRows) → Contains made rows → (set : Vec ℕ) → slice_get run rows.index ≡ Some set
    → AreRowsBy table.criterion table set.items rows.text.items

-- the same of what each thread made
abbrev pub AreMade : TravelTable → List (Vec ℕ) → List (Vec TargetRows) → Type 0
AreMade table run made = (k : ℕ) (part : Vec TargetRows) → slice_get made k ≡ Some part → AreRowsIn table run part.items

-- a text is there for the target with an index
pub record HasText (made : List TargetRows) (index : ℕ) (text : List ℕ) : Type 0 where
  pub rows : TargetRows
  pub there : Contains made rows
  pub at : rows.index ≡ index
  pub text_is : text ≡ rows.text.items
