-- The names of stops on one side of a profile.
use Rattle.std.specs.Prelude.{◌≡◌, ◌≢◌, ◌≤◌, ℕ, List, [], ◌∷◌, length, map, Bool, true, Some, AllPairs}
use Rattle.std.specs.Borrow.{Bor}
use Rattle.serde_json.specs.Data.{Data, string, array, Items, no_items, item}
use Rattle.serde_json.specs.Find.{as_str, get}
use Rattle.session_texts.specs.declared.names.RequestFault.{RequestFault}

-- an array has these texts
abbrev pub AreTexts : Items → List (List ℕ) → Type 0
AreTexts no_items [] = Unit {0}
AreTexts (item d ds) (text ∷ texts) = (as_str d ≡ Some text) × AreTexts ds texts
AreTexts _ _ = ⊥

-- a value gives these names: a text is one name; an array of texts is as many, if `sets` says that arrays are read
abbrev pub GivesNames : Bool → Data → List (List ℕ) → Type 0
GivesNames sets (string name) names = names ≡ name ∷ []
GivesNames true (array ds) names = AreTexts ds names
GivesNames _ _ names = ⊥

-- names of the stops of a side: one, or up to a thousand, each once
pub record IsSide (names : List (List ℕ)) : Type 0 where
  pub some : 1 ≤ length names
  pub few : length names ≤ 1_000
  pub once : AllPairs ◌≢◌ names

-- the value gives the names of the stops of a side
abbrev pub NamesSide : Bool → Data → List (List ℕ) → Type 0
NamesSide sets d names = GivesNames sets d names × IsSide names

-- the value under the key names the stops of a side
pub record AreNamesAt (sets : Bool) (key : List ℕ) (d : Data) (names : List (List ℕ)) : Type 0 where
  pub value : Data
  pub stands : get key d ≡ Some value
  pub side : NamesSide sets value names

-- texts as bytes
abbrev pub shown : List (Bor (List ℕ)) → List (List ℕ)
shown texts = map (λ text. text.now) texts

-- the fault of a value for which there is none of these
abbrev pub Unless : Type 0 → RequestFault → Type 0
Unless none RequestFault.BadRequest = none
Unless none RequestFault.OutOfMemory = Unit {0}
