-- The rows of targets, one after the other.
use Rattle.std.proofs.Common.{◌≡◌, ℕ, List, [], ◌∷◌, ◌++◌, sym, ◌∙◌, ap}
use Rattle.std.specs.Global.{Vec}
use Rattle.std.specs.List.{AllZip, flat_map}
use Rattle.std.proofs.lemmas.Grind.{flat_map-append}
use Rattle.std.proofs.lemmas.List.{append-nil}
use Rattle.std.proofs.lemmas.Slice.Zip.{all_zipped_more}
use Rattle.matrix_rows.specs.Tables.{AreRowsBy, AreRowsOf}
use Rattle.matrix_rows.specs.declared.table.TravelTable.{TravelTable}

abbrev rows_by : TravelTable → Vec ℕ → List ℕ → Type 0
rows_by table targets part = AreRowsBy table.criterion table targets.items part

pub no_targets : (table : TravelTable) (text : List ℕ) → text ≡ [] → AreRowsOf table [] text
no_targets table text none = record { parts = []; are = tt; text_is = none }

pub target_added : (table : TravelTable) (targets : List (Vec ℕ)) (text part more : List ℕ) (target : Vec ℕ) → AreRowsOf table targets text
    → AreRowsBy table.criterion table target.items part → more ≡ text ++ part → AreRowsOf table (targets ++ target ∷ []) more
target_added table targets text part more target rows is added = record {
  parts = rows.parts ++ part ∷ [];
  are = all_zipped_more (rows_by table) targets rows.parts target part rows.are is;
  text_is = added ∙ ap (λ (z : List ℕ). z ++ part) rows.text_is
      ∙ ap (λ (z : List ℕ). flat_map (λ (p : List ℕ). p) rows.parts ++ z) (sym (append-nil part))
      ∙ sym (flat_map-append (λ (p : List ℕ). p) rows.parts (part ∷ []));
}

-- the rows of targets, and of others after them
all_zipped_append : {A B : Type 0} (R : A → B → Type 0) (xs us : List A) (ys vs : List B) → AllZip R xs ys → AllZip R us vs → AllZip R (xs ++ us) (ys ++ vs)
all_zipped_append R [] us [] vs zipped more = more
all_zipped_append R [] us (y ∷ ys) vs zipped more = absurd zipped
all_zipped_append R (x ∷ xs) us [] vs zipped more = absurd zipped
all_zipped_append R (x ∷ xs) us (y ∷ ys) vs zipped more = (zipped.0, all_zipped_append R xs us ys vs zipped.1 more)

pub targets_joined : (table : TravelTable) (targets others : List (Vec ℕ)) (text rest : List ℕ) → AreRowsOf table targets text → AreRowsOf table others rest
    → AreRowsOf table (targets ++ others) (text ++ rest)
targets_joined table targets others text rest first second = record {
  parts = first.parts ++ second.parts;
  are = all_zipped_append (rows_by table) targets others first.parts second.parts first.are second.are;
  text_is = ap (λ (z : List ℕ). z ++ rest) first.text_is ∙ ap (λ (z : List ℕ). flat_map (λ (p : List ℕ). p) first.parts ++ z) second.text_is
      ∙ sym (flat_map-append (λ (p : List ℕ). p) first.parts second.parts);
}
