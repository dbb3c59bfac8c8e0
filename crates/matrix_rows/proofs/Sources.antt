-- The rows of sets of sources, one after the other.
use Rattle.std.proofs.Common.{◌≡◌, ◌∙◌, ℕ, Bool, List, [], ◌∷◌, ◌++◌, ap, refl, subst, sym}
use Rattle.std.specs.Global.{Vec}
use Rattle.std.specs.List.{flat_map}
use Rattle.std.proofs.lemmas.Grind.{flat_map-append}
use Rattle.std.proofs.lemmas.List.{append-nil}
use Rattle.std.proofs.lemmas.Slice.Zip.{all_zipped_more}
use Rattle.criteria.specs.Laws.{Rules}
use Rattle.criteria.specs.declared.figures.Figures.{Figures}
use Rattle.image_layout.specs.Image.{ImageValue}
use Rattle.scan_state.specs.SetQuery.{SetQueryValue}
use Rattle.matrix_rows.specs.Tables.{AreRows, AreRowsFrom, AreRowsTo, Meet, from_stops}

module _ {V : Type 0} (figures : V → Figures) (rules : Rules V) (each : Bool) (image : ImageValue) (d : SetQueryValue) where
  pub no_rows : (text : List ℕ) → text ≡ [] → AreRowsTo figures rules each image d [] text
  no_rows text none = record { parts = []; are = tt; text_is = none }

  -- what is written for one set more
  set_added : (set : Vec ℕ) (sets : List (Vec ℕ)) (text part more : List ℕ) → AreRowsTo figures rules each image d sets text
      → AreRowsFrom figures rules each image d set.items part → more ≡ text ++ part → AreRowsTo figures rules each image d (sets ++ set ∷ []) more
  set_added set sets text part more rows is added = record {
    parts = rows.parts ++ part ∷ [];
    are = all_zipped_more (λ (s : Vec ℕ) (p : List ℕ). AreRowsFrom figures rules each image d s.items p) sets rows.parts set part rows.are is;
    text_is = added ∙ ap (λ (z : List ℕ). z ++ part) rows.text_is
        ∙ ap (λ (z : List ℕ). flat_map (λ (p : List ℕ). p) rows.parts ++ z) (sym (append-nil part))
        ∙ sym (flat_map-append (λ (p : List ℕ). p) rows.parts (part ∷ []));
  }

  -- a set that has a target has none
  pub set_skipped : (set : Vec ℕ) (stops : List ℕ) (sets : List (Vec ℕ)) (text : List ℕ) → set.items ≡ stops → Meet stops d.targets
      → AreRowsTo figures rules each image d sets text → AreRowsTo figures rules each image d (sets ++ set ∷ []) text
  set_skipped set stops sets text same met rows =
      set_added set sets text [] text rows
      (subst (λ (s : List ℕ). AreRowsFrom figures rules each image d s []) (sym same)
      (record { none = λ _. refl; rows = λ apart. absurd (apart met) }))
      (sym (append-nil text))

  -- another set has these
  pub set_has_rows : (set : Vec ℕ) (stops : List ℕ) (sets : List (Vec ℕ)) (text part more : List ℕ) → set.items ≡ stops → (Meet stops d.targets → ⊥)
      → AreRowsTo figures rules each image d sets text → AreRows figures rules each image (from_stops d stops) part → more ≡ text ++ part
      → AreRowsTo figures rules each image d (sets ++ set ∷ []) more
  set_has_rows set stops sets text part more same apart rows is added =
      set_added set sets text part more rows
      (subst (λ (s : List ℕ). AreRowsFrom figures rules each image d s part) (sym same)
      (record { none = λ met. absurd (apart met); rows = λ _. is }))
      added
