-- Lanes read one after the other.
use Rattle.std.proofs.Common.{◌≡◌, ℕ, ◌+◌, ◌<◌, ◌≤◌, List, [], ◌∷◌, ◌++◌, drop, length, get_or, sym, ap, ◌∙◌, append_assoc, append-nil}
use Rattle.criteria.specs.declared.arrival_trips.TimeTrips.{TimeTrips}
use Rattle.fronts.specs.declared.labels.Label.{Label}
use Rattle.lanes.specs.Lanes.{labels_from}
use Rattle.lanes.proofs.WordLemmas.{labels_next, labels_skip, labels_end}

-- `items` and the labels of the lanes from k on are all labels
module _ (tag : ℕ → ℕ) (k before : ℕ) (lanes : List ℕ) (items all : List (Label TimeTrips))
    (invariant : items ++ labels_from tag k before (drop k lanes) ≡ all) where
  pub read_next : (now : List (Label TimeTrips)) (after : ℕ) → k < length lanes → get_or lanes k 0 < before
      → now ≡ items ++ record { value = record { time = get_or lanes k 0; trips = k }; tag = tag k } ∷ [] → after ≡ get_or lanes k 0
      → now ++ labels_from tag (k + 1) after (drop (k + 1) lanes) ≡ all
  read_next now after below less now_is after_is =
      let here : Label TimeTrips = record { value = record { time = get_or lanes k 0; trips = k }; tag = tag k } in
      let rest = labels_from tag (k + 1) (get_or lanes k 0) (drop (k + 1) lanes) in
      ap (λ b. now ++ labels_from tag (k + 1) b (drop (k + 1) lanes)) after_is
      ∙ ap (λ ls. ls ++ rest) now_is
      ∙ append_assoc items (here ∷ []) rest
      ∙ ap (λ ls. items ++ ls) (sym (labels_next tag k before lanes below less))
      ∙ invariant

  pub read_skip : (now : List (Label TimeTrips)) (after : ℕ) → k < length lanes → before ≤ get_or lanes k 0 → now ≡ items → after ≡ before
      → now ++ labels_from tag (k + 1) after (drop (k + 1) lanes) ≡ all
  read_skip now after below more now_is after_is =
      ap (λ b. now ++ labels_from tag (k + 1) b (drop (k + 1) lanes)) after_is
      ∙ ap (λ ls. ls ++ labels_from tag (k + 1) before (drop (k + 1) lanes)) now_is
      ∙ ap (λ ls. items ++ ls) (sym (labels_skip tag k before lanes below more))
      ∙ invariant

  pub read_all : length lanes ≤ k → items ≡ all
  read_all end = sym (append-nil items) ∙ ap (λ ls. items ++ ls) (sym (labels_end tag k before lanes end)) ∙ invariant
