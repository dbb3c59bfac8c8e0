-- No words, no labels, and the entry that ends each list.
use Rattle.std.proofs.Common.{◌≡◌, ℕ, zero, suc, ◌<◌, ◌≤◌, nat_lt, List, [], ◌∷◌, length, Contains, slice_get, slice_index}
use Rattle.std.proofs.Common.{Option, Some, refl, sym, ap, ◌∙◌, subst, arith, inl, inr}
use Rattle.std.proofs.lemmas.Bool.{cases_lt, le-ltb, cond-false}
use Rattle.reasoning.proofs.ListLemmas.{not_in_nil, same_at}
use Rattle.criteria.specs.declared.arrival_trips.TimeTrips.{TimeTrips}
use Rattle.fronts.specs.declared.labels.Label.{Label}
use Rattle.lanes.specs.Lanes.{never, AreLanes, labels_from, lane_labels}
use Rattle.lanes.specs.LaneLists.{departure_in, words_in, tags_in, word_tag, next_of, own_points, points_from, IsLinked, AreLists}
use Rattle.lanes.specs.declared.lane_lists.LaneEntry.{LaneEntry}
use Rattle.fronts.proofs.Chains.{none_at_end}
use Rattle.lanes.proofs.LaneLemmas.{label_below}

-- lanes that stand for no labels are never
pub none_words : (tag : ℕ → ℕ) (words : List ℕ) → AreLanes 9 words → lane_labels tag words ≡ [] → (k : ℕ) → k < 9 → slice_index words k ≡ never
none_words tag words are none k lt =
    let long = are.long in
    let most = are.most k lt in
    elim (cases_lt (slice_index words k) never) [
      | inl less ↦
          let l = label_below tag words k (slice_index words k) (omega (arith, lt, long)) (omega arith) less in
          absurd (not_in_nil l.0 (subst (λ (ls : List (Label TimeTrips)). Contains ls l.0) none l.1))
      | inr more ↦ omega (arith, most, more)
    ]

pub no_points : (entries : List LaneEntry) → points_from entries 0 ≡ []
no_points entries = none_at_end (next_of entries) (own_points entries)

-- the entry that ends each list, alone
pub end_lists : (entries : List LaneEntry) (e : LaneEntry) → entries ≡ e ∷ [] → e.departure ≡ 4294967295 → e.next ≡ 0 → length e.tags ≡ 8
    → ((k : ℕ) → k < 9 → slice_index e.front.times k ≡ never) → AreLists entries
end_lists entries e is departs next tagged none =
    subst AreLists (sym is) (record {
      some = omega arith;
      ends = next;
      last = departs;
      none = none;
      back = λ m. omega arith;
      each = λ m f at. subst (IsLinked (e ∷ [])) (only m f at) linked;
    })
  where
    at_end : slice_get (e ∷ []) e.next ≡ Some e
    at_end = ap (slice_get (e ∷ [])) next

    linked : IsLinked (e ∷ []) e
    linked = record {
      tagged = tagged;
      rises = subst (λ (o : Option LaneEntry). e.departure ≤ departure_in o) (sym at_end) (omega arith);
      under = λ k lt. subst (λ (o : Option LaneEntry). slice_index e.front.times k ≤ slice_index (words_in o) k) (sym at_end) (omega arith);
      same = λ k lt equal. subst (λ (o : Option LaneEntry). word_tag e.tags k ≡ word_tag (tags_in o) k) (sym at_end) refl;
    }

    only : (m : ℕ) (f : LaneEntry) → slice_get (e ∷ []) m ≡ Some f → e ≡ f
    only zero f at = same_at (e ∷ []) 0 e f refl at
    only (suc m) f at = absurd cc
