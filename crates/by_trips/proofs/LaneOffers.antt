-- What the labels of a trip in lanes take in.
use Rattle.std.proofs.Common.{◌≡◌, ◌⊎◌, ℕ, ◌+◌, ◌≤◌, List, Contains, inl, inr, refl, sym, ap, subst, arith}
use Rattle.criteria.specs.Laws.{Admits, NoWorse}
use Rattle.criteria.specs.declared.arrival_trips.TimeTrips.{TimeTrips}
use Rattle.bags.specs.Dominance.{IsCovered}
use Rattle.bags.specs.declared.point.Point.{Point}
use Rattle.fronts.specs.declared.labels.Label.{Label}
use Rattle.lanes.specs.Lanes.{trip_rules, lane_labels, IsBeaten, IsOutdone}
use Rattle.lanes.specs.TripLanes.{AllBeaten}
use Rattle.lanes.proofs.LaneLemmas.{stands, is_label, no_worse_parts, no_worse_from}
use Rattle.lanes.proofs.EntryLemmas.{from_map, into_map}
use Rattle.scan_state.specs.Matching.{Spellings}
use Rattle.scan_state.specs.Steps.{IsOffered, TakesInBut}
use Rattle.scan_state.specs.Bound.{Excludes}
use Rattle.scan_state.specs.Adding.{changes_from, label_points, one_way}
use Rattle.scan_state.specs.ScanRecords.{IsExit}
use Rattle.scan_state.specs.declared.scan_records.Exit.TheVariants.{Changes}
use Rattle.scan_state.proofs.Offers.{but_then, sure}

-- a label as a point
abbrev pub as_point : Label TimeTrips → Point TimeTrips
as_point l = record { departure = 0; value = l.value; tag = l.tag }

-- the label of the same lane, with its tag by another rule
pub retagged : (tag other : ℕ → ℕ) (words : List ℕ) (l : Label TimeTrips) → Contains (lane_labels tag words) l
    → Contains (lane_labels other words) (record { value = l.value; tag = other l.value.trips })
retagged tag other words l is =
    let s = stands tag words l is in
    is_label other words (record { value = l.value; tag = other l.value.trips })
    (record { below = s.below; at = s.at; less = s.less; first = s.first; tagged = refl })

pub covers_trans : (a b c : TimeTrips) → NoWorse trip_rules a b → NoWorse trip_rules b c → NoWorse trip_rules a c
covers_trans a b c ab bc =
    let p = no_worse_parts a b ab in
    let q = no_worse_parts b c bc in
    no_worse_from a c (omega (arith, p, q)) (omega (arith, p, q))

-- riding keeps the order
pub ride_trans : (a v w : TimeTrips) → NoWorse trip_rules a (trip_rules.ride v) → NoWorse trip_rules v w → NoWorse trip_rules a (trip_rules.ride w)
ride_trans a v w first second =
    let p = no_worse_parts a (trip_rules.ride v) first in
    let q = no_worse_parts v w second in
    no_worse_from a (trip_rules.ride w) (omega (arith, p, q)) (omega (arith, p, q))

-- labels that beat a value cover it, as points
pub beaten_covers : (labels : List (Label TimeTrips)) (v : TimeTrips) → IsBeaten labels v → IsCovered trip_rules (label_points labels) 0 v
beaten_covers labels v (l, is, no_worse) = (as_point l, into_map as_point labels l is, omega arith, no_worse)

pub kept_covers : (old new : List (Label TimeTrips)) → ((l : Label TimeTrips) → Contains old l → IsBeaten new l.value)
    → (departure : ℕ) (v : TimeTrips) → IsCovered trip_rules (label_points old) departure v → IsCovered trip_rules (label_points new) departure v
kept_covers old new kept departure v (p, is, late, no_worse) =
    let l = from_map as_point old p is in
    let b = kept l.0 l.1 in
    let value = ap (λ (q : Point TimeTrips). q.value) l.2 in
    let zero_is = ap (λ (q : Point TimeTrips). q.departure) l.2 in
    let worse : NoWorse trip_rules l.0.value v = subst (λ (w : TimeTrips). NoWorse trip_rules w v) (sym value) no_worse in
    (as_point b.0, into_map as_point new b.0 b.1, omega (arith, late, zero_is), covers_trans b.0.value l.0.value v b.2 worse)

-- labels take in the changes to the points of a stop: `words` and `tags` are of a front that stands for these points from a time on, but for those missed
module _ (words : List ℕ) (tags : ℕ → ℕ) (first time last : ℕ) (bag : List (Point TimeTrips)) (bound old new : List (Label TimeTrips))
    (values : List TimeTrips) (spell : Spellings) (Missed : Point TimeTrips → Type 0)
    (made_of : (l : Label TimeTrips) → Contains (lane_labels tags words) l
    → (p : Point TimeTrips) × Contains bag p × (time ≤ p.departure) × (p.value ≡ l.value) × (p.tag ≡ l.tag))
    (betters : (p : Point TimeTrips) → Contains bag p → time ≤ p.departure → IsBeaten (lane_labels tags words) p.value ⊎ Missed p)
    (admitted : (p : Point TimeTrips) → Contains bag p → Admits trip_rules p.value)
    (only : (l : Label TimeTrips) → Contains new l
    → Contains old l ⊎ (Contains (lane_labels (λ k. first + k) words) l × IsExit spell (Changes last (tags l.value.trips)) l.tag))
    (kept : (l : Label TimeTrips) → Contains old l → IsBeaten new l.value)
    (taken : AllBeaten bound new (lane_labels (λ k. first + k) words))
    (excludes : (v : TimeTrips) → Admits trip_rules v → IsOutdone bound v → Excludes trip_rules values v) where
  change_offered : (l : Label TimeTrips) → Contains (lane_labels (λ k. first + k) words) l → IsExit spell (Changes last (tags l.value.trips)) l.tag
      → IsOffered (changes_from {V = TimeTrips} spell last time bag) (as_point l)
  change_offered l is spells =
      let q = made_of (record { value = l.value; tag = tags l.value.trips }) (retagged (λ k. first + k) tags words l is) in
      record {
        way = q.0;
        is_open = (q.1, q.2);
        departs = refl;
        worth = sym q.3;
        fits = subst (λ n. IsExit spell (Changes last n) l.tag) (sym q.4) spells;
      }

  pub changes_taken : TakesInBut trip_rules (λ p. Excludes trip_rules values p.value ⊎ Missed p) (changes_from spell last time bag) (label_points old)
      (label_points new)
  changes_taken = record {
    only = λ p h.
        let l = from_map as_point new p h in
        elim (only l.0 l.1) [
          | inl was ↦ inl (subst (Contains (label_points old)) l.2 (into_map as_point old l.0 was))
          | inr offered ↦ inr (subst (IsOffered (changes_from {V = TimeTrips} spell last time bag)) l.2 (change_offered l.0 offered.0 offered.1))
        ];
    kept = λ departure v a c. kept_covers old new kept departure v c;
    covered = λ p opened. elim (betters p opened.0 opened.1) [
      | inl b ↦
          let twin = retagged tags (λ k. first + k) words b.0 b.1 in
          elim (taken (record { value = b.0.value; tag = first + b.0.value.trips }) twin) [
            | inl beaten ↦ inl (beaten_covers new p.value (beaten.0, beaten.1, covers_trans beaten.0.value b.0.value p.value beaten.2 b.2))
            | inr outdone ↦ inr (inl (excludes p.value (admitted p opened.0)
                (outdone.0, outdone.1, ride_trans outdone.0.value b.0.value p.value outdone.2 b.2)))
          ]
      | inr missed ↦ inr (inr missed)
    ];
  }

-- what was missed is no better than a point that is offered then
pub with_missed : (Excused Missed : Point TimeTrips → Type 0) (tags : Spellings) (i time : ℕ) (xs : List (Point TimeTrips))
    {old mid new : List (Point TimeTrips)}
    → ((p : Point TimeTrips) → Contains xs p → Admits trip_rules p.value) → (q : Point TimeTrips) → Contains xs q → time ≤ q.departure
    → ((p : Point TimeTrips) → Missed p → NoWorse trip_rules q.value p.value)
    → TakesInBut trip_rules (λ p. Excused p ⊎ Missed p) (changes_from tags i time xs) old mid
    → TakesInBut trip_rules (λ _. ⊥) (one_way 0 q.value (IsExit tags (Changes i q.tag))) mid new
    → TakesInBut trip_rules Excused (changes_from tags i time xs) old new
with_missed Excused Missed tags i time xs admitted q is late better first second =
    but_then trip_rules (λ p opened. record { there = p; is_open = opened; departs = refl; worth = refl; fits = λ tag h. h })
    (λ way opened. record { there = q; is_open = (is, late); departs = refl; worth = refl; fits = λ tag h. h })
    (λ p opened. elim (first.covered p opened) [
      | inl c ↦ inl (second.kept 0 p.value (admitted p opened.0) c)
      | inr (inl excused) ↦ inr excused
      | inr (inr missed) ↦ let c = sure (second.covered tt tt) in inl (c.0, c.1, c.2, covers_trans c.0.value q.value p.value c.3 (better p missed))
    ]) first second
