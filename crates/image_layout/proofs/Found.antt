-- Where a shown footpath stands, and which stop it leads into.
use Rattle.std.proofs.Common.{◌≡◌, ℕ, zero, suc, ◌+◌, ◌-◌, ◌<◌, ◌≤◌, List, length, get_or, Some, refl, sym, ap, ◌∙◌, arith, inl, inr}
use Rattle.std.specs.Prelude.{slice_get}
use Rattle.std.specs.List.{flat_map, range_with_len}
use Rattle.std.proofs.lemmas.Bool.{cases_eq, cases_lt}
use Rattle.std.proofs.lemmas.Option.{slice_get-get_or, slice_get_within, same_Some}
use Rattle.std.proofs.lemmas.List.{get_or_append_left, get_or-append_right}
use Rattle.std.proofs.lemmas.List.FromFn.{length-map-range_with_len, get_or-map-range_with_len}
use Rattle.timetable.specs.declared.network.Footpath.{Footpath}
use Rattle.timetable.specs.declared.network.Connection.{Connection}
use Rattle.image_layout.specs.Offsets.{header_of, IsWhole}
use Rattle.image_layout.specs.Fields.{foot_index_of}
use Rattle.image_layout.specs.Shown.{connection_of, connections_of, footpath_of, footpaths_into, footpaths_of}
use Rattle.image_layout.proofs.Feet.{IsFootIndex, index_rises}
use Rattle.image_layout.proofs.Whole.{length-connections_of, length-footpaths_of, connection_is}

-- at index i of the shown connections stands the one of the six words there
pub connection_shown : (w : List ℕ) (i : ℕ) (c : Connection) → slice_get (connections_of w) i ≡ Some c
    → (i < (header_of w).connections) × (c ≡ connection_of w i)
connection_shown w i c e =
    let within : i < length (connections_of w) = slice_get_within (connections_of w) i c e in
    let lt : i < (header_of w).connections = omega (arith, length-connections_of w) in
    (lt, same_Some c (connection_of w i) (sym e ∙ connection_is w i lt))

found_from : (w : List ℕ) (s j : ℕ) (d : Footpath) (n a : ℕ) → ((t : ℕ) → t < a + n → foot_index_of w t ≤ foot_index_of w (t + 1)) → a ≤ s → s < a + n
    → foot_index_of w s ≤ foot_index_of w a + j → foot_index_of w a + j < foot_index_of w (s + 1)
    → get_or (flat_map (footpaths_into w) (range_with_len a n)) j d ≡ footpath_of w s (foot_index_of w a + j)
found_from w s j d zero a rises le lt low high = absurd (omega arith)
found_from w s j d (suc n) a rises le lt low high =
    let first = foot_index_of w a in
    let next = foot_index_of w (a + 1) in
    let b : ℕ = next - first in
    let up : first ≤ next = rises a (omega arith) in
    let block = footpaths_into w a in
    let rest = flat_map (footpaths_into w) (range_with_len (a + 1) n) in
    let size : length block ≡ b = length-map-range_with_len (footpath_of w a) first b in
    elim (cases_eq a s) [
      | inl same ↦
          let end : foot_index_of w (s + 1) ≡ next = ap (λ (x : ℕ). foot_index_of w (x + 1)) (sym same) in
          get_or_append_left block rest d j (omega arith)
          ∙ get_or-map-range_with_len (footpath_of w a) first b j (first + j) d (omega arith) refl
          ∙ ap (λ (x : ℕ). footpath_of w x (first + j)) same
      | inr other ↦
          let far : next ≤ foot_index_of w s =
          (let k : (a + 1) + (s - (a + 1)) ≡ s = omega arith in
          let at : foot_index_of w ((a + 1) + (s - (a + 1))) ≡ foot_index_of w s = ap (λ (x : ℕ). foot_index_of w x) k in
          let h = index_rises w (s - (a + 1)) (a + 1) (λ t below. rises t (omega arith)) in omega (arith, at, h)) in
          let q : next + (j - b) ≡ first + j = omega arith in
          get_or-append_right block rest b j d size (omega arith)
          ∙ found_from w s (j - b) d n (a + 1) (λ t below. rises t (omega arith)) (omega arith) (omega arith) (omega arith) (omega arith)
          ∙ ap (λ (x : ℕ). footpath_of w s x) q
    ]

-- at each index among those into stop s stands the footpath of the two words there, into s
pub footpath_is : (w : List ℕ) (s k : ℕ) → IsWhole w → IsFootIndex w → s < (header_of w).stops → foot_index_of w s ≤ k
    → k < foot_index_of w (s + 1) → slice_get (footpaths_of w) k ≡ Some (footpath_of w s k)
unfolding footpaths_of
footpath_is w s k whole feet lt low high =
    let stops = (header_of w).stops in
    let start : foot_index_of w 0 + k ≡ k = omega (arith, feet.start) in
    let last : foot_index_of w (s + 1) ≤ foot_index_of w stops =
    (let q : (s + 1) + (stops - (s + 1)) ≡ stops = omega arith in
    let at : foot_index_of w ((s + 1) + (stops - (s + 1))) ≡ foot_index_of w stops = ap (λ (x : ℕ). foot_index_of w x) q in
    let h = index_rises w (stops - (s + 1)) (s + 1) (λ t below. feet.rises t (omega arith)) in omega (arith, at, h)) in
    slice_get-get_or (footpaths_of w) k (footpath_of w s k) (omega (arith, last, feet.end, length-footpaths_of w whole feet))
    ∙ ap Some (found_from w s k (footpath_of w s k) stops 0 (λ t below. feet.rises t (omega arith)) (omega arith)
    (omega arith) (omega (arith, feet.start)) (omega (arith, feet.start)) ∙ ap (λ (x : ℕ). footpath_of w s x) start)

-- the stop whose footpaths have an index among them
pub record IsStopOf (w : List ℕ) (k s : ℕ) : Type 0 where
  pub stop : s < (header_of w).stops
  pub start : foot_index_of w s ≤ k
  pub end : k < foot_index_of w (s + 1)

stop_below : (w : List ℕ) (k n : ℕ) → foot_index_of w 0 ≤ k → k < foot_index_of w n → n ≤ (header_of w).stops → (s : ℕ) × IsStopOf w k s
stop_below w k zero low high le = absurd (omega arith)
stop_below w k (suc n) low high le =
    elim (cases_lt k (foot_index_of w n)) [
      | inl lt ↦ stop_below w k n low lt (omega arith)
      | inr ge ↦ (n, record { stop = omega arith; start = ge; end = (let e : n + 1 ≡ suc n = omega arith in rw e high) })
    ]

-- at index k of the shown footpaths stands the one of the two words there, into the stop whose index it is
pub footpath_shown : (w : List ℕ) (k : ℕ) (f : Footpath) → IsWhole w → IsFootIndex w
    → slice_get (footpaths_of w) k ≡ Some f → (s : ℕ) × IsStopOf w k s × (f ≡ footpath_of w s k)
footpath_shown w k f whole feet e =
    let within : k < length (footpaths_of w) = slice_get_within (footpaths_of w) k f e in
    let lt : k < foot_index_of w (header_of w).stops = omega (arith, feet.end, length-footpaths_of w whole feet) in
    let found = stop_below w k (header_of w).stops (omega (arith, feet.start)) lt (omega arith) in
    (found.0, found.1, same_Some f (footpath_of w found.0 k) (sym e ∙ footpath_is w found.0 k whole feet found.1.stop found.1.start found.1.end))
