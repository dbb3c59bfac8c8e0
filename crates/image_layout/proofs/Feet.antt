-- The footpaths that words show spell the index and the section of these words.
use Rattle.std.proofs.Common.{◌≡◌, ℕ, zero, suc, ◌+◌, ◌-◌, ◌*◌, ◌<◌, ◌≤◌, Bool, true, false, cond, ltb, List, [], ◌∷◌}
use Rattle.std.proofs.Common.{◌++◌, length, get_or, take, drop, map, refl, sym, ap, ◌∙◌, arith, inl, inr, add-zero}
use Rattle.std.specs.List.{flat_map, range_with_len}
use Rattle.std.proofs.Math.Seq.{take-add}
use Rattle.std.proofs.lemmas.Bool.{cases_eq, lt-ltb, le-ltb}
use Rattle.std.proofs.lemmas.List.{drop-drop, length-take, length-drop, get_or-take, get_or-drop}
use Rattle.std.proofs.lemmas.List.Concat.{flat_map-append}
use Rattle.std.proofs.lemmas.List.FromFn.{fill_by_all}
use Rattle.std.proofs.lemmas.List.Sums.{sum_by-append, sum_by-cons}
use Rattle.timetable.specs.declared.network.Footpath.{Footpath}
use Rattle.image_layout.specs.Offsets.{header_of, foot_index_offset, footpath_offset, IsWhole}
use Rattle.image_layout.specs.Fields.{foot_index_of}
use Rattle.image_layout.specs.Spelling.{footpath_count_below, footpath_words}
use Rattle.image_layout.specs.Shown.{footpath_of, footpaths_into, footpaths_of}
use Rattle.image_layout.proofs.Sections.{pieces_are, take_next}

-- the index of the footpaths begins with 0, never falls, and ends with their number
pub record IsFootIndex (w : List ℕ) : Type 0 where
  pub start : foot_index_of w 0 ≡ 0
  pub rises : (s : ℕ) → s < (header_of w).stops → foot_index_of w s ≤ foot_index_of w (s + 1)
  pub end : foot_index_of w (header_of w).stops ≡ (header_of w).footpaths

cond_zero : (b : Bool) → cond {A = ℕ} b 0 0 ≡ 0
cond_zero true = refl
cond_zero false = refl

cond_more : (b : Bool) (n : ℕ) → cond {A = ℕ} b 1 0 + cond b n 0 ≡ cond b (suc n) 0
cond_more true n = omega arith
cond_more false n = refl

-- one for a footpath that leads below s
abbrev one_below : ℕ → Footpath → ℕ
one_below s f = cond (ltb f.to s) 1 0

-- the footpaths into one stop all lead below s, or none does
count_into : (w : List ℕ) (s stop n k : ℕ) → footpath_count_below (map (footpath_of w stop) (range_with_len k n)) s ≡ cond (ltb stop s) n 0
count_into w s stop zero k = sym (cond_zero (ltb stop s))
count_into w s stop (suc n) k =
    sum_by-cons (one_below s) (footpath_of w stop k) (map (footpath_of w stop) (range_with_len (k + 1) n))
    ∙ ap (λ (x : ℕ). cond (ltb stop s) 1 0 + x) (count_into w s stop n (k + 1))
    ∙ cond_more (ltb stop s) n

-- of the stops from s on, none leads below s
count_none : (w : List ℕ) (s n a : ℕ) → s ≤ a → footpath_count_below (flat_map (footpaths_into w) (range_with_len a n)) s ≡ 0
count_none w s zero a le = refl
count_none w s (suc n) a le =
    let one : footpath_count_below (footpaths_into w a) s ≡ 0 =
    count_into w s a (foot_index_of w (a + 1) - foot_index_of w a) (foot_index_of w a)
    ∙ ap (λ (b : Bool). cond b (foot_index_of w (a + 1) - foot_index_of w a) 0) (le-ltb a s le) in
    let rest : footpath_count_below (flat_map (footpaths_into w) (range_with_len (a + 1) n)) s ≡ 0 = count_none w s n (a + 1) (omega arith) in
    sum_by-append (one_below s) (footpaths_into w a) (flat_map (footpaths_into w) (range_with_len (a + 1) n)) ∙ omega (arith, one, rest)

-- of the stops from a on, the footpaths into those below s
count_from : (w : List ℕ) (s n a : ℕ) → ((t : ℕ) → t < a + n → foot_index_of w t ≤ foot_index_of w (t + 1)) → a ≤ s → s ≤ a + n
    → footpath_count_below (flat_map (footpaths_into w) (range_with_len a n)) s + foot_index_of w a ≡ foot_index_of w s
count_from w s zero a rises le ge =
    let same : a ≡ s = omega arith in
    let at : foot_index_of w a ≡ foot_index_of w s = ap (λ (x : ℕ). foot_index_of w x) same in
    omega (arith, at)
count_from w s (suc n) a rises le ge =
    let split = sum_by-append (one_below s) (footpaths_into w a) (flat_map (footpaths_into w) (range_with_len (a + 1) n)) in
    let block = count_into w s a (foot_index_of w (a + 1) - foot_index_of w a) (foot_index_of w a) in
    elim (cases_eq a s) [
      | inl same ↦
          let none = count_none w s (suc n) a (omega arith) in
          let at : foot_index_of w a ≡ foot_index_of w s = ap (λ (x : ℕ). foot_index_of w x) same in
          omega (arith, none, at)
      | inr other ↦
          let one : footpath_count_below (footpaths_into w a) s ≡ foot_index_of w (a + 1) - foot_index_of w a =
          block ∙ ap (λ (b : Bool). cond b (foot_index_of w (a + 1) - foot_index_of w a) 0)
          (lt-ltb a s (omega arith)) in
          let rest = count_from w s n (a + 1) (λ t lt. rises t (omega arith)) (omega arith) (omega arith) in
          let up : foot_index_of w a ≤ foot_index_of w (a + 1) = rises a (omega arith) in
          omega (arith, split, one, rest, up)
    ]

-- the index that the shown footpaths have is the section of words
pub foot_index_again : (w : List ℕ) → IsWhole w → IsFootIndex w
    → map (footpath_count_below (footpaths_of w)) (range_with_len 0 ((header_of w).stops + 1))
    ≡ take ((header_of w).stops + 1) (drop (foot_index_offset (header_of w)) w)
unfolding footpaths_of
foot_index_again w whole index =
    let stops = (header_of w).stops in
    let position = foot_index_offset (header_of w) in
    let section : List ℕ = take (stops + 1) (drop position w) in
    let long : length section ≡ stops + 1 = omega (arith, length-take (stops + 1) (drop position w), length-drop position w, whole.all_there) in
    sym (fill_by_all (footpath_count_below (footpaths_of w)) section (stops + 1) 0 long (λ s lt.
    let counted = count_from w s stops 0 (λ t below. index.rises t (omega arith)) (omega arith) (omega arith) in
    let word : get_or section s 0 ≡ foot_index_of w s = get_or-take (stops + 1) (drop position w) s 0 lt ∙ get_or-drop position w s 0 in
    word ∙ omega (arith, counted, index.start)))

-- the words of a footpath
take_two : (w : List ℕ) (p : ℕ) → p + 1 < length w → take 2 (drop p w) ≡ get_or w p 0 ∷ get_or w (p + 1) 0 ∷ []
take_two w p lt = take_next w 1 p (omega arith) ∙ ap (λ (x : List ℕ). get_or w p 0 ∷ x) (take_next w 0 (p + 1) (omega arith))

pub index_rises : (w : List ℕ) (n a : ℕ) → ((t : ℕ) → t < a + n → foot_index_of w t ≤ foot_index_of w (t + 1)) → foot_index_of w a ≤ foot_index_of w (a + n)
index_rises w zero a rises = let e : a + 0 ≡ a = omega arith in rw e (omega arith)
index_rises w (suc n) a rises =
    let e : a + suc n ≡ (a + 1) + n = omega arith in
    let rest = index_rises w n (a + 1) (λ t lt. rises t (omega arith)) in
    let up : foot_index_of w a ≤ foot_index_of w (a + 1) = rises a (omega arith) in
    rw e (omega (arith, rest, up))

-- the footpaths into one stop spell their words
feet_into : (w : List ℕ) (s n k : ℕ) → IsWhole w → k + n ≤ (header_of w).footpaths
    → flat_map footpath_words (map (footpath_of w s) (range_with_len k n)) ≡ take (2 * n) (drop (footpath_offset (header_of w) + 2 * k) w)
feet_into w s n k whole within =
    pieces_are footpath_words (footpath_of w s) 2 w n k (footpath_offset (header_of w) + 2 * k) (λ i lt.
    let position : footpath_offset (header_of w) + 2 * (k + i) ≡ (footpath_offset (header_of w) + 2 * k) + 2 * i = omega arith in
    let room : footpath_offset (header_of w) + 2 * (k + i) + 1 < length w = omega (arith, whole.all_there) in
    sym (take_two w (footpath_offset (header_of w) + 2 * (k + i)) room) ∙ ap (λ (x : ℕ). take 2 (drop x w)) position)

-- the footpaths into the stops from a on spell their words
feet_from : (w : List ℕ) (n a m : ℕ) → IsWhole w → ((t : ℕ) → t < a + n → foot_index_of w t ≤ foot_index_of w (t + 1))
    → foot_index_of w a + m ≡ foot_index_of w (a + n) → foot_index_of w (a + n) ≤ (header_of w).footpaths
    → flat_map footpath_words (flat_map (footpaths_into w) (range_with_len a n)) ≡ take (2 * m) (drop (footpath_offset (header_of w) + 2 * foot_index_of w a) w)
feet_from w zero a m whole rises long within =
    let e : foot_index_of w (a + 0) ≡ foot_index_of w a = ap (λ (x : ℕ). foot_index_of w x) (add-zero a) in
    let none : 2 * m ≡ 0 = omega (arith, e) in
    rw none refl
feet_from w (suc n) a m whole rises long within =
    let position = footpath_offset (header_of w) in
    let first = foot_index_of w a in
    let next = foot_index_of w (a + 1) in
    let b : ℕ = next - first in
    let e : foot_index_of w (a + suc n) ≡ foot_index_of w ((a + 1) + n) =
    (let k : a + suc n ≡ (a + 1) + n = omega arith in ap (λ (x : ℕ). foot_index_of w x) k) in
    let up : first ≤ next = rises a (omega arith) in
    let far : next ≤ foot_index_of w ((a + 1) + n) = index_rises w n (a + 1) (λ t lt. rises t (omega arith)) in
    let block = feet_into w a b first whole (omega (arith, e)) in
    let rest = feet_from w n (a + 1) (m - b) whole (λ t lt. rises t (omega arith)) (omega (arith, e)) (omega (arith, e)) in
    let q : position + 2 * next ≡ (position + 2 * first) + 2 * b = omega arith in
    let many : 2 * m ≡ 2 * b + 2 * (m - b) = omega (arith, e) in
    let whole_is : take (2 * m) (drop (position + 2 * first) w) ≡ take (2 * b) (drop (position + 2 * first) w) ++ take (2 * (m - b))
    (drop (position + 2 * next) w) =
    ap (λ (x : ℕ). take x (drop (position + 2 * first) w)) many ∙ take-add (2 * b) (2 * (m - b)) (drop (position + 2 * first) w)
    ∙ ap (λ (x : List ℕ). take (2 * b) (drop (position + 2 * first) w)
    ++ take (2 * (m - b)) x) (drop-drop (2 * b) (position + 2 * first) w ∙ ap (λ (x : ℕ). drop x w) (sym q)) in
    flat_map-append footpath_words (footpaths_into w a) (flat_map (footpaths_into w) (range_with_len (a + 1) n))
    ∙ ap (λ (x : List ℕ). x ++ flat_map footpath_words (flat_map (footpaths_into w) (range_with_len (a + 1) n))) block
    ∙ ap (λ (x : List ℕ). take (2 * b) (drop (position + 2 * first) w) ++ x) rest
    ∙ sym whole_is

-- the footpaths that words show spell the words of their section
pub footpaths_again : (w : List ℕ) → IsWhole w → IsFootIndex w
    → flat_map footpath_words (footpaths_of w)
    ≡ take (2 * (header_of w).footpaths) (drop (footpath_offset (header_of w)) w)
unfolding footpaths_of
footpaths_again w whole index =
    let stops = (header_of w).stops in
    let z : 0 + stops ≡ stops = omega arith in
    let last : foot_index_of w (0 + stops) ≡ (header_of w).footpaths = ap (λ (x : ℕ). foot_index_of w x) z ∙ index.end in
    let p : footpath_offset (header_of w) + 2 * foot_index_of w 0 ≡ footpath_offset (header_of w) = omega (arith, index.start) in
    feet_from w stops 0 (header_of w).footpaths whole (λ t lt. index.rises t (omega arith)) (omega (arith, index.start, last)) (omega (arith, last))
    ∙ ap (λ (x : ℕ). take (2 * (header_of w).footpaths) (drop x w)) p
