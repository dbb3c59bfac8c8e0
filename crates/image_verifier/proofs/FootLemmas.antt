-- What the footpaths into a stop keep where they have no fault.
use Rattle.std.proofs.Common.{◌≡◌, ℕ, ◌+◌, ◌-◌, ◌<◌, ◌≤◌, true, false, not, ◌||◌, List, None, ap, arith}
use Rattle.std.proofs.lemmas.Bool.{or_parts, leb-false, ltb-false, not-false}
use Rattle.image_layout.specs.Offsets.{header_of}
use Rattle.image_layout.specs.Fields.{foot_index_of, foot_from_of}
use Rattle.image_verifier.specs.declared.fault.ImageFault.TheVariants.{FootRange, FootUnsorted, NoLoop}
use Rattle.timetable.specs.First.{first_below, any_between}
use Rattle.image_verifier.specs.FootFaults.{is_bad_footpath, is_fall, is_from, is_bad_index, foot_fault, foot_end_fault}
use Rattle.image_verifier.specs.FootFaults.{footpaths_fault, HasFootRange, HasFootRanges}
use Rattle.timetable.proofs.FirstLemmas.{or_else_parts, no_fault, first_below-none, any_between-none}

-- the tests of stop s, each without fault
pub record AreFootTests (w : List ℕ) (s : ℕ) : Type 0 where
  pub index : is_bad_index w s ≡ false
  pub each : any_between (is_bad_footpath w) (foot_index_of w s) (foot_index_of w (s + 1)) ≡ false
  pub rising : any_between (is_fall w) (foot_index_of w s + 1) (foot_index_of w (s + 1)) ≡ false
  pub loop : any_between (is_from w s) (foot_index_of w s) (foot_index_of w (s + 1)) ≡ true

pub AreFootTests-from : (w : List ℕ) (s : ℕ) → foot_fault w s ≡ None → AreFootTests w s
unfolding foot_fault
AreFootTests-from w s e =
    let a = no_fault (is_bad_index w s || any_between (is_bad_footpath w) (foot_index_of w s) (foot_index_of w (s + 1))) (FootRange s) _ e in
    let b = no_fault (any_between (is_fall w) (foot_index_of w s + 1) (foot_index_of w (s + 1))) (FootUnsorted s) _ a.1 in
    let d = no_fault (not (any_between (is_from w s) (foot_index_of w s) (foot_index_of w (s + 1)))) (NoLoop s) _ b.1 in
    let range = or_parts _ _ a.0 in
    record { index = range.0; each = range.1; rising = b.0; loop = not-false _ d.0 }

pub HasFootRange-from : (w : List ℕ) (s : ℕ) → foot_fault w s ≡ None → HasFootRange w s
HasFootRange-from w s e =
    let tests = AreFootTests-from w s e in
    let outer = or_parts _ _ tests.index in
    let inner = or_parts _ _ outer.0 in
    let good : (k : ℕ) → foot_index_of w s ≤ k → k < foot_index_of w (s + 1) → is_bad_footpath w k ≡ false =
    λ k le lt. any_between-none (is_bad_footpath w) (foot_index_of w s) (foot_index_of w (s + 1)) k le lt
    tests.each in
    record {
      rises = ltb-false _ _ inner.1;
      within = ltb-false _ _ outer.1;
      from = λ k le lt. leb-false _ _ (or_parts _ _ (good k le lt)).0;
      rising = λ k le lt. (
          let up : is_fall w (k + 1) ≡ false = any_between-none (is_fall w) (foot_index_of w s + 1)
          (foot_index_of w (s + 1)) (k + 1) (omega arith) lt tests.rising in
          let back : (k + 1) - 1 ≡ k = omega arith in
          let more = leb-false _ _ up in
          omega (arith, more, ap (λ (x : ℕ). foot_from_of w x) back));
      secs = λ k le lt. ltb-false _ _ (or_parts _ _ (good k le lt)).1;
    }

pub HasFootRanges-from : (w : List ℕ) → footpaths_fault w ≡ None → HasFootRanges w
HasFootRanges-from w e s lt =
    HasFootRange-from w s (first_below-none (foot_fault w) (header_of w).stops s lt
    (or_else_parts (first_below (foot_fault w) (header_of w).stops) (foot_end_fault w) e).0)
