-- Exits of lanes, eight of each, and what they spell.
use Rattle.std.proofs.Common.{◌≡◌, ℕ, zero, suc, ◌+◌, ◌*◌, ◌/◌, ◌%◌, ◌<◌, ◌≤◌, List, [], ◌∷◌, ◌++◌, length, slice_get, Option, Some, None}
use Rattle.std.proofs.Common.{refl, sym, ap, ◌∙◌, arith}
use Rattle.std.proofs.lemmas.Option.{slice_get_within}
use Rattle.reasoning.specs.Lists.{Extends}
use Rattle.reasoning.proofs.ListLemmas.{slice_get-append}
use Rattle.timetable.specs.declared.network.Footpath.{Footpath}
use Rattle.scan_state.specs.Matching.{from_to}
use Rattle.scan_state.specs.ScanRecords.{changed_at}
use Rattle.scan_state.specs.ScanRecords.{ScanRecords, Grows, IsExit, exit_spells, label_spells, spelling_of, step_spells}
use Rattle.by_trips.specs.InLanes.{exit_of, exits_in}
use Rattle.by_trips.specs.declared.in_lanes.LaneExit.{LaneExit}
use Rattle.scan_state.specs.declared.scan_records.Exit.{Exit}
use Rattle.scan_state.specs.declared.scan_records.Exit.TheVariants.{Ends, Changes}
use Rattle.scan_state.proofs.ScanRecordLemmas.{label_more, stays, step_more}

abbrev pub eight : (ℕ → List ℕ) → LaneExit → List Exit
eight tags x = exit_of tags x 0 ∷ exit_of tags x 1 ∷ exit_of tags x 2 ∷ exit_of tags x 3 ∷ exit_of tags x 4 ∷ exit_of tags x 5 ∷ exit_of tags x 6
    ∷ exit_of tags x 7 ∷ []

eight_at : (tags : ℕ → List ℕ) (x : LaneExit) (k : ℕ) → k < 8 → slice_get (eight tags x) k ≡ Some (exit_of tags x k)
eight_at tags x zero lt = refl
eight_at tags x (suc zero) lt = refl
eight_at tags x (suc (suc zero)) lt = refl
eight_at tags x (suc (suc (suc zero))) lt = refl
eight_at tags x (suc (suc (suc (suc zero)))) lt = refl
eight_at tags x (suc (suc (suc (suc (suc zero))))) lt = refl
eight_at tags x (suc (suc (suc (suc (suc (suc zero)))))) lt = refl
eight_at tags x (suc (suc (suc (suc (suc (suc (suc zero))))))) lt = refl
eight_at tags x (suc (suc (suc (suc (suc (suc (suc (suc k)))))))) lt = absurd (omega (arith, lt))

exits_push : (tags : ℕ → List ℕ) (xs : List LaneExit) (x : LaneExit) → exits_in tags (xs ++ x ∷ []) ≡ exits_in tags xs ++ eight tags x
exits_push tags [] x = refl
exits_push tags (y ∷ ys) x = ap (λ rest. eight tags y ++ rest) (exits_push tags ys x)

pub exits_long : (tags : ℕ → List ℕ) (xs : List LaneExit) → length (exits_in tags xs) ≡ 8 * length xs
exits_long tags [] = refl
exits_long tags (y ∷ ys) = let r = exits_long tags ys in omega (arith, r)

at_behind : {X : Type 0} (xs ys : List X) (k : ℕ) → slice_get (xs ++ ys) (length xs + k) ≡ slice_get ys k
at_behind [] ys k = let e : 0 + k ≡ k = omega arith in ap (slice_get ys) e
at_behind (x ∷ xs) ys k =
    let e : suc (length xs) + k ≡ suc (length xs + k) = omega arith in
    ap (slice_get (x ∷ xs ++ ys)) e ∙ at_behind xs ys k

abbrev pub exit_if : (ℕ → List ℕ) → ℕ → Option LaneExit → Option Exit
exit_if tags k None = None
exit_if tags k (Some x) = Some (exit_of tags x k)

exits_at : (tags : ℕ → List ℕ) (xs : List LaneExit) (i k : ℕ) → k < 8 → slice_get (exits_in tags xs) (8 * i + k) ≡ exit_if tags k (slice_get xs i)
exits_at tags [] i k lt = refl
exits_at tags (x ∷ xs) zero k lt =
    let e : 8 * 0 + k ≡ k = omega arith in
    ap (slice_get (exits_in tags (x ∷ xs))) e ∙ slice_get-append (eight tags x) (exits_in tags xs) k (exit_of tags x k) (eight_at tags x k lt)
exits_at tags (x ∷ xs) (suc i) k lt =
    let on : 8 * suc i + k ≡ suc (suc (suc (suc (suc (suc (suc (suc (8 * i + k)))))))) = omega arith in
    ap (slice_get (exits_in tags (x ∷ xs))) on ∙ exits_at tags xs i k lt

-- which exit a tag names
pub exit_named : (tags : ℕ → List ℕ) (xs : List LaneExit) (tag : ℕ) → exit_if tags (tag % 8) (slice_get xs (tag / 8)) ≡ slice_get (exits_in tags xs) tag
exit_named tags xs tag =
    let parts : 8 * (tag / 8) + tag % 8 ≡ tag = omega arith in
    let lt : tag % 8 < 8 = omega arith in
    sym (exits_at tags xs (tag / 8) (tag % 8) lt) ∙ ap (slice_get (exits_in tags xs)) parts

-- one more
module _ (tags : ℕ → List ℕ) (old new : List LaneExit) (x : LaneExit) (pushed : new ≡ old ++ x ∷ []) where
  pushed_is : exits_in tags new ≡ exits_in tags old ++ eight tags x
  pushed_is = ap (exits_in tags) pushed ∙ exits_push tags old x

  pub exits_more : Extends (exits_in tags old) (exits_in tags new)
  exits_more = (eight tags x, pushed_is)

  pub exit_at : (first k : ℕ) → first ≡ 8 * length old → k < 8 → slice_get (exits_in tags new) (first + k) ≡ Some (exit_of tags x k)
  exit_at first k first_is lt =
      ap (λ es. slice_get es (first + k)) pushed_is
      ∙ ap (λ n. slice_get (exits_in tags old ++ eight tags x) (n + k)) (first_is ∙ sym (exits_long tags old))
      ∙ at_behind (exits_in tags old) (eight tags x) k
      ∙ eight_at tags x k lt

-- an exit that was written down after what was spelled before
spelled_at : (walks : List Footpath) (before all : ScanRecords) (n : ℕ) (exit : Exit) → Grows before all → slice_get all.exits n ≡ Some exit
    → length before.exits ≤ n → (m : ℕ) → length all.exits ≡ suc m → IsExit (from_to (spelling_of walks before) (spelling_of walks all)) exit n
unfolding label_spells
spelled_at walks before all n (Ends last walk) grows at later m long =
    ap (λ size. label_spells walks all size n) long
    ∙ ap (exit_spells (λ tag. step_spells walks (label_spells walks all m) (slice_get all.steps tag))) at
spelled_at walks before all n (Changes last step) grows at later m long = λ x e.
    let within = slice_get_within all.exits n (Changes last step) at in
    let here = step_more walks (label_spells walks before (length before.exits)) (label_spells walks all m)
    (label_more walks before all grows (length before.exits) m (omega (arith, within, later, long))) (slice_get before.steps step)
    (slice_get all.steps step) (stays before.steps all.steps grows.steps step) x e in
    ap (λ size. label_spells walks all size n) long
    ∙ ap (exit_spells (λ tag. step_spells walks (label_spells walks all m) (slice_get all.steps tag))) at
    ∙ ap (changed_at last) here

pub exit_spelled_at : (walks : List Footpath) (before all : ScanRecords) (n : ℕ) (exit : Exit) → Grows before all → slice_get all.exits n ≡ Some exit
    → length before.exits ≤ n → IsExit (from_to (spelling_of walks before) (spelling_of walks all)) exit n
exit_spelled_at walks before all n exit grows at later = by_length (length all.exits) refl
  where
    by_length : (size : ℕ) → length all.exits ≡ size → IsExit (from_to (spelling_of walks before) (spelling_of walks all)) exit n
    by_length zero long = let within = slice_get_within all.exits n exit at in absurd (omega (arith, within, long))
    by_length (suc m) long = spelled_at walks before all n exit grows at later m long
