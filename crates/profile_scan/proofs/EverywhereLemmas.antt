-- One scan for all sources, as each of them sees it.
use Rattle.std.proofs.Common.{◌≡◌, ◌+◌, ◌<◌, ◌≤◌, ◌∷◌, ◌++◌, [], ℕ, List, Option, Some, Contains, length, slice_get, sym}
use Rattle.std.proofs.Common.{◌∙◌, ap, subst, inl, inr, arith}
use Rattle.std.specs.Global.{Vec}
use Rattle.std.proofs.lemmas.Bool.{cases_eq}
use Rattle.std.proofs.lemmas.List.{length_push}
use Rattle.std.proofs.lemmas.Option.{slice_get_cases}
use Rattle.reasoning.proofs.ListLemmas.{contains_first, contains_only, slice_get-front, slice_get-last}
use Rattle.criteria.specs.Laws.{Rules}
use Rattle.bags.specs.Bag.{points_of}
use Rattle.bags.specs.declared.point.Point.{Point}
use Rattle.timetable.specs.TimetableValue.{TimetableValue}
use Rattle.scan_state.specs.SetQuery.{SetQueryValue, IsAskableBetween, IsDirectWalk}
use Rattle.scan_state.specs.Points.{AreInOrder}
use Rattle.scan_state.specs.ScanRecords.{KeptValue, spelling_of}
use Rattle.scan_state.specs.ScanState.{IsDirectSecs}
use Rattle.profile_scan.specs.Answered.{IsTaggedAnswer}
use Rattle.profile_scan.specs.Destinations.{CanBeAsked, query_from, question_to}
use Rattle.scan_state.specs.Origins.{found_by, found_from, from_stop}
use Rattle.profile_scan.specs.Everywhere.{AnswerAll, AnswerToAny, AnswersFrom, asked_to_any, criterion_of_profiles, listed_from, points_in}
use Rattle.profile_scan.specs.Everywhere.{scan_records_from, walk_from, walk_to_any}
use Rattle.profile_scan.specs.declared.destination.Destination.{Destination}
use Rattle.scan_state.specs.declared.origin.Origin.{Origin}
use Rattle.scan_state.specs.declared.origins.Origins.{Origins}
use Rattle.profile_scan.specs.declared.profiles.Profiles.{Profiles}
use Rattle.profile_scan.proofs.Single.{direct_one, tagged_one}

-- points in order are those found from a stop
pub in_order_from : {K V : Type 0} {d : _} (rules : Rules V) (origins : Origins K V d) (stop : ℕ) (o : Origin K V d) (points : List (Point V))
    → slice_get origins.each.items stop ≡ Some o → AreInOrder rules (points_of o.found) points → AreInOrder rules (found_from origins stop) points
in_order_from {K} {V} {d} rules origins stop o points at are = subst (λ (x : Option (Origin K V d)). AreInOrder rules (found_by x) points) (sym at) are

-- lists in order, up to a stop
pub record AreListedTo {V : Type 0} (rules : Rules V) (found : ℕ → List (Point V)) (n : ℕ) (lists : List (Vec (Point V))) : Type 0 where
  pub long : length lists ≡ n
  pub each : (stop : ℕ) → stop < n → AreInOrder rules (found stop) (points_in (slice_get lists stop))

pub none_listed_to : {V : Type 0} (rules : Rules V) (found : ℕ → List (Point V)) (lists : List (Vec (Point V))) → lists ≡ [] → AreListedTo rules found 0 lists
none_listed_to rules found lists is = record { long = ap length is; each = λ stop lt. absurd (omega (arith, lt)) }

pub one_listed_to : {V : Type 0} (rules : Rules V) (found : ℕ → List (Point V)) (n : ℕ) (old new : List (Vec (Point V))) (points : Vec (Point V))
    → AreListedTo rules found n old → AreInOrder rules (found n) points.items → new ≡ old ++ points ∷ [] → AreListedTo rules found (n + 1) new
one_listed_to {V} rules found n old new points was here is =
    let was_long = was.long in
    record {
      long = ap length is ∙ length_push old points ∙ ap (λ k. k + 1) was_long;
      each = λ stop lt. elim (cases_eq stop n) [
        | inl last ↦
            let there : slice_get new stop ≡ Some points =
            ap (λ (xs : List (Vec (Point V))). slice_get xs stop) is ∙ ap (λ k. slice_get (old ++ points ∷ []) k) (last ∙ sym was_long)
            ∙ slice_get-last old points in
            subst (λ (o : Option (Vec (Point V))). AreInOrder rules (found stop) (points_in o)) (sym there)
            (subst (λ k. AreInOrder rules (found k) points.items) (sym last) here)
        | inr other ↦
            let below : stop < length old = omega (arith, lt, other, was_long) in
            let same : slice_get new stop ≡ slice_get old stop = ap (λ (xs : List (Vec (Point V))). slice_get xs stop) is ∙ slice_get-front old
            (points ∷ []) stop below in
            subst (λ (o : Option (Vec (Point V))). AreInOrder rules (found stop) (points_in o)) (sym same) (was.each stop (omega (arith, lt, other)))
      ];
    }

-- past the last stop nothing was found
pub all_listed_to : {V : Type 0} (rules : Rules V) (found : ℕ → List (Point V)) (n : ℕ) (lists : List (Vec (Point V)))
    → AreListedTo rules found n lists → ((stop : ℕ) → n ≤ stop → found stop ≡ []) → (stop : ℕ) → AreInOrder rules (found stop)
    (points_in (slice_get lists stop))
all_listed_to {V} rules found n lists are past stop = elim (slice_get_cases lists stop).1 [
  | inl there ↦ (let long = are.long in let lt = there.1 in are.each stop (omega (arith, long, lt)))
  | inr beyond ↦
      let long = are.long in
      let le = beyond.0 in
      let none = past stop (omega (arith, long, le)) in
      subst (λ (o : Option (Vec (Point V))). AreInOrder rules (found stop) (points_in o)) (sym beyond.1)
      (subst (λ (ps : List (Point V)). AreInOrder rules ps []) (sym none) no_points)
]
  where
    no_points : AreInOrder rules [] []
    no_points = record { ordered = λ i j e lt within. absurd (omega (arith, within)); only = λ p h. h; each = λ p h. h }

-- a destination that can be asked is a query between sets that can
pub asked_to_one : (stops : ℕ) (d : Destination) → CanBeAsked stops d → IsAskableBetween stops (question_to d)
asked_to_one stops d can = record {
  sources = λ stop is. let lt = is.1 in absurd (omega (arith, lt));
  targets = λ stop is. subst (λ (n : ℕ). n < stops) (sym (contains_only d.target stop is)) can.target;
  differ = λ stop is _. let lt = is.1 in omega (arith, lt);
  window = can.window;
  in_time = can.in_time;
  small = can.small;
}

-- answers to any of several targets, where there is one, are those to it
module _ {K L V : Type 0} {c : _} (rules_of : K → Rules V) (value : L → KeptValue V) (t : TimetableValue) (profiles : Profiles K L V c)
    (asked : asked_to_any profiles.to_any ≡ question_to profiles.destination) (all : AnswerToAny rules_of value t profiles.to_any) where
  from_one_stop : (stop : ℕ) → stop < t.stops → IsDirectSecs t profiles.destination.target stop (walk_from profiles stop)
      → AnswersFrom (rules_of (criterion_of_profiles profiles)) value t (query_from profiles.destination stop) profiles
  from_one_stop stop lt way =
      let rules = rules_of (criterion_of_profiles profiles) in
      let told = (spelling_of t.footpaths (scan_records_from value profiles.to_any stop)).journey in
      let points = listed_from profiles stop in
      tagged_one rules t (query_from profiles.destination stop) told points (walk_from profiles stop)
      (subst (λ (b : SetQueryValue). IsTaggedAnswer rules t (from_stop b stop) told points) asked (all.each stop lt)) way

  pub all_to_one : profiles.destination.target < t.stops → AnswerAll rules_of value t profiles
  all_to_one target =
      let d = profiles.destination in
      let is_target : Contains (asked_to_any profiles.to_any).targets d.target =
      subst (λ (b : SetQueryValue). Contains b.targets d.target) (sym asked) (contains_first d.target []) in
      record {
        each = λ stop lt other. from_one_stop stop lt (direct_one t (query_from d stop) (walk_to_any profiles.to_any stop)
            (subst (λ (b : SetQueryValue). IsDirectWalk t (from_stop b stop) (walk_to_any profiles.to_any stop)) asked
            (all.direct stop lt (λ is. other (contains_only d.target stop
            (subst (λ (b : SetQueryValue). Contains b.targets stop) asked is))))));
        at_target = from_one_stop d.target target (all.loops d.target target is_target);
        long = all.long;
        final_walks = all.final_walks;
        asked = asked;
        to_any = all;
      }
