-- What nodes spell, from one node to the next.
use Rattle.std.proofs.Common.{◌≡◌, ℕ, suc, ◌+◌, ◌<◌, ◌≤◌, List, [], ◌∷◌, ◌++◌, length, slice_get, Option, Some, None, MatchOption, refl, sym, ◌∙◌, ap}
use Rattle.std.proofs.Common.{Contains}
use Rattle.std.proofs.Common.{subst, inl, inr}
use Rattle.std.proofs.lemmas.Option.{slice_get_cases, same_Some}
use Rattle.reasoning.proofs.ListLemmas.{contains_at}
use Rattle.criteria.specs.Laws.{Rules}
use Rattle.bags.specs.declared.point.Point.{Point}
use Rattle.timetable.specs.declared.network.Footpath.{Footpath}
use Rattle.timetable.specs.declared.query.Query.{Query}
use Rattle.timetable.specs.TimetableValue.{TimetableValue}
use Rattle.timetable.specs.Journeys.{start_end}
use Rattle.profile_scan.specs.Answered.{IsAnswered, IsAnsweredBetween}
use Rattle.scan_state.specs.SetQuery.{SetQueryValue}
use Rattle.profile_scan.specs.Found.{Answers, criterion_of_found, listed, nodes_of, query_of, timetable_of, walk_of_found}
use Rattle.profile_scan.specs.Found.{AnswersBetween, criterion_between, listed_between, nodes_between, query_between, timetable_between, walk_between}
use Rattle.profile_scan.specs.declared.found.Found.{Found}
use Rattle.profile_scan.specs.declared.found_between.FoundBetween.{FoundBetween}
use Rattle.timetable.specs.JourneyValue.{RideValue, JourneyValue}
use Rattle.scan_state.specs.Continuations.{Aboard}
use Rattle.scan_state.specs.Steps.{boarded}
use Rattle.profile_scan.specs.Nodes.{Spelled, nothing, spelled, spelling, spells}
use Rattle.scan_state.specs.ScanRecords.{changed_at, boarded_after, set_out_by, walk_of}
use Rattle.profile_scan.specs.declared.nodes.Node.{Node}
use Rattle.profile_scan.specs.declared.nodes.Node.TheVariants.{Ends, Changes, Boards, SetsOut}
use Rattle.profile_scan.proofs.NodeLemmas.{spelled_at, spelled_past}
use Rattle.profile_scan.proofs.Single.{plain_at}
use Rattle.journeys.specs.Extracted.{rides_on, Attains, AttainsBetween}

module _ (nodes : List Node) (k : ℕ) where
  -- no node, no spelling
  pub none_spelled : slice_get nodes k ≡ None → spelled nodes k ≡ nothing
  none_spelled none = spelled_past nodes k (none_within nodes k none)
    where
      none_within : {X : Type 0} (xs : List X) (n : ℕ) → slice_get xs n ≡ None → length xs ≤ n
      none_within xs n none = elim (slice_get_cases xs n).1 [ inl some ↦ (let is = some.2 in absurd cc) | inr past ↦ past.0 ]

  -- boarding, by a node before it or by none
  pub boards_by : (walk : Footpath) (first next : ℕ) → slice_get nodes k ≡ Some (Boards walk first next) → next < k
      → (spelled nodes k).onward ≡ boarded_after walk first (spelled nodes next).aboard
  boards_by walk first next at lt =
      let s = spelled_at nodes k (Boards walk first next) at in
      ap (λ (z : Spelled). z.onward) s.1.is ∙ ap (λ (z : Spelled). boarded_after walk first z.aboard) (s.1.before next lt)

  pub boards_forward : (walk : Footpath) (first next : ℕ) → slice_get nodes k ≡ Some (Boards walk first next) → k ≤ next → (spelled nodes k).onward ≡ None
  boards_forward walk first next at ge =
      let s = spelled_at nodes k (Boards walk first next) at in
      ap (λ (z : Spelled). z.onward) s.1.is ∙ ap (λ (z : Spelled). boarded_after walk first z.aboard) (s.1.none next ge)

  -- getting off to change
  pub changes_by : (last next : ℕ) → slice_get nodes k ≡ Some (Changes last next) → next < k
      → (spelled nodes k).aboard ≡ changed_at last (spelled nodes next).onward
  changes_by last next at lt =
      let s = spelled_at nodes k (Changes last next) at in
      ap (λ (z : Spelled). z.aboard) s.1.is ∙ ap (λ (z : Spelled). changed_at last z.onward) (s.1.before next lt)

  pub changes_forward : (last next : ℕ) → slice_get nodes k ≡ Some (Changes last next) → k ≤ next → (spelled nodes k).aboard ≡ None
  changes_forward last next at ge =
      let s = spelled_at nodes k (Changes last next) at in
      ap (λ (z : Spelled). z.aboard) s.1.is ∙ ap (λ (z : Spelled). changed_at last z.onward) (s.1.none next ge)

  -- getting off at the end
  pub ends_by : (last : ℕ) (walk : Option Footpath) → slice_get nodes k ≡ Some (Ends last walk)
      → (spelled nodes k).aboard ≡ Some (record { last = last; walk = walk_of walk; rides = [] })
  ends_by last walk at =
      let s = spelled_at nodes k (Ends last walk) at in
      ap (λ (z : Spelled). z.aboard) s.1.is

  -- setting out
  pub sets_out_by : (start : Option Footpath) (first next : ℕ) → slice_get nodes k ≡ Some (SetsOut start first next) → next < k
      → (spelled nodes k).journey ≡ set_out_by start first (spelled nodes next).aboard
  sets_out_by start first next at lt =
      let s = spelled_at nodes k (SetsOut start first next) at in
      ap (λ (z : Spelled). z.journey) s.1.is ∙ ap (λ (z : Spelled). set_out_by start first z.aboard) (s.1.before next lt)

  pub sets_out_forward : (start : Option Footpath) (first next : ℕ) → slice_get nodes k ≡ Some (SetsOut start first next) → k ≤ next
      → (spelled nodes k).journey ≡ None
  sets_out_forward start first next at ge =
      let s = spelled_at nodes k (SetsOut start first next) at in
      ap (λ (z : Spelled). z.journey) s.1.is ∙ ap (λ (z : Spelled). set_out_by start first z.aboard) (s.1.none next ge)

-- what the other nodes don't spell
module _ (nodes : List Node) (k : ℕ) (node : Node) (at : Some node ≡ slice_get nodes k) where
  said : (other : Node) → node ≡ other → (earlier : ℕ → Spelled) × (spelled nodes k ≡ spells earlier other)
  said other same = let s = spelled_at nodes k other (sym at ∙ ap Some same) in (s.0, s.1.is)

  pub ends_onward : (last : ℕ) (walk : Option Footpath) → node ≡ Ends last walk → (spelled nodes k).onward ≡ None
  ends_onward last walk same = ap (λ (z : Spelled). z.onward) (said (Ends last walk) same).1

  pub ends_journey : (last : ℕ) (walk : Option Footpath) → node ≡ Ends last walk → (spelled nodes k).journey ≡ None
  ends_journey last walk same = ap (λ (z : Spelled). z.journey) (said (Ends last walk) same).1

  pub changes_onward : (last next : ℕ) → node ≡ Changes last next → (spelled nodes k).onward ≡ None
  changes_onward last next same = ap (λ (z : Spelled). z.onward) (said (Changes last next) same).1

  pub changes_journey : (last next : ℕ) → node ≡ Changes last next → (spelled nodes k).journey ≡ None
  changes_journey last next same = ap (λ (z : Spelled). z.journey) (said (Changes last next) same).1

  pub boards_aboard : (walk : Footpath) (first next : ℕ) → node ≡ Boards walk first next → (spelled nodes k).aboard ≡ None
  boards_aboard walk first next same = ap (λ (z : Spelled). z.aboard) (said (Boards walk first next) same).1

  pub boards_journey : (walk : Footpath) (first next : ℕ) → node ≡ Boards walk first next → (spelled nodes k).journey ≡ None
  boards_journey walk first next same = ap (λ (z : Spelled). z.journey) (said (Boards walk first next) same).1

  pub sets_out_onward : (start : Option Footpath) (first next : ℕ) → node ≡ SetsOut start first next → (spelled nodes k).onward ≡ None
  sets_out_onward start first next same = ap (λ (z : Spelled). z.onward) (said (SetsOut start first next) same).1

  pub sets_out_aboard : (start : Option Footpath) (first next : ℕ) → node ≡ SetsOut start first next → (spelled nodes k).aboard ≡ None
  sets_out_aboard start first next same = ap (λ (z : Spelled). z.aboard) (said (SetsOut start first next) same).1

-- no node spells nothing
pub none_onward : (nodes : List Node) (k : ℕ) → None ≡ slice_get nodes k → (spelled nodes k).onward ≡ None
none_onward nodes k none = ap (λ (z : Spelled). z.onward) (none_spelled nodes k (sym none))

pub none_aboard : (nodes : List Node) (k : ℕ) → None ≡ slice_get nodes k → (spelled nodes k).aboard ≡ None
none_aboard nodes k none = ap (λ (z : Spelled). z.aboard) (none_spelled nodes k (sym none))

pub none_journey : (nodes : List Node) (k : ℕ) → None ≡ slice_get nodes k → (spelled nodes k).journey ≡ None
none_journey nodes k none = ap (λ (z : Spelled). z.journey) (none_spelled nodes k (sym none))

pub ruleset nothing_said = (
  ends_onward,
  ends_journey,
  changes_onward,
  changes_journey,
  boards_aboard,
  boards_journey,
  sets_out_onward,
  sets_out_aboard,
  none_onward,
  none_aboard,
  none_journey,
)

-- getting off to board again
pub changes_on : (nodes : List Node) (k last next : ℕ) (walk : Footpath) (first then : ℕ) → slice_get nodes k ≡ Some (Changes last next) → next < k
    → (spelled nodes next).onward ≡ boarded_after walk first (spelled nodes then).aboard
    → (spelled nodes k).aboard ≡ changed_at last (boarded_after walk first (spelled nodes then).aboard)
changes_on nodes k last next walk first then at lt on = changes_by nodes k last next at lt ∙ ap (changed_at last) on

pub changes_nowhere : (nodes : List Node) (k last next : ℕ) → slice_get nodes k ≡ Some (Changes last next) → next < k → (spelled nodes next).onward ≡ None
    → (spelled nodes k).aboard ≡ None
changes_nowhere nodes k last next at lt none = changes_by nodes k last next at lt ∙ ap (changed_at last) none

-- rides before those that follow, if any do
abbrev pub put_before : List RideValue → Option (List RideValue) → Option (List RideValue)
put_before rides None = None
put_before rides (Some more) = Some (rides ++ more)

abbrev pub ride_of : ℕ → ℕ → List Footpath → RideValue
ride_of first last walk = record { leg = record { first = first; last = last }; walk = walk }

-- a start before rides
start_rides : (start : Option Footpath) (first : ℕ) (o : Option Aboard) (rides : List RideValue) → rides_on first o ≡ Some rides
    → set_out_by start first o ≡ Some (record { start = start; rides = rides })
start_rides start first None rides e = absurd cc
start_rides start first (Some x) rides e =
    ap (λ (rs : List RideValue). Some (let j : JourneyValue = record { start = start; rides = rs } in j)) (same_Some (boarded first x) rides e)

no_rides : (start : Option Footpath) (first : ℕ) (o : Option Aboard) → rides_on first o ≡ None → set_out_by start first o ≡ None
no_rides start first None e = refl
no_rides start first (Some x) e = absurd cc

pub starts_by : (nodes : List Node) (k : ℕ) (start : Option Footpath) (first next : ℕ) (rides : List RideValue)
    → slice_get nodes k ≡ Some (SetsOut start first next) → next < k → rides_on first (spelled nodes next).aboard ≡ Some rides
    → (spelled nodes k).journey ≡ Some (record { start = start; rides = rides })
starts_by nodes k start first next rides at lt e = sets_out_by nodes k start first next at lt ∙ start_rides start first (spelled nodes next).aboard rides e

pub starts_nowhere : (nodes : List Node) (k : ℕ) (start : Option Footpath) (first next : ℕ) → slice_get nodes k ≡ Some (SetsOut start first next) → next < k
    → rides_on first (spelled nodes next).aboard ≡ None → (spelled nodes k).journey ≡ None
starts_nowhere nodes k start first next at lt e = sets_out_by nodes k start first next at lt ∙ no_rides start first (spelled nodes next).aboard e

-- what was handed back is what is spelled
pub some_is : {A X : Type 0} (view : A → X) (e : Option X) (o : Option A) (a : A) → o ≡ Some a → MatchOption o (e ≡ None) (λ (r : A). e ≡ Some (view r))
    → e ≡ Some (view a)
some_is view e None a is h = absurd cc
some_is view e (Some b) a is h = h ∙ ap (λ (r : _). Some (view r)) (same_Some b a is)

pub none_is : {A X : Type 0} (view : A → X) (e : Option X) (o : Option A) → o ≡ None → MatchOption o (e ≡ None) (λ (r : A). e ≡ Some (view r)) → e ≡ None
none_is view e None is h = h
none_is view e (Some b) is h = absurd cc

-- what was found answers the query that it keeps
pub answers_its_own : {K V : Type 0} {c : _} (rules : Rules V) (found : Found K V c)
    → IsAnswered rules (timetable_of found) (query_of found) (listed found) (spelling (nodes_of found)).journey (walk_of_found found)
    → Answers (criterion_of_found found) rules (timetable_of found) (query_of found) found
answers_its_own rules found is = record { answer = is.answer; attained = is.attained; direct = is.direct; keeps = (refl, refl, refl) }

-- the journey that the tag of an answer's point spells attains it
attained : {K V : Type 0} {c : _} (criterion : K) (rules : Rules V) (t : TimetableValue) (q : Query) (found : Found K V c) (i : ℕ) (p : Point V)
    → Answers criterion rules t q found → slice_get (listed found) i ≡ Some p
    → (j : JourneyValue) × ((spelled (nodes_of found) p.tag).journey ≡ Some j) × Attains rules t q p j
attained criterion rules t q found i p answers at =
    let a = answers.attained p (contains_at (listed found) i p at) in
    (a.way, a.spells, record { counts = a.there; plain = a.plain; worth = a.worth })

pub attains : {K V : Type 0} {c : _} (criterion : K) (rules : Rules V) (t : TimetableValue) (q : Query) (found : Found K V c) (i : ℕ) (p point : Point V)
    (j : JourneyValue) → slice_get (listed found) i ≡ Some point
    → (spelled (nodes_of found) point.tag).journey ≡ Some j → Answers criterion rules t q found → slice_get (listed found) i ≡ Some p → Attains rules t q p j
attains criterion rules t q found i p point j here spells answers at =
    let a = attained criterion rules t q found i p answers at in
    let same : point ≡ p = same_Some point p (sym here ∙ at) in
    let spells_p : (spelled (nodes_of found) p.tag).journey ≡ Some j = subst (λ (x : Point _). (spelled (nodes_of found) x.tag).journey ≡ Some j) same spells in
    subst (Attains rules t q p) (same_Some a.0 j (sym a.1 ∙ spells_p)) a.2

pub always_spelled : {K V : Type 0} {c : _} (criterion : K) (rules : Rules V) (t : TimetableValue) (q : Query) (found : Found K V c) (i : ℕ)
    (p point : Point V) → slice_get (listed found) i ≡ Some point
    → (spelled (nodes_of found) point.tag).journey ≡ None → Answers criterion rules t q found → slice_get (listed found) i ≡ Some p → ⊥
always_spelled criterion rules t q found i p point here none answers at =
    let a = attained criterion rules t q found i p answers at in
    let same : point ≡ p = same_Some point p (sym here ∙ at) in
    let none_p : (spelled (nodes_of found) p.tag).journey ≡ None = subst (λ (x : Point _). (spelled (nodes_of found) x.tag).journey ≡ None) same none in
    let some_p = a.1 in
    cc

-- the same of the answer of a query between sets
pub between_answers_its_own : {K V : Type 0} {c : _} (rules : Rules V) (found : FoundBetween K V c)
    → IsAnsweredBetween rules (timetable_between found) (query_between found) (listed_between found) (nodes_between found) (walk_between found)
    → AnswersBetween (criterion_between found) rules (timetable_between found) (query_between found) found
between_answers_its_own rules found is = record { answered = is; keeps = (refl, refl, refl) }

between_attained : {K V : Type 0} {c : _} (criterion : K) (rules : Rules V) (t : TimetableValue) (b : SetQueryValue) (found : FoundBetween K V c) (i : ℕ)
    (p : Point V) → AnswersBetween criterion rules t b found → slice_get (listed_between found) i ≡ Some p
    → (j : JourneyValue) × ((spelled (nodes_between found) p.tag).journey ≡ Some j) × AttainsBetween rules t b p j
between_attained criterion rules t b found i p answers at =
    let a = answers.answered.tagged.attained p (contains_at (listed_between found) i p at) in
    let pair = a.there.pair in (
      a.way,
      a.spells,
      record {
        pair = pair;
        attains = record {
          counts = a.there.counts;
          plain = plain_at t (Contains b.targets) pair.target (start_end pair.source a.way.start) 0 a.way.rides a.there.counts.journey.leads
              pair.is_target a.plain;
          worth = a.worth;
        };
        plain = a.plain;
      },
    )

pub between_attains : {K V : Type 0} {c : _} (criterion : K) (rules : Rules V) (t : TimetableValue) (b : SetQueryValue) (found : FoundBetween K V c) (i : ℕ)
    (p point : Point V) (j : JourneyValue) → slice_get (listed_between found) i ≡ Some point
    → (spelled (nodes_between found) point.tag).journey ≡ Some j → AnswersBetween criterion rules t b found → slice_get (listed_between found) i ≡ Some p
    → AttainsBetween rules t b p j
between_attains criterion rules t b found i p point j here spells answers at =
    let a = between_attained criterion rules t b found i p answers at in
    let same : point ≡ p = same_Some point p (sym here ∙ at) in
    let spells_p : (spelled (nodes_between found) p.tag).journey ≡ Some j =
    subst (λ (x : Point _). (spelled (nodes_between found) x.tag).journey ≡ Some j) same spells in
    subst (AttainsBetween rules t b p) (same_Some a.0 j (sym a.1 ∙ spells_p)) a.2

pub between_always_spelled : {K V : Type 0} {c : _} (criterion : K) (rules : Rules V) (t : TimetableValue) (b : SetQueryValue) (found : FoundBetween K V c)
    (i : ℕ) (p point : Point V) → slice_get (listed_between found) i ≡ Some point
    → (spelled (nodes_between found) point.tag).journey ≡ None → AnswersBetween criterion rules t b found → slice_get (listed_between found) i ≡ Some p → ⊥
between_always_spelled criterion rules t b found i p point here none answers at =
    let a = between_attained criterion rules t b found i p answers at in
    let same : point ≡ p = same_Some point p (sym here ∙ at) in
    let none_p : (spelled (nodes_between found) p.tag).journey ≡ None =
    subst (λ (x : Point _). (spelled (nodes_between found) x.tag).journey ≡ None) same none in
    let some_p = a.1 in
    cc

-- so many rides lie between a node and a later one that it leads to
pub record AreBetween (nodes : List Node) (from number rides : ℕ) : Type 0 where
  pub room : rides + number ≤ from
  pub same : (x : Aboard) → (spelled nodes from).aboard ≡ Some x
      → (y : Aboard) × ((spelled nodes number).aboard ≡ Some y) × (length x.rides ≡ rides + length y.rides)

one_less : (last first : ℕ) (walk : Footpath) (o : Option Aboard) (y : Aboard) → changed_at last (boarded_after walk first o) ≡ Some y
    → (z : Aboard) × (o ≡ Some z) × (length y.rides ≡ suc (length z.rides))
one_less last first walk None y e = absurd cc
one_less last first walk (Some z) y e = (
  z,
  refl,
  ap (λ (x : Aboard). length x.rides)
      (sym (same_Some (let x : Aboard = record { last = last; walk = walk ∷ []; rides = boarded first z } in x) y e)),
)
