-- A query between a single source and a single target is a plain query.
use Rattle.std.proofs.Common.{◌≡◌, ◌<◌, ℕ, List, [], ◌∷◌, Contains, Option, Some, None, sym, ◌∙◌, ap}
use Rattle.std.proofs.Common.{subst, inl, inr}
use Rattle.reasoning.proofs.ListLemmas.{contains_at, contains_first, contains_only}
use Rattle.criteria.specs.Laws.{Rules}
use Rattle.bags.specs.declared.point.Point.{Point}
use Rattle.timetable.specs.TimetableValue.{TimetableValue}
use Rattle.timetable.specs.JourneyValue.{RideValue, JourneyValue}
use Rattle.timetable.specs.Journeys.{connection_at, walk_end, stop_after, time_after, Leads, start_end, Counts}
use Rattle.timetable.specs.declared.network.Footpath.{Footpath}
use Rattle.timetable.specs.Queries.{IsAskable}
use Rattle.timetable.specs.declared.query.Query.{Query}
use Rattle.scan_state.specs.Points.{IsUndominatedOf, IsAnswerOf, IsPoint}
use Rattle.scan_state.specs.SetQuery.{pair_of, single_set_query, IsAskableBetween, CountsBetween, IsPointBetween, IsDirectWalk, secs_of, OneIsPlain}
use Rattle.scan_state.specs.Values.{journey_value}
use Rattle.scan_state.specs.Plain.{ArePlain, IsPlain, IsPlainOf}
use Rattle.scan_state.specs.Matching.{IsAttained}
use Rattle.profile_scan.specs.Nodes.{spelling}
use Rattle.scan_state.specs.ScanState.{IsDirectSecs}
use Rattle.profile_scan.specs.Answered.{IsAnswered, IsAnsweredBetween, IsTaggedAnswer}
use Rattle.profile_scan.specs.declared.nodes.Node.{Node}

-- two sets with the same points have the same answer
module _ {V : Type 0} (rules : Rules V) (There Here : ℕ → V → Type 0) (into : (d : ℕ) (v : V) → There d v → Here d v)
    (back : (d : ℕ) (v : V) → Here d v → There d v) where
  undominated_as : (d : ℕ) (v : V) → IsUndominatedOf rules There d v → IsUndominatedOf rules Here d v
  undominated_as d v is = record {
    is_point = into d v is.is_point;
    only_itself = λ e w point late no_worse. is.only_itself e w (back e w point) late no_worse;
  }

  pub answer_as : (points : List (Point V))
      → ((d : ℕ) (v : V) → IsUndominatedOf rules Here d v → IsUndominatedOf rules There d v)
      → IsAnswerOf rules There points → IsAnswerOf rules Here points
  answer_as points other is = record {
    exactly = λ d v. (
      (λ listed. undominated_as d v ((is.exactly d v).0 listed)),
      (λ undominated. (is.exactly d v).1 (other d v undominated)),
    );
    unbeaten = λ d v point. is.unbeaten d v (back d v point);
    ordered = is.ordered;
  }

module _ (t : TimetableValue) (q : Query) where
  pub from_one : (departure : ℕ) (j : JourneyValue) → CountsBetween t (single_set_query q) departure j → Counts t q departure j
  from_one departure j c =
      subst (λ (s : ℕ). Counts t (pair_of (single_set_query q) s q.target) departure j) (contains_only q.source c.pair.source c.pair.is_source)
      (subst (λ (s : ℕ). Counts t (pair_of (single_set_query q) c.pair.source s) departure j)
      (contains_only q.target c.pair.target c.pair.is_target) c.counts)

  pub to_one : (departure : ℕ) (j : JourneyValue) → Counts t q departure j → CountsBetween t (single_set_query q) departure j
  to_one departure j c = record {
    pair = record {
      source = q.source;
      target = q.target;
      is_source = contains_first q.source [];
      is_target = contains_first q.target [];
    };
    counts = c;
  }

askable_one : (q : Query) (stops : ℕ) → IsAskableBetween stops (single_set_query q) → IsAskable stops q
askable_one q stops a = record {
  source = a.sources q.source (contains_first q.source []);
  target = a.targets q.target (contains_first q.target []);
  differ = λ e. a.differ q.source (contains_first q.source []) (subst (Contains (q.target ∷ [])) (sym e) (contains_first q.target []));
  window = a.window;
  in_time = a.in_time;
  small = a.small;
}

pub one_askable : (q : Query) (stops : ℕ) → IsAskable stops q → IsAskableBetween stops (single_set_query q)
one_askable q stops a = record {
  sources = λ s is. subst (λ (x : ℕ). x < stops) (sym (contains_only q.source s is)) a.source;
  targets = λ s is. subst (λ (x : ℕ). x < stops) (sym (contains_only q.target s is)) a.target;
  differ = λ s is_s is_t. a.differ (sym (contains_only q.source s is_s) ∙ contains_only q.target s is_t);
  window = a.window;
  in_time = a.in_time;
  small = a.small;
}

module _ {V : Type 0} (rules : Rules V) (t : TimetableValue) (q : Query) where
  point_from : (d : ℕ) (v : V) → IsPointBetween rules t (single_set_query q) d v → IsPoint rules t q d v
  point_from d v p = (p.0, from_one t q d p.0 p.1, p.2)

  point_to : (d : ℕ) (v : V) → IsPoint rules t q d v → IsPointBetween rules t (single_set_query q) d v
  point_to d v p = (p.0, to_one t q d p.0 p.1, p.2)

  pub answer_from : (points : List (Point V)) → IsAnswerOf rules (IsPointBetween rules t (single_set_query q)) points
      → IsAnswerOf rules (IsPoint rules t q) points
  answer_from points = answer_as rules (IsPointBetween rules t (single_set_query q)) (IsPoint rules t q) point_from point_to points
      (undominated_as rules (IsPoint rules t q) (IsPointBetween rules t (single_set_query q)) point_to point_from)

  pub answer_to : (points : List (Point V)) → IsAnswerOf rules (IsPoint rules t q) points
      → IsAnswerOf rules (IsPointBetween rules t (single_set_query q)) points
  answer_to points = answer_as rules (IsPoint rules t q) (IsPointBetween rules t (single_set_query q)) point_to point_from points
      (undominated_as rules (IsPointBetween rules t (single_set_query q)) (IsPoint rules t q) point_from point_to)

  pub one_is_plain : OneIsPlain rules t q
  one_is_plain = record {
    askable = λ stops. (askable_one q stops, one_askable q stops);
    counts = λ departure j. (from_one t q departure j, to_one t q departure j);
    points = λ d v. (point_from d v, point_to d v);
    answers = λ points. (answer_from points, answer_to points);
  }

-- journeys that are plain with regard to several goals are so with regard to the one where they end
pub plain_at : (t : TimetableValue) (IsGoal : ℕ → Type 0) (goal stop time : ℕ) (rides : List RideValue) → Leads t goal stop time rides
    → IsGoal goal → ArePlain t IsGoal rides → ArePlain t (λ s. s ≡ goal) rides
plain_at t IsGoal goal stop time [] leads is plain = tt
plain_at t IsGoal goal stop time (ride ∷ []) leads is plain =
    let last = (connection_at t ride.leg.last).to in (
      elim plain.0 [
        | inl here ↦ inl (ap (walk_end last) (sym here.1) ∙ leads.5, here.1)
        | inr other ↦ inr (λ e. other.0 (subst IsGoal (sym e) is), other.1)
      ],
      tt,
    )
plain_at t IsGoal goal stop time (ride ∷ next ∷ rides) leads is plain =
    (plain.0, plain_at t IsGoal goal (stop_after t ride) (time_after t ride) (next ∷ rides) leads.5 is plain.1)

-- a point that is attained for a query between single stops
attained_one : {V : Type 0} (rules : Rules V) (t : TimetableValue) (q : Query) (spelled : ℕ → Option JourneyValue) (p : Point V)
    → IsAttained spelled (CountsBetween t (single_set_query q)) (IsPlainOf t (Contains (q.target ∷ []))) (journey_value rules t) p
    → IsAttained spelled (Counts t q) (IsPlain t q.target) (journey_value rules t) p
attained_one rules t q spelled p a =
    let counts = from_one t q p.departure a.way a.there in
    record {
      way = a.way;
      spells = a.spells;
      there = counts;
      plain = plain_at t (Contains (q.target ∷ [])) q.target (start_end q.source a.way.start) 0 a.way.rides counts.journey.leads
          (contains_first q.target []) a.plain;
      worth = a.worth;
    }

-- the direct walk between single stops is the footpath from the one to the other
pub direct_one : (t : TimetableValue) (q : Query) (walk : Option Footpath) → IsDirectWalk t (single_set_query q) walk
    → IsDirectSecs t q.target q.source (secs_of walk)
direct_one t q None none = λ f is from to. none 0 0 f (record {
  is_footpath = is;
  leaves = ap Some (sym from);
  leads = ap Some (sym to);
})
direct_one t q (Some f) is =
    let from = contains_only q.source f.from (contains_at (q.source ∷ []) is.0 f.from is.2.leaves) in
    let to = contains_only q.target f.to (contains_at (q.target ∷ []) is.1 f.to is.2.leads) in
    subst (λ (a : ℕ). Contains t.footpaths (record { from = a; to = q.target; secs = f.secs })) from
    (subst (λ (z : ℕ). Contains t.footpaths (record { from = f.from; to = z; secs = f.secs })) to is.2.is_footpath)

-- an answer between single stops is an answer of the plain query
pub tagged_one : {V : Type 0} (rules : Rules V) (t : TimetableValue) (q : Query) (told : ℕ → Option JourneyValue) (points : List (Point V))
    (walk : Option ℕ) → IsTaggedAnswer rules t (single_set_query q) told points → IsDirectSecs t q.target q.source walk → IsAnswered rules t q points told walk
tagged_one rules t q told points walk is way = record {
  answer = answer_from rules t q points is.answer;
  attained = λ p h. attained_one rules t q told p (is.attained p h);
  direct = way;
}

pub answered_one : {V : Type 0} (rules : Rules V) (t : TimetableValue) (q : Query) (points : List (Point V)) (nodes : List Node)
    (walk : Option Footpath) → IsAnsweredBetween rules t (single_set_query q) points nodes walk
    → IsAnswered rules t q points (spelling nodes).journey (secs_of walk)
answered_one rules t q points nodes walk is =
    tagged_one rules t q (spelling nodes).journey points (secs_of walk) is.tagged (direct_one t q walk is.direct)
