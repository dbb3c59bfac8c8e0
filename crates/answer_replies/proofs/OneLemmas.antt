-- An answer between single stops is that of a plain query.
use Rattle.std.proofs.Common.{ℕ, List, [], ◌∷◌, Option, Some, None, Contains, map, ap, sym, subst}
use Rattle.reasoning.proofs.ListLemmas.{contains_at, contains_only}
use Rattle.criteria.specs.Laws.{Rules}
use Rattle.criteria.specs.declared.name.CriterionName.{CriterionName}
use Rattle.criteria.specs.declared.figures.Figures.{Figures}
use Rattle.bags.specs.declared.point.Point.{Point}
use Rattle.timetable.specs.TimetableValue.{TimetableValue}
use Rattle.timetable.specs.JourneyValue.{JourneyValue}
use Rattle.timetable.specs.declared.network.Footpath.{Footpath}
use Rattle.timetable.specs.declared.query.Query.{Query}
use Rattle.scan_state.specs.SetQuery.{IsDirectWalk, single_set_query, pair_of, secs_of}
use Rattle.scan_state.specs.ScanState.{IsDirectSecs}
use Rattle.profile_scan.proofs.Single.{answer_from}
use Rattle.journeys.specs.Answer.{point_of}
use Rattle.journeys.specs.Extracted.{Attains, AttainsBetween}
use Rattle.station_answers.specs.Walks.{IsDirectTime}
use Rattle.answer_replies.specs.OneStop.{IsAnsweredOne, IsAnsweredOneBy}
use Rattle.answer_replies.specs.Replying.{IsAnswered, IsAnsweredBy, Subject}

-- a journey between single stops runs from the one to the other
attains_one : {V : Type 0} (rules : Rules V) (t : TimetableValue) (q : Query) (p : Point V) (j : JourneyValue)
    → AttainsBetween rules t (single_set_query q) p j → Attains rules t q p j
attains_one rules t q p j a =
    subst (λ (s : ℕ). Attains rules t (pair_of (single_set_query q) s q.target) p j) (contains_only q.source a.pair.source a.pair.is_source)
    (subst (λ (s : ℕ). Attains rules t (pair_of (single_set_query q) a.pair.source s) p j)
    (contains_only q.target a.pair.target a.pair.is_target) a.attains)

-- the direct walk between single stops is the footpath from the one to the other
direct_walk_one : (t : TimetableValue) (q : Query) (walk : Option Footpath) → IsDirectWalk t (single_set_query q) walk
    → IsDirectSecs t q.target q.source (secs_of walk)
direct_walk_one t q None none = λ f is from to. none 0 0 f (record {
  is_footpath = is;
  leaves = ap Some (sym from);
  leads = ap Some (sym to);
})
direct_walk_one t q (Some f) is =
    let from = contains_only q.source f.from (contains_at (q.source ∷ []) is.0 f.from is.2.leaves) in
    let to = contains_only q.target f.to (contains_at (q.target ∷ []) is.1 f.to is.2.leads) in
    subst (λ (a : ℕ). Contains t.footpaths (record { from = a; to = q.target; secs = f.secs })) from
    (subst (λ (z : ℕ). Contains t.footpaths (record { from = f.from; to = z; secs = f.secs })) to is.2.is_footpath)

direct_one : (t : TimetableValue) (q : Query) (walk : Option ℕ) → IsDirectTime t (single_set_query q) walk → IsDirectSecs t q.target q.source walk
direct_one t q walk is = subst (IsDirectSecs t q.target q.source) (sym is.is) (direct_walk_one t q is.walk is.is_walk)

answered_one : {V : Type 0} (figures : V → Figures) (rules : Rules V) (subject : Subject) (q : Query) (reply : List ℕ)
    → IsAnswered figures rules subject (single_set_query q) reply → IsAnsweredOne figures rules subject q reply
answered_one figures rules subject q reply is = record {
  departures = is.departures;
  walk = is.walk;
  answer = answer_from rules subject.image.timetable q (map point_of is.departures) is.answer;
  attained = λ d has. attains_one rules subject.image.timetable q (point_of d) d.journey (is.attained d has);
  direct = direct_one subject.image.timetable q is.walk is.direct;
  reply_is = is.reply_is;
}

pub answered_one_by : (criterion : CriterionName) (subject : Subject) (q : Query) (reply : List ℕ)
    → IsAnsweredBy criterion subject (single_set_query q) reply → IsAnsweredOneBy criterion subject q reply
answered_one_by CriterionName.Arrival subject q reply is = answered_one _ _ subject q reply is
answered_one_by CriterionName.ArrivalTrips subject q reply is = answered_one _ _ subject q reply is
answered_one_by CriterionName.ArrivalTripsWalk subject q reply is = answered_one _ _ subject q reply is
