-- The best points with their journeys, one after the other.
use Rattle.std.proofs.Common.{◌≡◌, ℕ, suc, ◌+◌, ◌≤◌, List, length, [], ◌∷◌, ◌++◌, take, map, Contains, slice_get, Some, refl}
use Rattle.std.proofs.Common.{sym, ◌∙◌, ap, subst, inl, inr, arith}
use Rattle.std.proofs.lemmas.Option.{slice_get_within, get_or_from_slice_get}
use Rattle.std.proofs.lemmas.List.{map-append, take_all}
use Rattle.std.proofs.lemmas.List.Elements.{Contains-push_cases}
use Rattle.std.proofs.Math.Seq.{take-suc}
use Rattle.criteria.specs.Laws.{Rules}
use Rattle.bags.specs.declared.point.Point.{Point}
use Rattle.timetable.specs.TimetableValue.{TimetableValue}
use Rattle.timetable.specs.JourneyValue.{JourneyValue}
use Rattle.timetable.specs.declared.query.Query.{Query}
use Rattle.scan_state.specs.SetQuery.{SetQueryValue, query_of_pair}
use Rattle.scan_state.specs.Points.{IsAnswerOf, untagged}
use Rattle.profile_scan.proofs.AnsweredLemmas.{spelled_again_answer}
use Rattle.journeys.specs.Answer.{point_of}
use Rattle.journeys.specs.Extracted.{Attains, AttainsBetween}
use Rattle.journeys.specs.declared.answering.Departure.{Departure}
use Rattle.journeys.proofs.AnswerLemmas.{tagless}

-- the first points of a list, each with a journey that attains it, in whichever sense
pub record HaveJourneys {V : Type 0} (Attained : Point V → JourneyValue → Type 0) (points : List (Point V)) (n : ℕ)
    (departures : List (Departure V)) : Type 0 where
  pub first : map untagged (map point_of departures) ≡ map untagged (take n points)
  pub each : (departure : Departure V) → Contains departures departure → Attained (point_of departure) departure.journey

pub no_journeys : {V : Type 0} (Attained : Point V → JourneyValue → Type 0) (points : List (Point V)) (departures : List (Departure V))
    → departures ≡ [] → HaveJourneys Attained points 0 departures
no_journeys Attained points departures none =
    subst (HaveJourneys Attained points 0) (sym none)
    (record { first = refl; each = λ departure h. let lt = h.1 in absurd (omega (arith, lt)) })

pub one_more : {V : Type 0} (Attained : Point V → JourneyValue → Type 0) (points : List (Point V)) (n : ℕ) (departures : List (Departure V))
    (p : Point V) (j : JourneyValue)
    → HaveJourneys Attained points n departures → slice_get points n ≡ Some p → Attained (tagless p) j
    → HaveJourneys Attained points (n + 1) (departures ++ record { time = p.departure; value = p.value; journey = j } ∷ [])
one_more {V} Attained points n departures p j are at here =
    let new : Departure V = record { time = p.departure; value = p.value; journey = j } in
    let next : n + 1 ≡ suc n = omega arith in
    let taken : take n points ++ p ∷ [] ≡ take (n + 1) points =
    ap (λ (x : Point V). take n points ++ x ∷ []) (sym (get_or_from_slice_get points n p p at))
    ∙ (sym (take-suc points n p (slice_get_within points n p at)) ∙ ap (λ (k : ℕ). take k points) (sym next)) in
    record {
      first = ap (map untagged) (map-append point_of departures (new ∷ []))
          ∙ (map-append untagged (map point_of departures) (point_of new ∷ [])
          ∙ (ap (λ (xs : List (ℕ × V)). xs ++ untagged p ∷ []) are.first
          ∙ (sym (map-append untagged (take n points) (p ∷ [])) ∙ ap (map untagged) taken)));
      each = λ departure h. elim (Contains-push_cases departures new departure h) [
        | inl before ↦ are.each departure before
        | inr same ↦ subst (λ (d : Departure V). Attained (point_of d) d.journey) same here
      ];
    }

-- a journey attains a point whatever its tag
pub attains_tagless : {V : Type 0} (rules : Rules V) (t : TimetableValue) (q : Query) (p : Point V) (j : JourneyValue)
    → Attains rules t q p j → Attains rules t q (tagless p) j
attains_tagless rules t q p j a = record { counts = a.counts; plain = a.plain; worth = a.worth }

pub between_tagless : {V : Type 0} (rules : Rules V) (t : TimetableValue) (b : SetQueryValue) (p : Point V) (j : JourneyValue)
    → AttainsBetween rules t b p j → AttainsBetween rules t b (tagless p) j
between_tagless rules t b p j a =
    record { pair = a.pair; attains = attains_tagless rules t (query_of_pair b a.pair) p j a.attains; plain = a.plain }

-- all points with their journeys are the answer
pub all_extracted : {V : Type 0} (rules : Rules V) (There : ℕ → V → Type 0) (Attained : Point V → JourneyValue → Type 0) (points : List (Point V)) (n : ℕ)
    (departures : List (Departure V)) → HaveJourneys Attained points n departures → length points ≤ n → IsAnswerOf rules There points
    → IsAnswerOf rules There (map point_of departures)
all_extracted rules There Attained points n departures are past =
    spelled_again_answer rules There points (map point_of departures) (are.first ∙ ap (map untagged) (take_all n points past))
