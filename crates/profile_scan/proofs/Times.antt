-- Times rise along a journey.
use Rattle.std.proofs.Common.{◌≡◌, ◌≢◌, ℕ, zero, suc, ◌+◌, ◌-◌, ◌<◌, ◌≤◌, List, [], ◌∷◌, length, arith, refl, sym, subst, inl, inr}
use Rattle.std.proofs.lemmas.Bool.{cases_lt, cases_eq}
use Rattle.timetable.specs.declared.network.Connection.{Connection}
use Rattle.timetable.specs.declared.journey.Leg.{Leg}
use Rattle.timetable.specs.TimetableValue.{TimetableValue}
use Rattle.timetable.specs.JourneyValue.{RideValue}
use Rattle.timetable.specs.Legal.{IsLegal}
use Rattle.timetable.specs.Journeys.{connection_at, IsLeg, Leads, final_time, time_after, stop_after}
use Rattle.timetable.proofs.LegalLemmas.{connection_at-stands, connection_at-is, hop_takes_time, departures_rise}
use Rattle.scan_state.specs.Continuations.{BoardsFrom}
use Rattle.profile_scan.specs.LawStatements.{DeparturesRise, TogetherNeverContinue}

-- the last place before a connection, from i on, at which its trip stands
pub record IsLastOfTrip (t : TimetableValue) (i j trip k : ℕ) : Type 0 where
  pub not_before : i ≤ k
  pub before : k < j
  pub on_trip : (connection_at t k).trip ≡ trip
  pub none_between : (m : ℕ) → k < m → m < j → (connection_at t m).trip ≢ trip

last_of_trip : (t : TimetableValue) (i trip n : ℕ) → (connection_at t i).trip ≡ trip → (k : ℕ) × IsLastOfTrip t i (i + suc n) trip k
last_of_trip t i trip zero on = (
  i,
  record {
    not_before = omega arith;
    before = omega arith;
    on_trip =
        on;
    none_between = λ m above below. absurd (omega arith);
  },
)
last_of_trip t i trip (suc n) on =
    let more : i + suc (suc n) ≡ suc (i + suc n) = omega arith in
    elim (cases_eq (connection_at t (i + suc n)).trip trip) [
      | inl here ↦ (i + suc n, record { not_before = omega arith; before = omega arith; on_trip = here; none_between = λ m above below. absurd (omega arith) })
      | inr other ↦
          let before = last_of_trip t i trip n on in (
            before.0,
            record {
              not_before = before.1.not_before;
              before = omega (arith, before.1.before);
              on_trip = before.1.on_trip;
              none_between = λ m above below. elim (cases_eq m (i + suc n)) [
                | inl same ↦ subst (λ (k : ℕ). (connection_at t k).trip ≢ trip) (sym same) other
                | inr less ↦ before.1.none_between m above (omega arith)
              ];
            },
          )
    ]

module _ (t : TimetableValue) (legal : IsLegal t) where
  -- a trip's connections depart one after the other
  pub trip_departs_later : (i j : ℕ) → i < j → j < length t.connections
      → (connection_at t i).trip ≡ (connection_at t j).trip → (connection_at t i).dep < (connection_at t j).dep
  trip_departs_later i j lt in_j on =
      let n = j - suc i in
      let j_is : i + suc n ≡ j = omega arith in
      let found = last_of_trip t i (connection_at t j).trip n on in
      let k = found.0 in
      let last : IsLastOfTrip t i j (connection_at t j).trip k = subst (λ (m : ℕ). IsLastOfTrip t i m (connection_at t j).trip k) j_is found.1 in
      let in_k : k < length t.connections = omega (arith, last.before) in
      let run : ((connection_at t k).to ≡ (connection_at t j).from)
      × ((connection_at t k).arr ≤ (connection_at t j).dep) =
      legal.unbroken k j (connection_at t k) (connection_at t j) (record {
        first = connection_at-stands t k in_k;
        second = connection_at-stands t j in_j;
        before = last.before;
        same_trip = last.on_trip;
        none_between = λ m e at above below. subst (λ (c : Connection). c.trip ≢ (connection_at t j).trip)
            (connection_at-is t m e at) (last.none_between m above below);
      }) in
      let hop = hop_takes_time t legal k in_k in
      let rise = departures_rise t legal k i last.not_before in_k in
      omega (arith, run.1, hop, rise)

  -- what departs after another arrived stands later in the list
  pub stands_later : (i j : ℕ) → i < length t.connections → j < length t.connections → (connection_at t i).arr ≤ (connection_at t j).dep → i < j
  stands_later i j in_i in_j after =
      elim (cases_lt i j) [
        | inl lt ↦ lt
        | inr ge ↦
            let hop = hop_takes_time t legal i in_i in
            let rise = departures_rise t legal i j ge in_i in
            absurd (omega arith)
      ]

  -- a leg arrives after it departs
  pub leg_takes_time : (leg : Leg) → IsLeg t leg → (connection_at t leg.first).dep < (connection_at t leg.last).arr
  leg_takes_time leg is =
      let hop = hop_takes_time t legal leg.last is.in_range in
      let rise = departures_rise t legal leg.last leg.first is.rising is.in_range in
      omega arith

  -- rides are over no earlier than they begin
  pub final_is_later : (goal stop time : ℕ) (rides : List RideValue) → Leads t goal stop time rides → time ≤ final_time t time rides
  final_is_later goal stop time [] leads = omega arith
  final_is_later goal stop time (ride ∷ rides) leads =
      let more = final_is_later goal (stop_after t ride) (time_after t ride) rides leads.5 in
      let takes = leg_takes_time ride.leg leads.0 in
      let wait = leads.2 in
      omega arith

  -- rides that lead on after a connection arrived board later ones
  later_are_boarded : (goal stop time i : ℕ) (rides : List RideValue) → i < length t.connections
      → (connection_at t i).arr ≤ time → rides ≢ [] → Leads t goal stop time rides → BoardsFrom (i + 1) rides
  later_are_boarded goal stop time i [] in_i after some leads = absurd (some refl)
  later_are_boarded goal stop time i (ride ∷ rides) in_i after some leads =
      let rising = leads.0.rising in
      let in_last = leads.0.in_range in
      let wait = leads.2 in
      let later = stands_later i ride.leg.first in_i (omega arith) (omega arith) in
      omega arith

  pub departures_are_apart : DeparturesRise t
  departures_are_apart = record {
    in_trips = trip_departs_later;
    in_rides = λ goal stop time ride next rides leads.
        let hop = hop_takes_time t legal ride.leg.last leads.0.in_range in
        let wait = leads.5.2 in
        omega arith;
    boards_later = later_are_boarded;
  }

pub together_never_continue : TogetherNeverContinue
together_never_continue = departures_are_apart
