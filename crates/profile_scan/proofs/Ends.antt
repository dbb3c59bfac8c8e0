-- The two ends of the window, and the cut at the latest departure.
use Rattle.std.proofs.Common.{◌≡◌, ◌≢◌, ℕ, ◌+◌, ◌≤◌, List, [], ◌∷◌, Option, arith, refl, inl, inr}
use Rattle.std.proofs.lemmas.Bool.{cases_lt}
use Rattle.criteria.specs.Laws.{Rules}
use Rattle.timetable.specs.TimetableValue.{TimetableValue}
use Rattle.timetable.specs.JourneyValue.{RideValue, JourneyValue}
use Rattle.timetable.specs.Legal.{IsLegal}
use Rattle.timetable.specs.Journeys.{connection_at, walk_end, walk_secs, Leads, final_time, time_after, stop_after}
use Rattle.timetable.specs.Journeys.{first_departure, start_end, start_secs}
use Rattle.timetable.proofs.LegalLemmas.{hop_takes_time}
use Rattle.sources.specs.FirstAt.{IsFirstAt}
use Rattle.scan_state.specs.SetQuery.{SetQueryValue, CountsBetween}
use Rattle.scan_state.specs.Continuations.{Onward, Aboard, BoardsFrom, IsOnward, IsAboard, CountsFrom, time_off}
use Rattle.scan_state.specs.Matching.{Matches, MatchesBut}
use Rattle.profile_scan.specs.LawStatements.{NothingFollows, CutIsTheSources}
use Rattle.profile_scan.proofs.Times.{final_is_later, leg_takes_time}

-- no leg departs at the latest arrival or later
rides_too_late : (t : TimetableValue) (legal : IsLegal t) (goal stop time by end : ℕ) → IsFirstAt t by end
    → (rides : List RideValue) → BoardsFrom end rides → Leads t goal stop time rides → final_time t 0 rides ≤ by → ⊥
rides_too_late t legal goal stop time by end is_end [] from leads arrives = from
rides_too_late t legal goal stop time by end is_end (ride ∷ rides) from leads arrives =
    let rising = leads.0.rising in
    let in_last = leads.0.in_range in
    let late = is_end.after ride.leg.first from (omega arith) in
    let takes = leg_takes_time t legal ride.leg leads.0 in
    let later = final_is_later t legal goal (stop_after t ride) (time_after t ride) rides leads.5 in
    omega arith

none_onward : (t : TimetableValue) (q : SetQueryValue) → IsLegal t → (end stop time : ℕ) → IsFirstAt t q.by end → (x : Onward) → IsOnward t q end stop time x
    → ⊥
none_onward t q legal end stop time is_end x on =
    rides_too_late t legal on.goal (walk_end stop x.walk) (time + walk_secs x.walk) q.by end is_end x.rides on.boards
    on.leads on.arrives

none_aboard : (t : TimetableValue) (q : SetQueryValue) → IsLegal t → (end trip : ℕ) → IsFirstAt t q.by end → (x : Aboard) → IsAboard t q end trip x → ⊥
none_aboard t q legal end trip is_end x a =
    let late = is_end.after x.last a.later a.in_range in
    let hop = hop_takes_time t legal x.last a.in_range in
    let later = final_is_later t legal a.goal (walk_end (connection_at t x.last).to x.walk) (time_off t x) x.rides a.leads in
    let by = a.arrives in
    omega arith

none_counts : (t : TimetableValue) (q : SetQueryValue) → IsLegal t → (end departure : ℕ) → IsFirstAt t q.by end
    → (j : JourneyValue) → CountsFrom t q end departure j → ⊥
none_counts t q legal end departure is_end j c =
    rides_too_late t legal c.counts.pair.target (start_end c.counts.pair.source j.start) 0 q.by end is_end j.rides c.boards
    c.counts.counts.journey.leads c.counts.counts.arrives

-- where nothing is there, no points match
empty_matches : {V X : Type 0} (rules : Rules V) (spelled : ℕ → Option X) (IsThere : ℕ → X → Type 0) (IsPlainWay : X
    → Type 0) (value : X → V) → ((d : ℕ) (x : X) → IsThere d x → ⊥) → Matches rules spelled IsThere IsPlainWay value []
empty_matches rules spelled IsThere IsPlainWay value none = record {
  sound = λ p is. absurd (omega (arith, is.1));
  complete = λ d x there. absurd (none d x there);
}

empty_matches_but : {V X : Type 0} (rules : Rules V) (spelled : ℕ → Option X) (IsThere : ℕ → X → Type 0) (IsPlainWay : X
    → Type 0) (value : X → V) (Outdone : V → Type 0) → ((d : ℕ) (x : X) → IsThere d x → ⊥)
    → MatchesBut rules spelled IsThere IsPlainWay value Outdone []
empty_matches_but rules spelled IsThere IsPlainWay value Outdone none = record {
  sound = λ p is. absurd (omega (arith, is.1));
  complete = λ d x there. absurd (none d x there);
}

pub nothing_follows : {V : Type 0} (rules : Rules V) → NothingFollows rules
nothing_follows rules t q can end is_end tags = record {
  at_stops = λ stop _. empty_matches_but rules _ _ _ _ _ (λ time x on. none_onward t q can.legal end stop time is_end x on);
  in_trips = λ trip _. empty_matches_but rules _ _ _ _ _ (λ _ x l. none_aboard t q can.legal end trip is_end x l.aboard);
  at_source = empty_matches rules _ _ _ _ (λ departure j c. none_counts t q can.legal end departure is_end j c);
}

boards_in_window : (t : TimetableValue) (time start departure secs : ℕ) → IsFirstAt t time start
    → (rides : List RideValue) → rides ≢ [] → time ≤ departure → departure + secs ≡ first_departure t rides
    → BoardsFrom start rides
boards_in_window t time start departure secs is_start [] some early departs = some refl
boards_in_window t time start departure secs is_start (ride ∷ rides) some early departs =
    elim (cases_lt ride.leg.first start) [
      | inl lt ↦ let before = is_start.before ride.leg.first lt in absurd (omega arith)
      | inr ge ↦ ge
    ]

-- a journey that counts boards in the window
pub counts_in_window : (t : TimetableValue) (q : SetQueryValue) (start departure : ℕ) (j : JourneyValue)
    → IsFirstAt t q.from start → CountsBetween t q departure j → CountsFrom t q start departure j
counts_in_window t q start departure j is_start c =
    record {
      counts = c;
      boards = boards_in_window t q.from start departure (start_secs j.start) is_start j.rides
          c.counts.journey.has_rides c.counts.not_early c.counts.departs;
    }

pub until_matters_at_source : CutIsTheSources CountsBetween
until_matters_at_source = record {
  onward = λ t q until i stop time x on. record {
    walks = on.walks;
    is_walk = on.is_walk;
    boards = on.boards;
    goal = on.goal;
    is_goal = on.is_goal;
    leads = on.leads;
    arrives = on.arrives;
  };
  aboard = λ t q until i trip x a. record {
    later = a.later;
    in_range = a.in_range;
    on_trip = a.on_trip;
    alights =
        a.alights;
    is_walk = a.is_walk;
    walks = a.walks;
    goal = a.goal;
    is_goal = a.is_goal;
    leads = a.leads;
    arrives = a.arrives;
  };
  is_cut = λ t q departure j c. c.counts.not_late;
  at_source = λ t q until departure j le c. record {
    pair = record {
      source = c.pair.source;
      target = c.pair.target;
      is_source = c.pair.is_source;
      is_target = c.pair.is_target;
    };
    counts = record {
      journey = c.counts.journey;
      departs = c.counts.departs;
      not_early = c.counts.not_early;
      not_late = le;
      arrives = c.counts.arrives;
    };
  };
}
