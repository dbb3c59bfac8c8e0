use Rattle.std.proofs.Common.{◌≡◌, ◌<◌, ℕ, sym, subst, ◌∙◌}
use Rattle.scan_state.specs.SetQuery.{question}
use Rattle.scan_state.specs.ScanRecords.{KeptValue}
use Rattle.scan_state.specs.Keeping.{Leaves}
use Rattle.by_arrival.specs.ByArrival.{BoundExcludes, arrival_rules, stops_of, trips_of, value_by_arrival}
use Rattle.by_arrival.proofs.ByArrivalLemmas.{admits_kept, renewed_are, renewed_stops, renewed_trips, renewed_value, still_excludes}
use Rattle.scan_state.proofs.KeptLemmas.{goes_on}
use Rattle.scan_state.proofs.PartLemmas.{hop_within}
use Rattle.by_arrival.proofs.by_arrival_taking.ByArrivalKeepingArrival.take.Given as given
use Rattle.by_arrival.proofs.by_arrival_taking.ByArrivalKeepingArrival.take.Goals.{In_ok-alight, After-renew}
use Rattle.by_arrival.proofs.by_arrival_taking.ByArrivalKeepingArrival.take.Goals as goal

pub renew-requires : goal.renew-requires
renew-requires g c = record {
  limit = c.requires.keeping.are.limit;
  older = c.requires.bound;
  excludes = c.requires.keeping.excludes;
  more = c.requires.excludes;
}

pub alight-requires : goal.alight-requires
alight-requires g c =
    let hop = c.args.hop.now in
    let values = hop.bound.now in
    let renewed = c.renew.ensures in
    let keeping = c.requires.keeping in
    record {
      hop = hop_within arrival_rules (g.S.ConnSource.timetable c.args.source.now) (g.met.S.ConnSource.limits c.args.source.now)
          (question c.args.asked.now.query) hop c.requires.hop;
      are = renewed_are values c.args.self.now c.renew.new.self renewed keeping.are;
      excludes = renewed.excludes;
      trip = subst (λ (n : ℕ). hop.connection.trip < n)
          (sym (renewed_trips values c.args.self.now c.renew.new.self renewed ∙ keeping.trips_are)) c.requires.hop.on_trip;
      stop = subst (λ (n : ℕ). hop.connection.to < n)
          (sym (renewed_stops values c.args.self.now c.renew.new.self renewed ∙ keeping.stops_are)) c.requires.hop.ends;
    }

-- as many trips and stops once the trip is left
mid_trips : (g : given.Over) (c : goal.In_ok-alight g) → trips_of c.alight.new.self ≡ (g.S.ConnSource.timetable c.args.source.now).trips
mid_trips g c =
    c.in_ok-alight.ensures.like.trips ∙ renewed_trips c.args.hop.now.bound.now c.args.self.now c.renew.new.self c.renew.ensures
    ∙ c.requires.keeping.trips_are

mid_stops : (g : given.Over) (c : goal.In_ok-alight g) → stops_of c.alight.new.self ≡ (g.S.ConnSource.timetable c.args.source.now).stops
mid_stops g c =
    c.in_ok-alight.ensures.like.stops ∙ renewed_stops c.args.hop.now.bound.now c.args.self.now c.renew.new.self c.renew.ensures
    ∙ c.requires.keeping.stops_are

on_trip : (g : given.Over) (c : goal.In_ok-alight g) → c.args.hop.now.connection.trip < trips_of c.alight.new.self
on_trip g c = subst (λ (n : ℕ). c.args.hop.now.connection.trip < n) (sym (mid_trips g c)) c.requires.hop.on_trip

pub set_out-requires-clause-trip : goal.set_out-requires-clause-trip
set_out-requires-clause-trip g c = on_trip g (goal.at.set_out-requires-clause-trip g c).In_ok-alight

pub set_out-requires-clause-can : goal.set_out-requires-clause-can
set_out-requires-clause-can g c = record {
  hop = c.requires.hop;
  under = c.requires.source;
  labels = (admits_kept c.alight.new.self c.in_ok-alight.ensures.like.are).labels c.args.hop.now.connection.trip;
}

mid_excludes : (g : given.Over) (c : goal.In_ok-alight g) → BoundExcludes c.args.hop.now.bound.now c.alight.new.self
mid_excludes g c =
    still_excludes c.args.hop.now.bound.now c.renew.new.self c.alight.new.self c.in_ok-alight.ensures.like c.renew.ensures.excludes

pub board-requires : goal.board-requires
board-requires g c =
    let point = (goal.at.board-requires g c).In_ok-alight in
    record {
      are = c.in_ok-alight.ensures.like.are;
      stands = c.requires.hop.stands;
      begins = c.requires.hop.begins;
      trip = on_trip g point;
      stops_are = mid_stops g point;
      excludes = mid_excludes g point;
    }

pub returns : goal.returns
returns g c =
    let point = (goal.at.returns g c).In_ok-alight in
    let t = g.S.ConnSource.timetable c.args.source.now in
    let hop = c.args.hop.now in
    let q = question c.args.asked.now.query in
    let mid = c.alight.new.self in
    let new = c.board.new.self in
    let boards = c.in_ok-board.ensures in
    record {
      keeping = record {
        are = boards.like.are;
        stops_are = boards.like.stops ∙ mid_stops g point;
        trips_are = boards.like.trips ∙ mid_trips g point;
        excludes = still_excludes hop.bound.now mid new boards.like (mid_excludes g point);
        admitted = admits_kept new boards.like.are;
      };
      source = c.in_ok-set_out.ensures.under;
      between = value_by_arrival mid;
      leaves = subst (λ (was : KeptValue ℕ). Leaves arrival_rules q hop was (value_by_arrival mid))
          (renewed_value hop.bound.now c.args.self.now c.renew.new.self c.renew.ensures) c.in_ok-alight.ensures.leaves;
      goes_on = goes_on arrival_rules t g.O.AtSource.sources g.O.AtSource.kept q hop (value_by_arrival mid) (value_by_arrival new)
          c.args.origin.now c.set_out.new.origin c.in_ok-set_out.ensures.set_outs c.in_ok-set_out.ensures.takes boards.takes;
    }
