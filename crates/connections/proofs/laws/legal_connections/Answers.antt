use Rattle.connections.proofs.laws.legal_connections.Goals as goal

pub returns-clause-has : goal.returns-clause-has
returns-clause-has c t legal = record {
  stops_in_range = legal.stops_in_range;
  trips_in_range = legal.trips_in_range;
  takes_time = legal.takes_time;
  departures_never_fall = legal.departures_never_fall;
  unbroken = legal.unbroken;
}

pub returns-clause-takes : goal.returns-clause-takes
returns-clause-takes c t trips connections legal has = record {
  stops_in_range = has.stops_in_range;
  trips_in_range = has.trips_in_range;
  ends_in_range = legal.ends_in_range;
  takes_time = has.takes_time;
  departures_never_fall = has.departures_never_fall;
  unbroken = has.unbroken;
  in_order = legal.in_order;
  loops = legal.loops;
  closed = legal.closed;
}
