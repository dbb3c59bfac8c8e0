use Rattle.std.proofs.Common.{◌<◌, ◌+◌, ◌∙◌, length, false, sym, subst, take, ℕ, List}
use Rattle.std.proofs.lemmas.List.{length-set, take_all}
use Rattle.gtfs_tables.specs.declared.tables.Trip.{Trip}
use Rattle.timetable.specs.declared.limits.TheConstants.{MAX_TRIPS}
use Rattle.connections.specs.Counting.{IsCount}
use Rattle.connections.specs.Runs.{runs_from}
use Rattle.connections.proofs.KeepSteps.{held_at, hold_kept, kept_same, kept_set}
use Rattle.connections.proofs.RunSteps.{count_begun, count_step, running_at}
use Rattle.connections.proofs.runs.count_with_trips.Goals as goal

pub loop-position-init : goal.loop-position-init
loop-position-init c = record {
  len = c.requires.same;
  kept = kept_same c.args.starts.now.items;
  count = λ feed day n are holds was. count_begun MAX_TRIPS c.args.before n was;
}

pub loop-position-preserved : goal.loop-position-preserved
loop-position-preserved c =
    let position = c.loop-position.position in
    let trips = c.args.trips.now in
    let trip = c.index-trips-position.result in
    let lt = c.loop-position-test.true in
    let was = c.loop-position.invariant in
    let starts = c.loop-position.starts.items in
    let within : position < length starts = subst (λ (n : ℕ). position < n) (sym was.len) lt in
    let here = c.index_mut.result.now in
    record {
      len = length-set starts position c.count_with_trip.new.starts ∙ was.len;
      kept = kept_set c.args.starts.now.items starts position here c.count_with_trip.new.starts was.kept within c.index_mut.ensures.value
          c.in_ok-count.ensures.kept;
      count = λ feed day n are holds begun.
          count_step feed day trips position trip MAX_TRIPS n c.in_ok-count.count lt c.index-trips-position.is
          (c.in_ok-count.ensures.count feed day position (n + length (runs_from feed day 0 (take position trips)))
          (running_at feed day trips c.args.running.now position trip false are lt c.index-trips-position.is)
          (held_at feed.frequencies.items (length trips) starts position here
          (hold_kept feed.frequencies.items (length trips) c.args.starts.now.items starts holds was.kept) lt c.index_mut.ensures.value)
          (was.count feed day n are holds begun));
    }

pub returns-clause-count : goal.returns-clause-count
returns-clause-count c feed day n are holds was =
    subst (λ (ts : List Trip). IsCount MAX_TRIPS c.loop-position.count (n + length (runs_from feed day 0 ts)))
    (take_all c.loop-position.position c.args.trips.now c.loop-position-test.false) (c.loop-position.invariant.count feed day n are holds was)
