use Rattle.std.proofs.Common.{◌+◌, ◌∙◌, sym, subst, length, take, List, get_or}
use Rattle.gtfs_rows.specs.declared.values.Day.{Day}
use Rattle.gtfs_tables.specs.declared.tables.Trip.{Trip}
use Rattle.timetable.specs.declared.limits.TheConstants.{MAX_TRIPS}
use Rattle.connections.specs.Counting.{IsCount}
use Rattle.connections.specs.Runs.{runs_from, runs_of_days}
use Rattle.connections.proofs.ActiveSteps.{active_all, active_at}
use Rattle.connections.proofs.KeepSteps.{hold_kept, kept_then}
use Rattle.connections.proofs.RunSteps.{days_count_step}
use Rattle.connections.proofs.runs.count_runs.Goals as goal

pub loop-active-preserved : goal.loop-active-preserved
loop-active-preserved c =
    let none : Day = record { year = 0; month = 0; day = 0 } in
    let lists = c.args.services.now.active.items in
    let i = c.loop-active.active-index in
    let was = c.loop-active.invariant in
    let before = c.loop-active.starts.items in
    let kept = c.in_ok-count.ensures.kept in
    record {
      len = kept.same_length ∙ was.len;
      kept = kept_then c.args.starts.now.items before c.count_with_day.new.starts.items was.kept kept;
      count = λ feed days trips_are holds active.
          let n = length (runs_of_days feed (take i days)) in
          let day = get_or days i none in
          let here = active_at feed active.names days lists i c.active-item.result none active.active
          (rw c.deref-active-items.ensures.value at c.loop-active-test.true) (rw c.deref-active-items.ensures.value at c.active-item.is) in
          days_count_step feed days i none MAX_TRIPS c.in_ok-count.count here.0
          (subst (λ (ts : List Trip). IsCount MAX_TRIPS c.in_ok-count.count (n + length (runs_from feed day 0 ts))) (sym trips_are)
          (c.in_ok-count.ensures.count feed day active.names n
          (hold_kept feed.frequencies.items (length c.args.trips.now) c.args.starts.now.items before holds was.kept)
          (rw c.deref-in-loop-active.ensures.value active.named) (c.deref.ensures.value ∙ here.1)
          (was.count feed days trips_are holds active)));
    }

pub returns-clause-count : goal.returns-clause-count
returns-clause-count c feed days trips_are holds active =
    subst (λ ds. IsCount MAX_TRIPS c.loop-active.count (length (runs_of_days feed ds)))
    (active_all feed active.names days c.args.services.now.active.items c.loop-active.active-index active.active
    (rw c.deref-active-items.ensures.value at c.loop-active-test.false))
    (c.loop-active.invariant.count feed days trips_are holds active)
