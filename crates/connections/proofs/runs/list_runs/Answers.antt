use Rattle.std.proofs.Common.{◌≡◌, ◌++◌, ◌∙◌, ap, get_or, length, map, pos, sym, List}
use Rattle.std.proofs.lemmas.List.{get_or_default}
use Rattle.gtfs_tables.specs.declared.tables.Trip.{Trip}
use Rattle.connections.specs.Runs.{runs_from, runs_on}
use Rattle.connections.specs.declared.days.ServiceDay.{ServiceDay}
use Rattle.connections.proofs.ActiveSteps.{active_on}
use Rattle.connections.proofs.KeepSteps.{hold_kept, kept_then}
use Rattle.connections.proofs.RunSteps.{days_step}
use Rattle.connections.proofs.runs.list_runs.Goals as goal

pub loop-number-preserved : goal.loop-number-preserved
loop-number-preserved c =
    let days = c.args.days.now in
    let i = c.loop-number.number in
    let none : ServiceDay = record { day = record { year = 0; month = 0; day = 0 }; start = pos 0 } in
    let day : ServiceDay = get_or days i none in
    let is : day ≡ get_or days i day = get_or_default days i none day c.loop-number-test.true in
    let was = c.loop-number.invariant in
    let before = c.loop-number.starts.items in
    let kept = c.in_ok-add_runs_on.ensures.kept in
    record {
      len = kept.same_length ∙ was.len;
      kept = kept_then c.args.starts.now.items before c.add_runs_on.new.starts.items was.kept kept;
      runs = λ feed trips_are holds active.
          let marked : c.deref-in-loop-number-2.result.now ≡ map (runs_on feed day.day) c.args.trips.now =
          c.deref-in-loop-number-2.ensures.value ∙ c.in_ok-running.ensures.marked feed day.day active.names
          (rw c.deref-in-loop-number.ensures.value active.named)
          (c.deref.ensures.value ∙ active_on feed active.names days c.args.services.now.active.items i c.index.result.now day
          active.active c.loop-number-test.true
          is c.index.ensures) in
          let added : c.add_runs_on.new.runs.items ≡ c.loop-number.runs.items ++ runs_from feed day.day 0 feed.trips.items =
          c.in_ok-add_runs_on.ensures.runs feed marked
          (hold_kept feed.frequencies.items (length c.args.trips.now) c.args.starts.now.items before holds was.kept)
          ∙ ap (λ (ts : List Trip). c.loop-number.runs.items ++ runs_from feed day.day 0 ts) (sym trips_are) in
          days_step feed days i day c.loop-number.runs.items c.add_runs_on.new.runs.items c.loop-number-test.true
          is (was.runs feed trips_are holds active) added;
    }
