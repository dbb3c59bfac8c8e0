use Rattle.std.proofs.Common.{◌<◌, ◌∙◌, length, false, sym, subst, ℕ}
use Rattle.std.proofs.lemmas.List.{append-nil, length-set}
use Rattle.connections.proofs.KeepSteps.{held_at, hold_kept, kept_same, kept_set}
use Rattle.connections.proofs.RunSteps.{running_at, runs_step}
use Rattle.connections.proofs.runs.add_runs_on.Goals as goal

pub loop-position-init : goal.loop-position-init
loop-position-init c = record {
  len = c.requires.same;
  kept = kept_same c.args.starts.now.items;
  runs = λ feed are holds. sym (append-nil c.args.runs.now.items);
}

pub loop-position-preserved : goal.loop-position-preserved
loop-position-preserved c =
    let position = c.loop-position.position in
    let trips = c.args.trips.now in
    let trip = c.index-trips-position.result in
    let lt = c.loop-position-test.true in
    let was = c.loop-position.invariant in
    let starts = c.loop-position.starts.items in
    let within : position < length starts = subst (λ (n : ℕ). position < n) (sym was.len) lt in
    let here = c.index_mut.result.now in
    record {
      len = length-set starts position c.add_run.new.starts ∙ was.len;
      kept = kept_set c.args.starts.now.items starts position here c.add_run.new.starts was.kept within c.index_mut.ensures.value
          c.in_ok-add_run.ensures.kept;
      runs = λ feed are holds.
          runs_step feed c.args.day trips position trip c.args.runs.now.items c.loop-position.runs.items c.add_run.new.runs.items lt
          c.index-trips-position.is (was.runs feed are holds)
          (c.in_ok-add_run.ensures.runs feed
          (running_at feed c.args.day trips c.args.running.now position trip false are lt c.index-trips-position.is)
          (held_at feed.frequencies.items (length trips) starts position here
          (hold_kept feed.frequencies.items (length trips) c.args.starts.now.items starts holds was.kept) lt c.index_mut.ensures.value));
    }
