use Rattle.std.proofs.Common.{◌≡◌, ◌<◌, ◌^◌, ◌++◌, ◌∷◌, [], not, ◌&&◌, ◌==◌, length, ap, ◌∙◌, subst, arith, ℕ}
use Rattle.connections.specs.Times.{AreTimesBefore, is_moved_before, lifted_by}
use Rattle.connections.specs.declared.times.RowTimes.{RowTimes}
use Rattle.connections.proofs.TimeSteps.{lifted_more, lifted_none, left_fits}
use Rattle.connections.proofs.times.trip_times.Goals as goal

pub loop-index-init : goal.loop-index-init
loop-index-init c = record { lifted = rw c.in_ok-times.ensures.items (lifted_none c.args.rows.now); spread = c.in_ok-spread.ensures }

pub lift-time-requires : goal.lift-time-requires
lift-time-requires c =
    let ok = c.loop-index.times.ok in
    let same = c.loop-index.invariant.lifted.same_length in
    let index_small : c.loop-index.index < 2 ^ 63 = omega (arith, ok.0, ok.1, same) in
    left_fits c.args.rows.now c.loop-index.left c.loop-index.index c.loop-index.invariant.lifted.left_is index_small

pub loop-index-preserved : goal.loop-index-preserved
loop-index-preserved c =
    let index = c.loop-index.index in
    let here = c.time_at-arrival.ensures in
    let a : ℕ = c.time_at-arrival.result.0 in
    let d : ℕ = c.time_at-arrival.result.1 in
    let more = lifted_more c.args.rows.now c.loop-index.times.items c.loop-index.lifted c.loop-index.left index a d c.loop-index.invariant.lifted
    (ap (λ (p : ℕ × ℕ). p.0) here) (ap (λ (p : ℕ × ℕ). p.1) here) c.lift-time.ensures.range.0 c.lift-time.ensures.range.1 in
    let moved : c.is_lifted-lifted.result ≡ not (((lifted_by c.loop-index.left a d).arrival == a) && ((lifted_by c.loop-index.left a d).departure == d)) =
    c.is_lifted-lifted.ensures ∙ ap (λ (t : RowTimes). not ((t.arrival == a) && (t.departure == d))) c.lift-time.ensures.value in
    let pushed : c.push.new.self.items ≡ c.loop-index.times.items ++ lifted_by c.loop-index.left a d ∷ [] =
    c.in_ok-push.ensures.items ∙ ap (λ (t : RowTimes). c.loop-index.times.items ++ t ∷ []) c.lift-time.ensures.value in
    record { lifted = rw (pushed, moved, c.lift-time.ensures.value) more; spread = c.loop-index.invariant.spread }

pub returns : goal.returns
returns c =
    let done = c.loop-index.invariant.lifted in
    let end : c.loop-index.index ≡ length c.args.rows.now = omega (arith, c.loop-index-test.false, c.loop-index.auto.index-end) in
    record {
      same_length = done.same_length ∙ end;
      times_are = subst (λ (n : ℕ). AreTimesBefore c.args.rows.now c.loop-index.times.items n) end done.times_are;
      lifted = done.moved_is ∙ ap (is_moved_before c.args.rows.now) end;
    }
