use Rattle.std.proofs.Common.{◌+◌, ◌<◌, ℕ, List, Option, None, length, get_or, set, refl, subst, sym, arith}
use Rattle.std.proofs.lemmas.Result.{err_from_is_err_and}
use Rattle.timetable.specs.declared.network.Footpath.{Footpath}
use Rattle.footpaths.proofs.ClosureLemmas.{AreTaken, IsClosing, taken_start, closing_start, taken_more, closing_more, take_fault, all_taken, closed_more}
use Rattle.footpaths.proofs.closure.collect.Goals as goal

pub loop-stop-init : goal.loop-stop-init
loop-stop-init c = record {
  taken = taken_start c.args.times.now c.args.reached.now;
  closing = λ listed cap old least. closing_start listed cap c.args.target c.args.times.now c.args.reached.now c.args.closed.now.items old;
  few = λ few. few;
}

pub loop-stop-preserved : goal.loop-stop-preserved
loop-stop-preserved c =
    let stop : ℕ = get_or c.args.reached.now c.loop-stop.stop-index 0 in
    let out = c.loop-stop.invariant.taken in
    let inside : stop < length c.loop-stop.times = omega (arith, c.requires.reached.inside c.loop-stop.stop-index 0 c.loop-stop-test.true, out.same_length) in
    record {
      taken =
          subst (λ (ts : List (Option ℕ)). AreTaken c.args.times.now c.args.reached.now (c.loop-stop.stop-index + 1) ts) (sym c.in_ok-take_time.ensures.times)
          (taken_more c.args.times.now c.args.reached.now c.loop-stop.stop-index stop c.loop-stop.times inside refl out);
      closing = λ listed cap old least.
          subst (λ (ts : List (Option ℕ)). IsClosing listed cap c.args.target c.args.times.now c.args.reached.now (c.loop-stop.stop-index + 1) ts
          c.take_time.new.closed.items) (sym c.in_ok-take_time.ensures.times)
          (subst (λ (xs : List Footpath). IsClosing listed cap c.args.target c.args.times.now c.args.reached.now (c.loop-stop.stop-index + 1)
          (set c.loop-stop.times stop None) xs) (sym c.in_ok-take_time.ensures.closed)
          (closing_more listed cap c.args.target c.args.times.now c.args.reached.now c.loop-stop.stop-index stop c.loop-stop.times c.loop-stop.closed.items
          inside refl c.loop-stop-test.true c.requires.sorted out (c.loop-stop.invariant.closing listed cap old least) least));
      few = λ few. c.in_ok-take_time.ensures.few (c.loop-stop.invariant.few few);
    }

pub returns-in_err-take_time-clause-fault : goal.returns-in_err-take_time-clause-fault
returns-in_err-take_time-clause-fault c = λ listed cap old least.
    let stop : ℕ = get_or c.args.reached.now c.loop-stop.stop-index 0 in
    let out = c.loop-stop.invariant.taken in
    let inside : stop < length c.loop-stop.times = omega (arith, c.requires.reached.inside c.loop-stop.stop-index 0 c.loop-stop-test.true, out.same_length) in
    let p = err_from_is_err_and c.from_residual.result c.from_residual.ensures.1 in
    rw (p.1, p.2) (take_fault listed cap c.args.target c.args.times.now c.args.reached.now c.loop-stop.stop-index stop c.loop-stop.times
    c.loop-stop.closed.items inside refl c.loop-stop-test.true c.requires.sorted out (c.loop-stop.invariant.closing listed cap old least) least c.args.most
    c.in_err-take_time.field-0.0 c.in_err-take_time.ensures.fault)

pub returns-clause-cleared : goal.returns-clause-cleared
returns-clause-cleared c = all_taken c.args.times.now c.args.reached.now c.loop-stop.stop-index c.loop-stop.times c.loop-stop-test.false c.requires.reached
    c.loop-stop.invariant.taken

pub returns-clause-closed : goal.returns-clause-closed
returns-clause-closed c = λ listed cap old least.
    let empty = all_taken c.args.times.now c.args.reached.now c.loop-stop.stop-index c.loop-stop.times c.loop-stop-test.false c.requires.reached
    c.loop-stop.invariant.taken in
    closed_more listed cap c.args.target c.args.times.now c.args.reached.now c.loop-stop.stop-index c.loop-stop.times c.loop-stop.closed.items empty least
    (c.loop-stop.invariant.closing listed cap old least)
