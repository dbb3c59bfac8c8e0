use Rattle.std.proofs.Common.{◌≡◌, ℕ, List, Option, None, length, subst, sym, ◌∙◌, ap, arith}
use Rattle.std.proofs.lemmas.Grind.{common_steps}
use Rattle.std.proofs.lemmas.Result.{err_from_is_err_and}
use Rattle.footpaths.specs.Search.{time_at, AreCappedLeast}
use Rattle.footpaths.specs.Collected.{IsClosedInto}
use Rattle.footpaths.proofs.ClosureLemmas.{written_back}
use Rattle.footpaths.proofs.closure.close_to.Goals as goal

pub returns-in_err-collect-clause-fault : goal.returns-in_err-collect-clause-fault
returns-in_err-collect-clause-fault c =
    let least : AreCappedLeast c.args.listed.now c.args.cap c.loop-target.target c.fill.new.self.times.items =
    c.in_ok-fill.ensures.least c.args.listed.now c.in_ok-index.ensures.index in
    let p = err_from_is_err_and c.from_residual-in_err-collect.result c.from_residual-in_err-collect.ensures.1 in
    rw (p.1, p.2) (c.in_err-collect.ensures.fault c.args.listed.now c.args.cap c.loop-target.invariant.closed
    (subst (λ (ts : List (Option ℕ)). AreCappedLeast c.args.listed.now c.args.cap c.loop-target.target ts) (sym c.deref_mut.ensures.value) least))

pub loop-target-preserved : goal.loop-target-preserved
loop-target-preserved c =
    let least : AreCappedLeast c.args.listed.now c.args.cap c.loop-target.target c.fill.new.self.times.items =
    c.in_ok-fill.ensures.least c.args.listed.now c.in_ok-index.ensures.index in
    let same : length c.collect.new.times ≡ length c.fill.new.self.times.items = c.collect.auto.times ∙ ap length c.deref_mut.ensures.value in
    let count : c.fill.new.self.times.len ≡ length c.fill.new.self.times.items = grind (arith, common_steps) in
    let back = written_back c.fill.new.self.times.len c.collect.new.times c.fill.new.self.times.items same count in
    record {
      count = ap length back ∙ same ∙ c.in_ok-fill.ensures.count ∙ c.loop-target.invariant.count;
      empty = λ stop. subst (λ (ts : List (Option ℕ)). time_at ts stop ≡ None) (sym back) (c.in_ok-collect.ensures.cleared stop);
      nothing = c.clear.ensures.items;
      idle = c.in_ok-fill.ensures.idle;
      closed = c.in_ok-collect.ensures.closed c.args.listed.now c.args.cap c.loop-target.invariant.closed
          (subst (λ (ts : List (Option ℕ)). AreCappedLeast c.args.listed.now c.args.cap c.loop-target.target ts) (sym c.deref_mut.ensures.value) least);
      few = c.in_ok-collect.ensures.few c.loop-target.invariant.few;
    }

pub returns-clause-closed : goal.returns-clause-closed
returns-clause-closed c =
    let all : c.loop-target.target ≡ c.args.stops = omega (arith, c.loop-target-test.false, c.loop-target.auto.target-end) in
    subst (λ (n : ℕ). IsClosedInto c.args.listed.now c.args.cap n c.loop-target.closed.items) all c.loop-target.invariant.closed
