use Rattle.std.proofs.Common.{◌≡◌, ◌+◌, ℕ, Option, length, get_or, sym, subst, arith}
use Rattle.std.proofs.lemmas.Option.{slice_get-get_or}
use Rattle.reasoning.proofs.ListLemmas.{contains_at}
use Rattle.scan_state.specs.ScanState.{final_walks_of}
use Rattle.scan_state.specs.Nearest.{IsShortestWalk, shorter_of}
use Rattle.scan_state.specs.declared.final_walks.FinalWalk.{FinalWalk}
use Rattle.scan_state.proofs.FinalWalkLemmas.{shortest_more}
use Rattle.scan_state.proofs.final_walk_table.FinalWalks.direct_walk.Goals as goal

pub loop-k-init : goal.loop-k-init
loop-k-init c = λ k stop lt at. absurd (omega (arith, lt))

pub final_walk_from-way-requires : goal.final_walk_from-way-requires
final_walk_from-way-requires c =
    let stop = get_or c.args.sources.now c.loop-k.k 0 in
    c.requires stop (contains_at c.args.sources.now c.loop-k.k stop (slice_get-get_or c.args.sources.now c.loop-k.k 0 c.loop-k-test.true))

pub loop-k-preserved : goal.loop-k-preserved
loop-k-preserved c =
    let final_walks = final_walks_of c.args.self.now in
    let at = slice_get-get_or c.args.sources.now c.loop-k.k 0 c.loop-k-test.true in
    let more = shortest_more final_walks c.args.sources.now c.loop-k.k (get_or c.args.sources.now c.loop-k.k 0) at c.loop-k.best c.loop-k.invariant in
    let says =
    subst (λ (w : Option FinalWalk). IsShortestWalk final_walks c.args.sources.now (c.loop-k.k + 1)
    (shorter_of c.loop-k.best (get_or c.args.sources.now c.loop-k.k 0) w))
    (sym c.final_walk_from-way.ensures) more in
    subst (IsShortestWalk final_walks c.args.sources.now (c.loop-k.k + 1)) (sym c.shorter-best.ensures) says

pub returns : goal.returns
returns c =
    let over = c.loop-k-test.false in
    let within = c.loop-k.auto.k-end in
    let at_end : c.loop-k.k ≡ length c.args.sources.now = omega arith in
    subst (λ (n : ℕ). IsShortestWalk (final_walks_of c.args.self.now) c.args.sources.now n c.loop-k.best) at_end c.loop-k.invariant
