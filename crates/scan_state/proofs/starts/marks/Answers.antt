use Rattle.std.proofs.Common.{◌≡◌, ◌<◌, ℕ, length, get_or, sym, ◌∙◌, subst, arith}
use Rattle.std.proofs.lemmas.Option.{slice_get-get_or}
use Rattle.reasoning.proofs.ListLemmas.{contains_at}
use Rattle.scan_state.specs.Starts.{AreMarked}
use Rattle.scan_state.proofs.StartLemmas.{mark_more, none_marked}
use Rattle.scan_state.proofs.starts.marks.Goals as goal

pub loop-k-init : goal.loop-k-init
loop-k-init c = none_marked c.args.sources.now c.args.stops c.in_ok-marked.marked.items c.in_ok-marked.ensures

pub index_mut-requires : goal.index_mut-requires
index_mut-requires c =
    let stop = get_or c.args.sources.now c.loop-k.k 0 in
    let at = slice_get-get_or c.args.sources.now c.loop-k.k 0 c.loop-k-test.true in
    let in_stops = c.requires stop (contains_at c.args.sources.now c.loop-k.k stop at) in
    subst (λ (n : ℕ). stop < n) (sym (c.loop-k.marked.ok.0 ∙ c.loop-k.invariant.long)) in_stops

pub loop-k-preserved : goal.loop-k-preserved
loop-k-preserved c =
    let at = slice_get-get_or c.args.sources.now c.loop-k.k 0 c.loop-k-test.true in
    mark_more c.args.sources.now c.loop-k.k c.args.stops (get_or c.args.sources.now c.loop-k.k 0) c.loop-k.marked.items at c.loop-k.invariant

pub returns : goal.returns
returns c =
    let over = c.loop-k-test.false in
    let within = c.loop-k.auto.k-end in
    let at_end : c.loop-k.k ≡ length c.args.sources.now = omega arith in
    subst (λ (n : ℕ). AreMarked c.args.sources.now n c.args.stops c.loop-k.marked.items) at_end c.loop-k.invariant
