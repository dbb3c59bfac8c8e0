use Rattle.std.proofs.Common.{◌≡◌, ◌+◌, ◌-◌, ◌<◌, List, length, get_or, subst, sym, ◌∙◌, arith}
use Rattle.std.proofs.lemmas.Option.{slice_get-get_or}
use Rattle.timetable.specs.declared.network.Footpath.{Footpath}
use Rattle.timetable.specs.Legal.{At}
use Rattle.footpaths.specs.Index.{IsLastInto, AddsThoseFrom}
use Rattle.footpaths.proofs.IndexLemmas.{adds_none, adds_more, no_path}
use Rattle.footpaths.proofs.index.add_chain.Goals as goal

pub loop-position-init : goal.loop-position-init
loop-position-init c = record {
  in_range = c.requires.in_range;
  into = λ stop last. last.into;
  adds = λ stop last. adds_none c.args.listed.now c.args.paths.now.items stop c.args.last last;
}

pub loop-position-smaller : goal.loop-position-smaller
loop-position-smaller c =
    let below : c.loop-position.position - 1 < length c.args.listed.now = omega (arith, c.loop-position-test.true, c.loop-position.invariant.in_range) in
    let before = c.requires.before (c.loop-position.position - 1) (get_or c.args.listed.now (c.loop-position.position - 1) no_path) below
    (slice_get-get_or c.args.listed.now (c.loop-position.position - 1) no_path below) in
    omega (arith, before.within, c.loop-position-test.true)

pub loop-position-preserved : goal.loop-position-preserved
loop-position-preserved c =
    let path : Footpath = get_or c.args.listed.now (c.loop-position.position - 1) no_path in
    let below : c.loop-position.position - 1 < length c.args.listed.now = omega (arith, c.loop-position-test.true, c.loop-position.invariant.in_range) in
    let number : c.loop-position.position ≡ (c.loop-position.position - 1) + 1 = omega (arith, c.loop-position-test.true) in
    let at_path : At c.args.listed.now (c.loop-position.position - 1) path = slice_get-get_or c.args.listed.now (c.loop-position.position - 1) no_path below in
    let before : IsLastInto c.args.listed.now path.to (c.loop-position.position - 1) (get_or c.args.before.now (c.loop-position.position - 1) 0) =
    c.requires.before (c.loop-position.position - 1) path below at_path in
    record {
      in_range = omega (arith, before.within, below);
      into = λ stop into_stop i f e at. before.into i f e at ∙ c.loop-position.invariant.into stop into_stop (c.loop-position.position - 1) path number at_path;
      adds = λ stop into_stop.
          subst (λ (xs : List Footpath). AddsThoseFrom c.args.listed.now stop
          (get_or c.args.before.now (c.loop-position.position - 1) 0) c.args.paths.now.items xs)
          (sym c.in_ok-push.ensures.items)
          (adds_more c.args.listed.now c.args.paths.now.items c.loop-position.paths.items stop c.loop-position.position
          (c.loop-position.position - 1) path at_path number
          (c.loop-position.invariant.into stop into_stop (c.loop-position.position - 1) path number at_path)
          (get_or c.args.before.now (c.loop-position.position - 1) 0) before (c.loop-position.invariant.adds stop into_stop));
    }
