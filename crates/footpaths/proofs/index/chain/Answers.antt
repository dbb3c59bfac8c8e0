use Rattle.std.proofs.Common.{◌≡◌, ◌+◌, ◌<◌, ℕ, List, ◌++◌, ◌∷◌, [], length, get_or, set, ap, subst, sym, ◌∙◌, arith, length-append}
use Rattle.std.proofs.Math.ListN.{length-set}
use Rattle.std.proofs.lemmas.List.{get_or_default}
use Rattle.std.proofs.lemmas.Option.{slice_get-get_or}
use Rattle.timetable.specs.declared.network.Footpath.{Footpath}
use Rattle.timetable.specs.Legal.{At}
use Rattle.footpaths.specs.Index.{AreChains}
use Rattle.footpaths.proofs.IndexLemmas.{chains_more, no_path}
use Rattle.footpaths.proofs.index.chain.Goals as goal

pub loop-i-preserved : goal.loop-i-preserved
loop-i-preserved c =
    let path : Footpath = get_or c.args.listed.now c.loop-i.i no_path in
    let at_path : At c.args.listed.now c.loop-i.i path = slice_get-get_or c.args.listed.now c.loop-i.i no_path c.loop-i-test.true in
    let inside : path.to < length c.loop-i.last.items = omega (arith, c.requires c.loop-i.i no_path c.loop-i-test.true, c.loop-i.invariant.stops) in
    let known : c.index.result.now ≡ get_or c.loop-i.last.items path.to 0 = c.index.ensures
    ∙ get_or_default c.loop-i.last.items path.to c.index.result.now 0 inside in
    let longer : c.push.new.self.items ≡ c.loop-i.before.items ++ get_or c.loop-i.last.items path.to 0 ∷ [] =
    c.in_ok-push.ensures.items ∙ ap (λ (n : ℕ). c.loop-i.before.items ++ n ∷ []) known in
    record {
      stops = length-set c.loop-i.last.items path.to (c.loop-i.i + 1) ∙ c.loop-i.invariant.stops;
      footpaths = omega (
        arith,
        ap length longer,
        length-append c.loop-i.before.items (get_or c.loop-i.last.items path.to 0 ∷ []),
        c.loop-i.invariant.footpaths,
      );
      chains =
          subst (λ (xs : List ℕ). AreChains c.args.listed.now (c.loop-i.i + 1) (set c.loop-i.last.items path.to (c.loop-i.i + 1)) xs) (sym longer)
          (chains_more c.args.listed.now c.loop-i.i path at_path c.loop-i.last.items c.loop-i.before.items inside c.loop-i.invariant.footpaths
          c.loop-i.invariant.chains);
    }
