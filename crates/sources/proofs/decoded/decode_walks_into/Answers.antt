use Rattle.std.proofs.Common.{◌≡◌, ◌<◌, ◌+◌, ◌∷◌, [], List, length, take, arith, ap, sym, ◌∙◌, subst}
use Rattle.std.proofs.lemmas.List.{length-append}
use Rattle.timetable.specs.declared.network.Footpath.{Footpath}
use Rattle.image_verifier.proofs.Unpacking.{next_taken}
use Rattle.sources.specs.FootStarts.{IsStartIndex}
use Rattle.sources.proofs.StartLemmas.{start_next, start_order, between_starts}
use Rattle.sources.proofs.decoded.decode_walks_into.Goals as goal
use Rattle.sources.proofs.decoded.decode_walks_into.Goals.{After-walks_into-end}

-- where the footpaths into the next stop start
end_is : (c : goal.After-walks_into-end) → IsStartIndex c.args.image.now.timetable (c.args.stop + 1) c.walks_into-end.result.1
end_is c =
    start_next c.args.image.now.timetable c.args.stop c.walks_into-end.result.0 c.walks_into-end.result.1 c.requires.legal c.requires.stop
    (record { within = c.walks_into-end.ensures.within; exact = c.walks_into-end.ensures.exact })

pub footpath_into-requires-clause-into : goal.footpath_into-requires-clause-into
footpath_into-requires-clause-into c =
    let t = c.args.image.now.timetable in
    let end = end_is (goal.at.footpath_into-requires-clause-into c).After-walks_into-end in
    let before_end : c.loop-index.index < c.walks_into-end.result.1 = omega (arith, c.loop-index-test.true) in
    between_starts t c.args.stop _ _ c.loop-index.index c.requires.below.start end (omega (arith, c.loop-index.auto, c.len-index.ensures)) before_end

pub loop-index-preserved : goal.loop-index-preserved
loop-index-preserved c =
    let paths = c.args.image.now.timetable.footpaths in
    let lt : c.loop-index.index < length paths = omega (arith, c.loop-index-test.true, c.walks_into-end.ensures.within) in
    let long = length-append c.loop-index.footpaths.items (c.footpath_into.result ∷ []) in
    record {
      first = c.in_ok-push.ensures.items ∙ next_taken paths c.loop-index.footpaths.items c.loop-index.index
          c.footpath_into.result lt c.loop-index.invariant.first c.footpath_into.ensures;
      long = ap (λ (fs : List Footpath). length fs) c.in_ok-push.ensures.items ∙ long ∙ ap (λ n. n + 1) c.loop-index.invariant.long;
    }

pub returns : goal.returns
returns c =
    let t = c.args.image.now.timetable in
    let end = end_is (goal.at.returns c).After-walks_into-end in
    let order = start_order t c.args.stop _ _ c.requires.below.start end in
    let there : length c.loop-index.footpaths.items ≡ c.walks_into-end.result.1 =
    omega (arith, c.loop-index.invariant.long, c.loop-index-test.false, c.loop-index.auto, c.len-index.ensures, order) in
    record {
      first = c.loop-index.invariant.first ∙ ap (λ n. take n t.footpaths) (sym c.loop-index.invariant.long);
      start = subst (λ n. IsStartIndex t (c.args.stop + 1) n) (sym there) end;
    }
