use Rattle.std.proofs.Common.{rules, ◌≡◌, ◌+◌, ◌++◌, ◌∷◌, [], ℕ, List, arith, ap, sym, ◌∙◌, subst, length}
use Rattle.std.proofs.lemmas.List.{length-append}
use Rattle.sources.specs.FootStarts.{IsStartIndex, AreStarts, HoldsBelow}
use Rattle.sources.proofs.StartLemmas.{AreStartsBelow, starts_more, all_held}
use Rattle.sources.proofs.decoded.decode_footpaths.Goals as goal

pub loop-stop-preserved : goal.loop-stop-preserved
loop-stop-preserved c =
    let t = c.args.image.now.timetable in
    let stop = c.loop-stop.stop in
    let items = c.loop-stop.starts.items in
    let index = c.len.result in
    let start : IsStartIndex t stop index = subst (λ (x : ℕ). IsStartIndex t stop x) (search rules) c.loop-stop.invariant.holds.start in
    record {
      holds = c.in_ok-decode_walks_into.ensures;
      long = ap length c.in_ok-push.ensures.items ∙ length-append items (index ∷ []) ∙ ap (λ n. n + 1) c.loop-stop.invariant.long;
      starts = subst (λ (indices : List ℕ). AreStartsBelow t (stop + 1) indices) (sym c.in_ok-push.ensures.items)
          (starts_more t stop index items c.loop-stop.invariant.long c.loop-stop.invariant.starts start);
    }

pub returns-clause-footpaths : goal.returns-clause-footpaths
returns-clause-footpaths c =
    let t = c.args.image.now.timetable in
    let done : c.loop-stop.stop ≡ t.stops = omega (arith, c.loop-stop-test.false, c.loop-stop.auto, c.stops-stops.ensures.stops) in
    all_held t c.loop-stop.footpaths.items c.stops-stops.ensures.kept.legal
    (subst (λ (s : ℕ). HoldsBelow t s c.loop-stop.footpaths.items) done c.loop-stop.invariant.holds)

pub returns-clause-starts : goal.returns-clause-starts
returns-clause-starts c =
    let t = c.args.image.now.timetable in
    let stop = c.loop-stop.stop in
    let items = c.loop-stop.starts.items in
    let index = c.len-2.result in
    let done : stop ≡ t.stops = omega (arith, c.loop-stop-test.false, c.loop-stop.auto, c.stops-stops.ensures.stops) in
    let start : IsStartIndex t stop index = subst (λ (x : ℕ). IsStartIndex t stop x) (search rules) c.loop-stop.invariant.holds.start in
    let more = starts_more t stop index items c.loop-stop.invariant.long c.loop-stop.invariant.starts start in
    let all : AreStarts t (items ++ index ∷ []) = record {
      each = length-append items (index ∷ []) ∙ ap (λ n. n + 1) (c.loop-stop.invariant.long ∙ done);
      start = λ s le. more s (omega (arith, le, done));
    } in
    subst (λ (indices : List ℕ). AreStarts t indices) (sym c.in_ok-push-2.ensures.items) all
