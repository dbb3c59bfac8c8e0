use Rattle.std.proofs.Common.{◌≡◌, ◌+◌, ◌∙◌, get_or, arith}
use Rattle.std.proofs.lemmas.Grind.{get_or_default_zero}
use Rattle.sources.specs.FootStarts.{of_lists}
use Rattle.sources.proofs.StartLemmas.{start_order}
use Rattle.sources.proofs.decoded.DecodedConnSource.walks_into.Goals as goal

pub returns-clause-order : goal.returns-clause-order
returns-clause-order g c =
    let s = c.args.self.now in
    let stop = c.args.stop in
    let t = of_lists s.stops s.trips s.connections.items s.footpaths.items in
    let first : c.index.result.now ≡ get_or s.starts.items stop 0 =
    c.index.ensures ∙ get_or_default_zero s.starts.items stop _ (omega (arith, c.requires, s.indexed.each)) in
    let end : c.index-2.result.now ≡ get_or s.starts.items (stop + 1) 0 =
    c.index-2.ensures ∙ get_or_default_zero s.starts.items (stop + 1) _ (omega (arith, c.requires, s.indexed.each)) in
    let order = start_order t stop _ _ (s.indexed.start stop (omega (arith, c.requires))) (s.indexed.start (stop + 1) (omega (arith, c.requires))) in
    omega (arith, first, end, order)
