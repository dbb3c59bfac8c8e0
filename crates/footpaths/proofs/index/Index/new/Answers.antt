use Rattle.std.proofs.Common.{◌≡◌, ◌+◌, ◌<◌, ℕ, List, ◌++◌, ◌∷◌, [], length, get_or, Contains, ap, subst, sym, ◌∙◌, arith}
use Rattle.std.proofs.lemmas.Grind.{common_steps}
use Rattle.std.proofs.lemmas.List.Elements.{All-contains, All-weaker}
use Rattle.timetable.specs.declared.network.Footpath.{Footpath}
use Rattle.footpaths.specs.Index.{IsLastInto, IsIndexUpTo, AddsThoseFrom}
use Rattle.footpaths.proofs.IndexLemmas.{index_more}
use Rattle.footpaths.proofs.index.Index.new.Goals as goal

pub loop-last-preserved : goal.loop-last-preserved
loop-last-preserved c =
    let below : c.loop-last.last-index < length c.in_ok-chains.chains.last.items = grind (arith, common_steps) in
    let lasts : IsLastInto c.args.listed.now c.loop-last.last-index (length c.args.listed.now) (get_or c.deref-last-items.result.now c.loop-last.last-index 0) =
    subst (λ (xs : List ℕ). IsLastInto c.args.listed.now c.loop-last.last-index (length c.args.listed.now) (get_or xs c.loop-last.last-index 0))
    (sym c.deref-last-items.ensures.value)
    (c.in_ok-chains.ensures.chains.lasts c.loop-last.last-index below) in
    let adds : AddsThoseFrom c.args.listed.now c.loop-last.last-index 0 c.loop-last.paths.items c.add_chain.new.paths.items =
    c.in_ok-add_chain.ensures c.loop-last.last-index lasts in
    let count : c.len.result ≡ length c.add_chain.new.paths.items = grind (arith, common_steps) in
    let longer : c.push-in-loop-last.new.self.items ≡ c.loop-last.first.items ++ length c.add_chain.new.paths.items ∷ [] =
    c.in_ok-push-2.ensures.items ∙ ap (λ (n : ℕ). c.loop-last.first.items ++ n ∷ []) count in
    subst (λ (xs : List ℕ). IsIndexUpTo c.args.listed.now (c.loop-last.last-index + 1) xs c.add_chain.new.paths.items) (sym longer)
    (index_more c.args.listed.now c.loop-last.last-index c.loop-last.first.items c.loop-last.paths.items c.add_chain.new.paths.items adds c.loop-last.invariant)

pub returns-clause-over : goal.returns-clause-over
returns-clause-over c = record {
  count =
      let all : c.loop-last.last-index ≡ c.args.stops = grind (arith, common_steps) in
      omega (arith, all, c.loop-last.invariant.count);
  in_range = All-weaker (Contains c.args.listed.now) (λ (f : Footpath). f.from < c.args.stops)
      (λ f in_list. (All-contains (λ (g : Footpath). (g.from < c.args.stops) × (g.to < c.args.stops)) c.args.listed.now f c.requires in_list).0)
      c.loop-last.paths.items c.loop-last.invariant.listed_ones;
}
