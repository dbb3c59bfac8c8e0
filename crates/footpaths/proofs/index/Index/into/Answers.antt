use Rattle.std.proofs.Common.{◌≡◌, ◌+◌, ◌-◌, ◌<◌, All, drop, length, get_or, subst, sym, ◌∙◌, arith, List}
use Rattle.std.proofs.lemmas.List.{get_or_default}
use Rattle.std.proofs.lemmas.List.Elements.{All-drop, All-take}
use Rattle.timetable.specs.declared.network.Footpath.{Footpath}
use Rattle.footpaths.proofs.IndexLemmas.{those_range}
use Rattle.footpaths.proofs.index.Index.into.Goals as goal

pub returns-clause-those : goal.returns-clause-those
returns-clause-those c = λ listed index.
    let below : c.args.stop < length c.args.self.now.first.items = omega (arith, c.requires) in
    let low : c.index.result.now ≡ get_or c.args.self.now.first.items c.args.stop 0 = c.index.ensures
    ∙ get_or_default c.args.self.now.first.items c.args.stop c.index.result.now 0 below in
    let high : c.index-2.result.now ≡ get_or c.args.self.now.first.items (c.args.stop + 1) 0 = c.index-2.ensures
    ∙ get_or_default c.args.self.now.first.items (c.args.stop + 1) c.index-2.result.now 0 c.requires in
    those_range listed c.args.self.now.paths.items c.deref.result.now c.args.stop c.index.result.now c.index-2.result.now
    (get_or c.args.self.now.first.items c.args.stop 0) (get_or c.args.self.now.first.items (c.args.stop + 1) 0)
    low high c.deref.ensures.value (index c.args.stop c.requires)

pub returns-clause-in_range : goal.returns-clause-in_range
returns-clause-in_range c = λ stops over.
    let all = subst (λ (ps : List Footpath). All (λ (f : Footpath). f.from < stops) ps) (sym c.deref.ensures.value) over.in_range in
    All-take (λ (f : Footpath). f.from < stops) (c.index-2.result.now - c.index.result.now) (drop c.index.result.now c.deref.result.now)
    (All-drop (λ (f : Footpath). f.from < stops) c.index.result.now c.deref.result.now all)
