use Rattle.std.proofs.Common.{◌≡◌, Vec, Global}
use Rattle.std.proofs.lemmas.Result.{IfOk-weaker}
use Rattle.timetable.specs.declared.network.Footpath.{Footpath}
use Rattle.footpaths.specs.Closure.{IsClosure, HasLegalFootpaths}
use Rattle.footpaths.proofs.LawLemmas.{legal_closure, one_closure, closed_stays}
use Rattle.footpaths.proofs.closure.close.Goals as goal

pub returns-clause-legal : goal.returns-clause-legal
returns-clause-legal c =
    IfOk-weaker c.close_within.result (λ (v : Vec Footpath Global). IsClosure c.args.listed.now v.items)
    (λ (v : Vec Footpath Global). HasLegalFootpaths c.args.stops v.items)
    (λ v is. legal_closure c.args.stops c.args.listed.now v.items c.requires.in_range c.requires.loops is) c.close_within.ensures.closure

pub returns-clause-stays : goal.returns-clause-stays
returns-clause-stays c = λ legal.
    IfOk-weaker c.close_within.result (λ (v : Vec Footpath Global). IsClosure c.args.listed.now v.items)
    (λ (v : Vec Footpath Global). v.items ≡ c.args.listed.now)
    (λ v is. one_closure c.args.listed.now v.items c.args.listed.now is (closed_stays c.args.stops c.args.listed.now legal)) c.close_within.ensures.closure
