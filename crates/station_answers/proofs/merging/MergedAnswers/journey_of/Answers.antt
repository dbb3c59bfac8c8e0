use Rattle.std.proofs.lemmas.Result.{IfOk-weaker}
use Rattle.bags.specs.Bag.{criterion_of}
use Rattle.station_answers.proofs.MergeLemmas.{journey_attains}
use Rattle.station_answers.proofs.merging.MergedAnswers.journey_of.Goals as goal

pub returns : goal.returns
returns g c =
    IfOk-weaker c.extract.result _ _
    (λ journey attains t b is. journey_attains g.C.Criterion.rules c.args.self.now c.args.point.now c.requires c.index-origin.result.now
    c.index-found.result.now
    c.index-origin.ensures c.index-found.ensures journey attains (criterion_of c.args.self.now.best) t b is)
    c.extract.ensures.attains
