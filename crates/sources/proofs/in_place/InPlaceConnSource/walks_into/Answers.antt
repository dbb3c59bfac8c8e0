use Rattle.std.proofs.Common.{◌+◌, arith}
use Rattle.sources.proofs.StartLemmas.{start_order}
use Rattle.sources.proofs.in_place.InPlaceConnSource.walks_into.Goals as goal

pub returns-clause-order : goal.returns-clause-order
returns-clause-order g c =
    let s = c.args.self.now in
    let stop = c.args.stop in
    start_order s.image.now.timetable stop _ _ (s.indexed.start stop (omega (arith, c.requires)))
    (s.indexed.start (stop + 1) (omega (arith, c.requires)))
