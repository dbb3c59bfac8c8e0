use Rattle.std.proofs.Common.{◌≤◌, arith}
use Rattle.std.proofs.lemmas.Result.{on_ok_weaker}
use Rattle.footpaths.proofs.search.Search.step.Goals as goal

pub returns-clause-falls : goal.returns-clause-falls
returns-clause-falls c =
    let capped : c.min.result ≤ c.args.cap = omega (arith, c.min.ensures) in
    on_ok_weaker c.offer.result (λ taken. taken.falls c.args.cap capped) c.offer.ensures
