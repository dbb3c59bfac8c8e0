use Rattle.std.proofs.Common.{sym}
use Rattle.connections.proofs.TimeSteps.{all_timed}
use Rattle.connections.proofs.times.spread_if_blank.Goals as goal

pub returns : goal.returns
returns c = all_timed c.args.rows.now (sym c.if-has_blank.ensures)
