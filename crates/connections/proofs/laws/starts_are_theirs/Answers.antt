use Rattle.connections.proofs.StartLemmas.{starts_each, starts_only, starts_rise}
use Rattle.connections.proofs.laws.starts_are_theirs.Goals as goal

pub returns-clause-only : goal.returns-clause-only
returns-clause-only c rows s = starts_only rows s

pub returns-clause-each : goal.returns-clause-each
returns-clause-each c rows row n = starts_each rows row n

pub returns-clause-rising : goal.returns-clause-rising
returns-clause-rising c rows i j d = starts_rise rows i j d
