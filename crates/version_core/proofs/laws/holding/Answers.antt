use Rattle.version_core.proofs.Pins.{look_and_take, drop_lets_go}
use Rattle.version_core.proofs.laws.holding.Goals as goal

pub returns : goal.returns
returns c = record { takes = look_and_take; drops = drop_lets_go }
