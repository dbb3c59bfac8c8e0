use Rattle.std.proofs.Common.{subst}
use Rattle.scan_state.specs.SetQuery.{question}
use Rattle.scan_state.specs.Starts.{SaysLed}
use Rattle.scan_state.proofs.origin.OriginAtSource.is_led.Goals as goal

pub returns : goal.returns
returns g c = λ none t hop index. subst (SaysLed t (question c.args._asked.now.query).sources c.args.hop.now.connection.from) none hop.access.led
