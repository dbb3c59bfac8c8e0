use Rattle.scan_state.specs.SetQuery.{question}
use Rattle.scan_state.specs.Origins.{from_stop}
use Rattle.scan_state.proofs.BoardLemmas.{nobody_boards}
use Rattle.scan_state.proofs.origins.OriginsAtSource.sets_out_at.Goals as goal

pub returns : goal.returns
returns g c = λ none t hop stop labels way may.
    nobody_boards t (from_stop (question c.args._asked.now.query) stop) c.args.hop.now.place c.args.hop.now.connection hop.stands.is none labels way may
