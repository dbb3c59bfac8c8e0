use Rattle.std.proofs.Common.{subst}
use Rattle.scan_state.specs.SetQuery.{question}
use Rattle.scan_state.specs.Starts.{SaysSource}
use Rattle.scan_state.proofs.BoardLemmas.{nobody_boards, nobody_starts}
use Rattle.scan_state.proofs.origin.OriginAtSource.sets_out_at.Goals as goal

pub returns-then-not-board : goal.returns-then-not-board
returns-then-not-board g c = λ none t hop index labels way may.
    nobody_boards t (question c.args.asked.now.query) c.args.hop.now.place c.args.hop.now.connection hop.stands.is c.if-not-board.true labels way may

pub returns : goal.returns
returns g c = λ none t hop index labels way may.
    let here = c.args.hop.now in
    let q = question c.args.asked.now.query in
    nobody_starts t q here.place here.connection hop.stands.is
    (subst (SaysSource q.sources here.connection.from) c.if-hop.false hop.access.here)
    (c.is_led.ensures none t hop index) labels way may
