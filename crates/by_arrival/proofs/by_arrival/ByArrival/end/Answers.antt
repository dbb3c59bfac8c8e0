use Rattle.std.proofs.Common.{sym, subst}
use Rattle.std.proofs.lemmas.Result.{on_ok_weaker}
use Rattle.criteria.specs.Laws.{IsTime}
use Rattle.scan_state.specs.ScanState.{final_walk_in}
use Rattle.scan_state.specs.SetQuery.{question}
use Rattle.by_arrival.proofs.ByArrivalLemmas.{ended, none_ended}
use Rattle.scan_state.proofs.EndLemmas.{end_time}
use Rattle.by_arrival.proofs.by_arrival.ByArrival.end.Goals as goal

pub returns-in-None : goal.returns-in-None
returns-in-None c = none_ended (question c.args.asked.now.query) c.args.hop.now c.args.self.now c.requires.are c.in-None.ensures

pub offer_end-requires-clause-time : goal.offer_end-requires-clause-time
offer_end-requires-clause-time c =
    let is = c.in-Some.ensures in
    subst IsTime (sym is.1) (end_time c.args.hop.now.connection (question c.args.asked.now.query) (final_walk_in c.args.hop.now.final_entry) c.in-Some.end.walk
    c.requires.hop.arrival c.requires.hop.by is.0)

pub returns-in-Some : goal.returns-in-Some
returns-in-Some c =
    let end = c.in-Some.end in
    let is = c.in-Some.ensures in
    on_ok_weaker c.offer_end.result
    (λ taken. ended (question c.args.asked.now.query) c.args.hop.now c.args.self.now c.offer_end.new.self end.walk end.time is.0 is.1 is.3 taken)
    c.offer_end.ensures
