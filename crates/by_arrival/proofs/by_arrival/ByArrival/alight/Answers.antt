use Rattle.criteria.specs.contracts.arrival.ArrivalCriterion.TheImpl.Laws.{laws-law}
use Rattle.by_arrival.specs.ByArrival.{arrival_rules, value_by_arrival}
use Rattle.scan_state.specs.SetQuery.{question}
use Rattle.by_arrival.proofs.ByArrivalLemmas.{like_then, still_can_leave, still_like}
use Rattle.scan_state.proofs.KeptLemmas.{left, not_left}
use Rattle.by_arrival.proofs.by_arrival.ByArrival.alight.Goals as goal

pub returns-then-not-hop : goal.returns-then-not-hop
returns-then-not-hop c = record {
  like = still_like c.args.self.now c.requires.are;
  leaves = not_left arrival_rules (question c.args.asked.now.query) c.args.hop.now (value_by_arrival c.args.self.now) c.if-not-hop.true;
}

pub change-requires : goal.change-requires
change-requires c =
    let q = question c.args.asked.now.query in
    (q, still_can_leave q c.args.hop.now c.args.self.now c.end.new.self c.requires c.in_ok-end.ensures.like)

pub returns : goal.returns
returns c =
    let ended = c.in_ok-end.ensures in
    let changed = c.in_ok-change.ensures in
    record {
      like = like_then c.args.self.now c.end.new.self c.change.new.self ended.like changed.like;
      leaves = left arrival_rules (laws-law c.args.asked.now.criterion) (question c.args.asked.now.query) c.args.hop.now c.requires.hop c.if-not-hop.false
          ended.takes changed.takes;
    }
