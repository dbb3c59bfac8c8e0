use Rattle.scan_state.specs.Adding.{label_points}
use Rattle.scan_state.specs.InLists.{kept_by}
use Rattle.scan_state.proofs.KeptLemmas.{bags_closed}
use Rattle.scan_state.proofs.PartLemmas.{stops_counted}
use Rattle.scan_state.proofs.stops.Stops.board.Goals as goal

pub returns-then-not-hop : goal.returns-then-not-hop
returns-then-not-hop g c = record {
  stops = stops_counted g.C.Criterion.rules c.args.asked.now.criterion c.requires.stops;
  takes = λ trips. bags_closed (g.C.Criterion.rules c.args.asked.now.criterion) (g.S.ConnSource.timetable c.args.source.now) c.args.hop.now
      (label_points c.args.labels.now) (kept_by trips c.args.self.now) c.requires.hop.stands c.if-not-hop.true;
}
