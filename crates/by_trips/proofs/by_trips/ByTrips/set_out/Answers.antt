use Rattle.reasoning.proofs.ListLemmas.{extends_none}
use Rattle.scan_state.specs.Matching.{from_to}
use Rattle.scan_state.specs.SetQuery.{asked_from, question}
use Rattle.scan_state.specs.Steps.{settings_out}
use Rattle.scan_state.specs.ScanRecords.{spelling_of}
use Rattle.scan_state.specs.Adding.{label_points}
use Rattle.by_trips.specs.TakenByTrips.{labels_by_trips}
use Rattle.lanes.specs.Lanes.{trip_rules}
use Rattle.scan_state.proofs.Offers.{takes_none}
use Rattle.by_trips.proofs.by_trips.ByTrips.set_out.Goals as goal

-- nobody may set out
pub returns-then-not-sets_out_at : goal.returns-then-not-sets_out_at
returns-then-not-sets_out_at g c =
    let t = g.S.ConnSource.timetable c.args.source.now in
    let labels = label_points (labels_by_trips c.args.self.now c.args.hop.now.connection.trip) in
    record {
      under = c.requires.can.under;
      set_outs = λ index. extends_none (g.O.AtSource.kept c.args.origin.now index).set_outs;
      takes = λ index exits steps before all ext_before ext.
          takes_none trip_rules (settings_out trip_rules t (asked_from g.O.AtSource.sources (question c.args.asked.now.query) index)
          (from_to (spelling_of t.footpaths before) (spelling_of t.footpaths all)) c.args.hop.now.place labels)
          (g.O.AtSource.kept c.args.origin.now index).found
          (c.sets_out_at.ensures c.if-not-sets_out_at.true t c.requires.can.hop index labels);
    }
