use Rattle.scan_state.specs.SetQuery.{question}
use Rattle.station_answers.specs.Attaining.{AttainsPair}
use Rattle.journeys.proofs.ExtractedLemmas.{HaveJourneys}
use Rattle.station_answers.proofs.by_targets.departures_of.Given as goal

abbrev pub invariant-loop-index : goal.invariant-loop-index
invariant-loop-index g l =
    HaveJourneys (AttainsPair (g.C.Criterion.rules l.criterion) (g.S.ConnSource.timetable l.source) (question l.query)) l.points.items l.index
    l.departures.items
