use Rattle.scan_state.specs.SetQuery.{question}
use Rattle.station_answers.specs.Walks.{IsLeastBefore}
use Rattle.station_answers.proofs.walking.direct_walk.Given as goal

abbrev pub invariant-loop-index : goal.invariant-loop-index
invariant-loop-index g l =
    IsLeastBefore (g.S.ConnSource.timetable l.source) (question l.query) l.index 0 l.best
