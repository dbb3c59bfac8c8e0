use Rattle.scan_state.specs.SetQuery.{question}
use Rattle.station_answers.specs.Walks.{IsLeastBefore}
use Rattle.station_answers.proofs.walking.shorter_from.Given as goal

abbrev pub invariant-loop-other : goal.invariant-loop-other
invariant-loop-other g l = IsLeastBefore (g.S.ConnSource.timetable l.source) (question l.query) l.index l.other l.best
