use Rattle.timetable.specs.TimetableValue.{TimetableValue}
use Rattle.scan_state.specs.SetQuery.{SetQueryValue}
use Rattle.profile_scan.specs.Found.{AnswersBetween}
use Rattle.journeys.specs.Extracted.{AttainsBetween}
use Rattle.journeys.proofs.ExtractedLemmas.{HaveJourneys}
use Rattle.journeys.proofs.departures.departures_between.Given as goal

abbrev pub invariant-loop-i : goal.invariant-loop-i
invariant-loop-i g l = (criterion : _) (t : TimetableValue) (b : SetQueryValue) → AnswersBetween criterion (g.C.Criterion.rules criterion) t b l.found
    → HaveJourneys (AttainsBetween (g.C.Criterion.rules criterion) t b) l.points l.i l.departures.items
