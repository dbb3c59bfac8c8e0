use Rattle.timetable.specs.TimetableValue.{TimetableValue}
use Rattle.timetable.specs.declared.query.Query.{Query}
use Rattle.profile_scan.specs.Found.{Answers}
use Rattle.journeys.specs.Extracted.{Attains}
use Rattle.journeys.proofs.ExtractedLemmas.{HaveJourneys}
use Rattle.journeys.proofs.answering.departures_of.Given as goal

abbrev pub invariant-loop-i : goal.invariant-loop-i
invariant-loop-i g l = (criterion : _) (t : TimetableValue) (q : Query) → Answers criterion (g.C.Criterion.rules criterion) t q l.found
    → HaveJourneys (Attains (g.C.Criterion.rules criterion) t q) l.points l.i l.departures.items
