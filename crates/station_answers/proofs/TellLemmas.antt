-- A best point with its journey.
use Rattle.criteria.specs.Laws.{Rules}
use Rattle.bags.specs.declared.point.Point.{Point}
use Rattle.timetable.specs.TimetableValue.{TimetableValue}
use Rattle.timetable.specs.JourneyValue.{JourneyValue}
use Rattle.scan_state.specs.SetQuery.{SetQueryValue}
use Rattle.journeys.proofs.AnswerLemmas.{tagless}
use Rattle.station_answers.specs.Attaining.{AttainsPair}

-- a journey attains a point whatever its tag
pub pair_tagless : {V : Type 0} (rules : Rules V) (t : TimetableValue) (b : SetQueryValue) (p : Point V) (j : JourneyValue)
    → AttainsPair rules t b p j → AttainsPair rules t b (tagless p) j
pair_tagless rules t b p j a = record {
  pair = a.pair;
  attains = record { counts = a.attains.counts; plain = a.attains.plain; worth = a.attains.worth };
}
