-- What judging a journey returns.
use Rattle.std.specs.Prelude.{◌≡◌, ◌+◌, List, Option, Some, None, Result, Ok, Err}
use Rattle.timetable.specs.declared.journey.Times.{Times}
use Rattle.timetable.specs.declared.network.Footpath.{Footpath}
use Rattle.timetable.specs.declared.query.Query.{Query}
use Rattle.timetable.specs.TimetableValue.{TimetableValue}
use Rattle.timetable.specs.JourneyValue.{RideValue, JourneyValue}
use Rattle.timetable.specs.Journeys.{Counts, arrival, start_secs}
use Rattle.journeys.specs.declared.fault.JourneyFault.{JourneyFault}
use Rattle.journeys.specs.Faults.{leg_time, over_at, window_fault, first_fault}

-- the journey counts, and departs and is over at these times; or it has this first fault
abbrev pub IsJudged : TimetableValue → Query → JourneyValue → Result Times JourneyFault → Type 0
IsJudged t q j (Ok times) = Counts t q times.dep j × (times.arr ≡ arrival t j)
IsJudged t q j (Err fault) = first_fault t q j ≡ Some fault

-- the journey departs and is over at these times, which the query allows; or it has this fault
abbrev pub IsTimed : TimetableValue → Query → Option Footpath → List RideValue → Result Times JourneyFault → Type 0
IsTimed t q start rides (Ok times) = (window_fault t q start rides ≡ None) × (times.dep + start_secs start ≡ leg_time t rides 0) × (times.arr ≡ over_at t rides)
IsTimed t q start rides (Err fault) = window_fault t q start rides ≡ Some fault
