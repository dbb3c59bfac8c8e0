-- What is drawn of a journey over a timetable.
use Rattle.std.specs.Prelude.{◌≡◌, ◌+◌, ◌%◌, ◌++◌, ◌∷◌, [], ◌==◌, ℕ, List, not, if◌then◌else◌, Option, Some, None, min, slice_get, codes}
use Rattle.std.specs.List.{flat_map}
use Rattle.timetable.specs.NamesValue.{NamesValue}
use Rattle.timetable.specs.TimetableValue.{TimetableValue}
use Rattle.timetable.specs.JourneyValue.{RideValue, JourneyValue}
use Rattle.timetable.specs.declared.network.Connection.{Connection}
use Rattle.timetable.specs.declared.network.Footpath.{Footpath}
use Rattle.timetable.specs.declared.query.Query.{Query}
use Rattle.criteria.specs.declared.name.CriterionName.{CriterionName}
use Rattle.criteria.specs.declared.figures.Figures.{Figures}
use Rattle.criteria.specs.Names.{name_text}
use Rattle.answer_pictures.specs.declared.lines.StretchKind.{StretchKind}
use Rattle.answer_pictures.specs.declared.lines.StretchKind.TheVariants.{Ride, Walk, Change}
use Rattle.answer_pictures.specs.LineValue.{HeadingValue, StretchValue, LineValue}
use Rattle.answer_pictures.specs.Moments.{moment_text}
use Rattle.image_facts.specs.Naming.{stop_bytes, trip_bytes}

-- a ride from its first connection to its last
abbrev pub ride_part : NamesValue → Connection → Connection → StretchValue
ride_part names first last = record {
  way = Ride;
  start = first.dep;
  end = last.arr;
  trip = trip_bytes names first.trip;
  from = stop_bytes names first.from;
  to = stop_bytes names last.to;
}

-- a time some seconds later, or the greatest time if that would be past it
abbrev pub later : ℕ → ℕ → ℕ
later time secs = min (time + secs) 4294967295

-- how a footpath is walked: one from a stop to itself is a change
abbrev pub way_on_foot : Footpath → StretchKind
way_on_foot footpath = if footpath.from == footpath.to then Change else Walk

-- a footpath that is walked from a time on
abbrev pub walk_part : NamesValue → ℕ → Footpath → StretchValue
walk_part names time footpath = record {
  way = way_on_foot footpath;
  start = time;
  end = later time footpath.secs;
  trip = [];
  from = stop_bytes names footpath.from;
  to = stop_bytes names footpath.to;
}

-- a walk that begins at a time, footpath by footpath
abbrev pub walk_parts : NamesValue → ℕ → List Footpath → List StretchValue
walk_parts names time [] = []
walk_parts names time (footpath ∷ walk) = walk_part names time footpath ∷ walk_parts names (later time footpath.secs) walk

-- a ride from its first connection's departure to its last one's arrival, and the walk after it
abbrev pub parts_between : NamesValue → Option Connection → Option Connection → List Footpath → List StretchValue
parts_between names (Some first) (Some last) walk = ride_part names first last ∷ walk_parts names last.arr walk
parts_between names _ _ walk = []

abbrev pub ride_parts : TimetableValue → NamesValue → RideValue → List StretchValue
ride_parts t names ride =
    parts_between names (slice_get t.connections ride.leg.first) (slice_get t.connections ride.leg.last) ride.walk

abbrev pub start_parts : NamesValue → ℕ → Option Footpath → List StretchValue
start_parts names time None = []
start_parts names time (Some footpath) = walk_part names time footpath ∷ []

-- a journey that departs at a time
abbrev pub journey_parts : TimetableValue → NamesValue → ℕ → JourneyValue → List StretchValue
journey_parts t names time journey = start_parts names time journey.start ++ flat_map (ride_parts t names) journey.rides

-- the line of a journey over an image: when it departs and arrives, and all of its parts
pub record IsLineOf (t : TimetableValue) (names : NamesValue) (time : ℕ) (figures : Figures) (journey : JourneyValue) (line : LineValue) : Type 0 where
  pub departs : line.departure ≡ time
  pub arrives : line.arrival ≡ figures.arrival
  pub parts : line.stretches ≡ journey_parts t names time journey

-- a time with its seconds, if it has any
abbrev pub own_moment : ℕ → List ℕ
own_moment time = moment_text (not (time % 60 == 0)) time

-- what was asked, after a date
abbrev pub asked_text : CriterionName → Query → List ℕ
asked_text criterion query =
    (codes ": departing " ++ own_moment query.from) ++ (codes " to " ++ own_moment query.until) ++ (codes ", arriving by " ++ own_moment query.by)
    ++ (codes "; best by " ++ name_text criterion)

-- what is above a picture: the names of a query's source and target, and, after a date, what it asks
pub record IsHeadingOf (names : NamesValue) (criterion : CriterionName) (q : Query) (h : HeadingValue) : Type 0 where
  pub from : h.from ≡ stop_bytes names q.source
  pub to : h.to ≡ stop_bytes names q.target
  pub date : List ℕ
  pub about : h.about ≡ date ++ asked_text criterion q
