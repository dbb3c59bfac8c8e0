-- The rows of a table of travel times.
use Rattle.std.specs.Prelude.{◌≡◌, ◌⊎◌, ◌<◌, ◌≤◌, ℕ, Bool, true, false, List, [], ◌∷◌, ◌++◌, Contains, Option, None, Some, String, map, string_bytes}
use Rattle.std.specs.Global.{Global, Vec}
use Rattle.std.specs.List.{AllZip, flat_map}
use Rattle.csv.specs.Writing.{default_writer, row_text}
use Rattle.criteria.specs.Laws.{Rules}
use Rattle.criteria.specs.declared.figures.Figures.{Figures}
use Rattle.bags.specs.declared.point.Point.{Point}
use Rattle.timetable.specs.TimetableValue.{TimetableValue}
use Rattle.timetable.specs.declared.network.Footpath.{Footpath}
use Rattle.timetable.specs.NamesValue.{NamesValue}
use Rattle.image_files.specs.Naming.{printed}
use Rattle.image_files.specs.Watching.{IsBegun}
use Rattle.image_layout.specs.Image.{ImageValue}
use Rattle.image_facts.specs.Naming.{stop_bytes}
use Rattle.answer_replies.specs.Valuing.{arrival_figures, by_arrival, by_trips, by_walking, trips_figures, walking_figures}
use Rattle.criteria.specs.declared.name.CriterionName.{CriterionName}
use Rattle.scan_state.specs.SetQuery.{SetQueryValue, IsAnswerBetween, IsAskableBetween}
use Rattle.travel_times.specs.Fields.{pair_fields, pair_names, point_fields, point_names}
use Rattle.travel_times.specs.Figures.{mean_wait}
use Rattle.travel_times.specs.declared.spans.Span.{Span}
use Rattle.matrix_rows.specs.declared.table.TravelTable.{TravelTable}

-- the departures of points, with their arrivals
abbrev pub span_of : {V : Type 0} → (V → Figures) → Point V → Span
span_of figures point = record { departure = point.departure; arrival = (figures point.value).arrival }

abbrev pub spans_of : {V : Type 0} → (V → Figures) → List (Point V) → List Span
spans_of figures points = map (span_of figures) points

-- what a table asks of every stop for a set of targets
abbrev pub destination : TravelTable → List ℕ → SetQueryValue
destination table targets = record { sources = []; targets = targets; from = table.after; until = table.until; by = table.by }

-- the same for those who may leave as late as they arrive
abbrev pub waiting : SetQueryValue → SetQueryValue
waiting b = record { sources = b.sources; targets = b.targets; from = b.from; until = b.by; by = b.by }

-- the same from any of some stops
abbrev pub from_stops : SetQueryValue → List ℕ → SetQueryValue
from_stops b stops = record { sources = stops; targets = b.targets; from = b.from; until = b.until; by = b.by }

-- a mean wait: that for the departures of an answer, over the seconds of a window
pub record IsMean {V : Type 0} (figures : V → Figures) (rules : Rules V) (image : ImageValue) (b : SetQueryValue) (after until : ℕ)
    (mean : Option ℕ) : Type 0 where
  pub waited : List (Point V)
  pub answer : IsAnswerBetween rules image.timetable b waited
  pub mean_is : mean ≡ mean_wait (spans_of figures waited) after until

-- the same from a set of sources, of what is asked of every stop
abbrev pub IsMeanFrom : {V : Type 0} → (V → Figures) → Rules V → ImageValue → SetQueryValue → ℕ → ℕ → Vec ℕ → Option ℕ → Type 0
IsMeanFrom figures rules image d after until sources mean = IsMean figures rules image (from_stops d sources.items) after until mean

-- a mean that is there
abbrev pub mean_in : Option (Option ℕ) → Option ℕ
mean_in None = None
mean_in (Some mean) = mean

-- a footpath leads from one of the sources to one of the targets
pub record LeadsBetween (t : TimetableValue) (b : SetQueryValue) (f : Footpath) : Type 0 where
  pub is_footpath : Contains t.footpaths f
  pub leaves : Contains b.sources f.from
  pub leads : Contains b.targets f.to

-- the seconds of the shortest such footpath, if there is one
abbrev pub IsLeastWalk : TimetableValue → SetQueryValue → Option ℕ → Type 0
IsLeastWalk t b None = (f : Footpath) → LeadsBetween t b f → ⊥
IsLeastWalk t b (Some secs) = ((f : Footpath) × LeadsBetween t b f × (f.secs ≡ secs)) × ((f : Footpath) → LeadsBetween t b f → secs ≤ f.secs)

-- texts with a tab between two of them
unfoldable pub tabbed : List (List ℕ) → List ℕ
tabbed [] = []
tabbed (text ∷ texts) = text ++ flat_map (λ other. 9 ∷ other) texts

-- the stop_ids of a set
abbrev pub set_bytes : NamesValue → List ℕ → List ℕ
set_bytes names stops = tabbed (map (stop_bytes names) stops)

-- each of some texts is what the set at its index is called
abbrev pub AreNamed : NamesValue → List (Vec ℕ) → List (String Global) → Type 0
AreNamed names sets texts = map string_bytes texts ≡ map (λ set. set_bytes names set.items) sets

-- the row of a pair of sets: the figures of the answer between them, and the mean wait for a departure of the answer that lets one leave as late as one
-- arrives
pub record IsPairRow {V : Type 0} (figures : V → Figures) (rules : Rules V) (image : ImageValue) (b : SetQueryValue) (text : List ℕ) : Type 0 where
  pub points : List (Point V)
  pub mean : Option ℕ
  pub walk : Option ℕ
  pub answer : IsAnswerBetween rules image.timetable b points
  pub waited : IsMean figures rules image (waiting b) b.from b.until mean
  pub direct : IsLeastWalk image.timetable b walk
  pub text_is : text ≡ row_text default_writer (pair_fields (set_bytes image.names b.sources) (set_bytes image.names b.targets)
      (spans_of figures points) mean walk)

-- the row of a departure
abbrev pub point_row : {V : Type 0} → (V → Figures) → List ℕ → List ℕ → Point V → List ℕ
point_row figures from to point = row_text default_writer (point_fields from to point.departure (figures point.value))

-- the row of each departure of the answer between two sets
pub record ArePointRows {V : Type 0} (figures : V → Figures) (rules : Rules V) (image : ImageValue) (b : SetQueryValue) (text : List ℕ) : Type 0 where
  pub points : List (Point V)
  pub answer : IsAnswerBetween rules image.timetable b points
  pub text_is : text ≡ flat_map (point_row figures (set_bytes image.names b.sources) (set_bytes image.names b.targets)) points

-- the rows of a pair of sets
abbrev pub AreRows : {V : Type 0} → (V → Figures) → Rules V → Bool → ImageValue → SetQueryValue → List ℕ → Type 0
AreRows figures rules true image b text = ArePointRows figures rules image b text
AreRows figures rules false image b text = IsPairRow figures rules image b text

-- two sets have a stop in common
abbrev pub Meet : List ℕ → List ℕ → Type 0
Meet stops others = (stop : ℕ) × Contains stops stop × Contains others stop

-- what is written for a set of sources: its rows, or nothing if one of them is a target
pub record AreRowsFrom {V : Type 0} (figures : V → Figures) (rules : Rules V) (each : Bool) (image : ImageValue) (d : SetQueryValue)
    (sources text : List ℕ) : Type 0 where
  pub none : Meet sources d.targets → text ≡ []
  pub rows : (Meet sources d.targets → ⊥) → AreRows figures rules each image (from_stops d sources) text

-- the rows of a set of targets: those of each set of sources, one after the other
pub record AreRowsTo {V : Type 0} (figures : V → Figures) (rules : Rules V) (each : Bool) (image : ImageValue) (d : SetQueryValue)
    (sources : List (Vec ℕ)) (text : List ℕ) : Type 0 where
  pub parts : List (List ℕ)
  pub are : AllZip (λ set part. AreRowsFrom figures rules each image d set.items part) sources parts
  pub text_is : text ≡ flat_map (λ part. part) parts

-- the same under the criterion of a table, with stop_ids in its form
abbrev pub AreRowsBy : CriterionName → TravelTable → List ℕ → List ℕ → Type 0
AreRowsBy CriterionName.Arrival table targets text =
    AreRowsTo arrival_figures by_arrival table.each (printed table.names table.image.now) (destination table targets) table.sources.now text
AreRowsBy CriterionName.ArrivalTrips table targets text =
    AreRowsTo trips_figures by_trips table.each (printed table.names table.image.now) (destination table targets) table.sources.now text
AreRowsBy CriterionName.ArrivalTripsWalk table targets text =
    AreRowsTo walking_figures by_walking table.each (printed table.names table.image.now) (destination table targets) table.sources.now text

-- the rows of sets of targets, one after the other
pub record AreRowsOf (table : TravelTable) (targets : List (Vec ℕ)) (text : List ℕ) : Type 0 where
  pub parts : List (List ℕ)
  pub are : AllZip (λ set part. AreRowsBy table.criterion table set.items part) targets parts
  pub text_is : text ≡ flat_map (λ part. part) parts

-- the names of a table's columns
abbrev pub names_of : Bool → List (List ℕ)
names_of true = point_names
names_of false = pair_names

-- a table: its first row, and the rows of each set of targets
pub record IsTable (table : TravelTable) (text : List ℕ) : Type 0 where
  pub rows : List ℕ
  pub are : AreRowsOf table table.targets.now rows
  pub text_is : text ≡ row_text default_writer (names_of table.each) ++ rows

-- a first part of the rows of a set of targets was added, or nothing
abbrev pub IsTargetBegun : TravelTable → List ℕ → Option (List ℕ) → Option (List ℕ) → Type 0
IsTargetBegun table targets before after =
    (after ≡ before) ⊎ ((text : List ℕ) × AreRowsBy table.criterion table targets text × IsBegun before after text)

-- the same of the rows of the first of some targets
pub record IsRunBegun (table : TravelTable) (run : List (Vec ℕ)) (before after : Option (List ℕ)) : Type 0 where
  pub first : List (Vec ℕ)
  pub others : List (Vec ℕ)
  pub rows : List ℕ
  pub targets : first ++ others ≡ run
  pub are : AreRowsOf table first rows
  pub begun : IsBegun before after rows

-- the same of the table to the first of the targets
pub record IsTableBegun (table : TravelTable) (before after : Option (List ℕ)) : Type 0 where
  pub first : List (Vec ℕ)
  pub others : List (Vec ℕ)
  pub rows : List ℕ
  pub targets : first ++ others ≡ table.targets.now
  pub are : AreRowsOf table first rows
  pub begun : IsBegun before after (row_text default_writer (names_of table.each) ++ rows)

-- each stop of each set is a stop of the image
abbrev pub AreWithin : ImageValue → List (Vec ℕ) → Type 0
AreWithin image sets = (set : Vec ℕ) → Contains sets set → (stop : ℕ) → Contains set.items stop → stop < image.timetable.stops

-- the sources are stops of the image, and so are the targets; and the window can be asked for
pub record CanBeMade (table : TravelTable) (targets : List ℕ) : Type 0 where
  pub sources : AreWithin table.image.now table.sources.now
  pub asked : IsAskableBetween table.image.now.timetable.stops (destination table targets)
