-- Queries by the names of their stops.
use Rattle.std.specs.Prelude.{◌≡◌, ◌⊎◌, ℕ, ◌<◌, List}
use Rattle.timetable.specs.Legal.{At}
use Rattle.timetable.specs.NamesValue.{NamesValue}
use Rattle.timetable.specs.Queries.{IsFirstFault}
use Rattle.timetable.specs.declared.query.Query.{Query}
use Rattle.timetable.specs.declared.query.QueryFault.{QueryFault}
use Rattle.timetable.specs.declared.query.QueryFault.TheVariants.{UnknownStop, SameStop, BadWindow}
use Rattle.image_layout.specs.Image.{ImageValue}
use Rattle.profile_scan.specs.Destinations.{IsDestinationFault}
use Rattle.profile_scan.specs.declared.destination.Destination.{Destination}
use Rattle.journeys.specs.declared.question.Window.{Window}

-- the least stop of a name
abbrev pub IsNamed : NamesValue → List ℕ → ℕ → Type 0
IsNamed names name stop = At names.stops stop name × ((k : ℕ) → k < stop → ¬ At names.stops k name)

-- no stop has the name
abbrev pub NamesNone : NamesValue → List ℕ → Type 0
NamesNone names name = (k : ℕ) → ¬ At names.stops k name

-- a query asks from the least stop of one name to the least of another, in the window
pub record Asks (names : NamesValue) (from to : List ℕ) (window : Window) (q : Query) : Type 0 where
  pub source : IsNamed names from q.source
  pub target : IsNamed names to q.target
  pub times : (q.from ≡ window.from) × (q.until ≡ window.until) × (q.by ≡ window.by)

-- why there is no query: no stop has one of the names, or else the query has this fault
abbrev pub IsRefused : ImageValue → List ℕ → List ℕ → Window → QueryFault → Type 0
IsRefused image from to window UnknownStop = NamesNone image.names from ⊎ NamesNone image.names to
IsRefused image from to window SameStop = (q : Query) × Asks image.names from to window q × IsFirstFault image.timetable.stops q SameStop
IsRefused image from to window BadWindow = (q : Query) × Asks image.names from to window q × IsFirstFault image.timetable.stops q BadWindow

-- the destination is the least stop of a name, in the window
pub record AsksAll (names : NamesValue) (to : List ℕ) (window : Window) (d : Destination) : Type 0 where
  pub target : IsNamed names to d.target
  pub times : (d.from ≡ window.from) × (d.until ≡ window.until) × (d.by ≡ window.by)

-- why there is no destination: no stop has the name, or else the window is bad
abbrev pub IsRefusedOfAll : ImageValue → List ℕ → Window → QueryFault → Type 0
IsRefusedOfAll image to window UnknownStop = NamesNone image.names to
IsRefusedOfAll image to window SameStop = ⊥
IsRefusedOfAll image to window BadWindow =
    (d : Destination) × AsksAll image.names to window d × IsDestinationFault image.timetable.stops d BadWindow
