-- Questions by the names of their stops.
use Rattle.std.specs.Prelude.{◌≡◌, ◌⊎◌, ℕ, List, Contains}
use Rattle.std.specs.List.{AllZip}
use Rattle.timetable.specs.NamesValue.{NamesValue}
use Rattle.timetable.specs.declared.query.QueryFault.{QueryFault}
use Rattle.timetable.specs.declared.query.QueryFault.TheVariants.{UnknownStop, SameStop, BadWindow}
use Rattle.image_layout.specs.Image.{ImageValue}
use Rattle.journeys.specs.Questions.{IsNamed, NamesNone}
use Rattle.journeys.specs.declared.question.Window.{Window}
use Rattle.scan_state.specs.SetQuery.{SetQueryValue}
use Rattle.station_answers.specs.Asking.{IsFirstFault}
use Rattle.station_answers.specs.declared.naming.NoQuestion.{NoQuestion}
use Rattle.station_answers.specs.declared.naming.NoQuestion.TheVariants.{Bad, OutOfMemory}

-- a question asks from the least stops of some names to the least stops of others, each in the order of the names, in the window
pub record AsksBetween (names : NamesValue) (from to : List (List ℕ)) (window : Window) (b : SetQueryValue) : Type 0 where
  pub sources : AllZip (IsNamed names) from b.sources
  pub targets : AllZip (IsNamed names) to b.targets
  pub times : (b.from ≡ window.from) × (b.until ≡ window.until) × (b.by ≡ window.by)

-- one of the names is that of no stop
abbrev pub SomeUnknown : NamesValue → List (List ℕ) → Type 0
SomeUnknown names listed = (name : List ℕ) × Contains listed name × NamesNone names name

-- a fault of the question between these names
abbrev pub IsFaultBetween : ImageValue → List (List ℕ) → List (List ℕ) → Window → QueryFault → Type 0
IsFaultBetween image from to window UnknownStop = SomeUnknown image.names from ⊎ SomeUnknown image.names to
IsFaultBetween image from to window SameStop =
    (b : SetQueryValue) × AsksBetween image.names from to window b × IsFirstFault image.timetable.stops b SameStop
IsFaultBetween image from to window BadWindow =
    (b : SetQueryValue) × AsksBetween image.names from to window b × IsFirstFault image.timetable.stops b BadWindow

-- why there is no question
abbrev pub IsNoQuestion : ImageValue → List (List ℕ) → List (List ℕ) → Window → NoQuestion → Type 0
IsNoQuestion image from to window (Bad fault) = IsFaultBetween image from to window fault
IsNoQuestion image from to window OutOfMemory = Unit {0}
