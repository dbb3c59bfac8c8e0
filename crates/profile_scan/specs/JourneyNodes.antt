-- Journeys written as nodes.
use Rattle.std.specs.Prelude.{◌≡◌, ℕ, List, [], ◌∷◌, Option, Some, None, map, slice_get, Contains}
use Rattle.bags.specs.declared.point.Point.{Point}
use Rattle.timetable.specs.declared.network.Footpath.{Footpath}
use Rattle.timetable.specs.JourneyValue.{JourneyValue}
use Rattle.fronts.specs.declared.entry.Step.{Step}
use Rattle.fronts.specs.Front.{Extends}
use Rattle.scan_state.specs.Continuations.{Aboard}
use Rattle.profile_scan.specs.Nodes.{spelling}
use Rattle.scan_state.specs.Points.{untagged}
use Rattle.scan_state.specs.ScanRecords.{ScanRecords, spelling_of}
use Rattle.profile_scan.specs.declared.nodes.Node.{Node}
use Rattle.profile_scan.specs.declared.journey_nodes.Change.{Change}
use Rattle.profile_scan.specs.declared.journey_nodes.LastAlighting.{LastAlighting}
use Rattle.scan_state.specs.declared.scan_records.Exit.{Exit}
use Rattle.scan_state.specs.declared.scan_records.Exit.TheVariants.{Ends, Changes}

abbrev pub with_last : ℕ → Option Step → Option Change
with_last last None = None
with_last last (Some s) = Some (record { last = last; step = s })

abbrev pub change_by : List Step → Option Exit → Option Change
change_by steps None = None
change_by steps (Some (Ends last walk)) = None
change_by steps (Some (Changes last step)) = with_last last (slice_get steps step)

-- how one changes after a label, if one does
abbrev pub change : ScanRecords → ℕ → Option Change
change s label = change_by s.steps (slice_get s.exits label)

abbrev pub ending_by : Option Exit → Option LastAlighting
ending_by None = None
ending_by (Some (Ends last walk)) = Some (record { last = last; walk = walk })
ending_by (Some (Changes last step)) = None

-- how one ends after a label, if one does
abbrev pub ending : ScanRecords → ℕ → Option LastAlighting
ending s label = ending_by (slice_get s.exits label)

-- these labels, each by its change, lead from `first` to `last`
abbrev pub IsRoute : ScanRecords → ℕ → List ℕ → ℕ → Type 0
IsRoute s first [] last = first ≡ last
IsRoute s first (label ∷ labels) last = (first ≡ label)
    × ((c : Change) × (change s label ≡ Some c) × IsRoute s c.step.label labels last)

-- the records spell something of a label
abbrev pub IsLabelSpelled : List Footpath → ScanRecords → ℕ → Type 0
IsLabelSpelled walks s label = (x : Aboard) × ((spelling_of walks s).aboard label ≡ Some x)

-- the node of a number says what the records spell of a label
abbrev pub SaysLabel : List Footpath → ScanRecords → ℕ → List Node → ℕ → Type 0
SaysLabel walks s label nodes number = (x : Aboard) → (spelling_of walks s).aboard label ≡ Some x
    → (spelling nodes).aboard number ≡ Some x

-- the records spell a journey of a point found
abbrev pub IsJourneySpelled : List Footpath → ScanRecords → ℕ → Type 0
IsJourneySpelled walks s tag = (j : JourneyValue) × ((spelling_of walks s).journey tag ≡ Some j)

abbrev pub SaysJourney : List Footpath → ScanRecords → ℕ → List Node → ℕ → Type 0
SaysJourney walks s tag nodes number = (j : JourneyValue) → (spelling_of walks s).journey tag ≡ Some j
    → (spelling nodes).journey number ≡ Some j

-- nodes are added, and something is so
pub record AddsNodes (old new : List Node) (Says : Type 0) : Type 0 where
  pub nodes : Extends old new
  pub says : Says

-- a point has the departure and the value of one of `points`, and its tag is the number of a node that says the journey of that one
pub record IsSpelledAgain {V : Type 0} (walks : List Footpath) (s : ScanRecords) (points : List (Point V)) (nodes : List Node)
    (p : Point V) : Type 0 where
  pub of : Point V
  pub is_there : Contains points of
  pub departs : p.departure ≡ of.departure
  pub worth : p.value ≡ of.value
  pub says : SaysJourney walks s of.tag nodes p.tag

-- the points are these, and the nodes say the same journeys for them
pub record AreSpelledAgain {V : Type 0} (walks : List Footpath) (s : ScanRecords) (points spelled : List (Point V)) (nodes : List Node) : Type 0 where
  pub same : map untagged spelled ≡ map untagged points
  pub says : (p : Point V) → Contains spelled p → IsSpelledAgain walks s points nodes p
