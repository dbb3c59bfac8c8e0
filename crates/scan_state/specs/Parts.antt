-- What each part of a scan's state takes in at a connection, and what it keeps.
use Rattle.std.specs.Prelude.{◌≡◌, ◌≢◌, ◌<◌, ℕ, List, [], Contains, Option, IfSome}
use Rattle.criteria.specs.Laws.{Rules, Admits, IsSecs}
use Rattle.bags.specs.Bag.{criterion_of}
use Rattle.bags.specs.declared.point.Point.{Point}
use Rattle.timetable.specs.declared.network.Footpath.{Footpath}
use Rattle.fronts.specs.Front.{Extends}
use Rattle.fronts.specs.declared.entry.Step.{Step}
use Rattle.fronts.specs.declared.labels.Label.{Label}
use Rattle.scan_state.specs.Matching.{Spellings}
use Rattle.timetable.specs.TimetableValue.{TimetableValue}
use Rattle.scan_state.specs.Steps.{MaySetOut, Offer, SettingOut, settings_out}
use Rattle.scan_state.specs.Adding.{Takes, label_points, settings_out_by}
use Rattle.scan_state.specs.ScanRecords.{SourceValue, scan_records}
use Rattle.scan_state.specs.Hops.{IsHopOf, KnowsSources}
use Rattle.scan_state.specs.Origins.{kept_of, starts_at}
use Rattle.scan_state.specs.SetQuery.{asked_from, question}
use Rattle.scan_state.specs.declared.hop.Hop.{Hop}
use Rattle.scan_state.specs.declared.hop.ScanQuery.{ScanQuery}
use Rattle.scan_state.specs.declared.origin.Origin.{Origin}
use Rattle.scan_state.specs.Starts.{IsLed}
use Rattle.scan_state.specs.declared.scan_records.Exit.{Exit}

-- the values of labels are admitted
abbrev pub AdmitsLabels : {V : Type 0} → Rules V → List (Label V) → Type 0
AdmitsLabels {V} rules labels = (l : Point V) → Contains (label_points labels) l → Admits rules l.value

-- the points found stay under their criterion, and ways to set out are only added
pub record ChangesOrigin {K V : Type 0} {c : _} (criterion : K) (old new : Origin K V c) : Type 0 where
  pub found : criterion_of new.found ≡ criterion
  pub set_outs : Extends old.set_outs.items new.set_outs.items

-- the points found where journeys set out take an offer in
abbrev pub SourceTakes : {A V : Type 0} → Rules V → List Footpath → (Spellings → Offer A V) → SourceValue V → SourceValue V → Type 0
SourceTakes rules walks offer old new =
    (exits : List Exit) (steps : List Step)
    → Takes rules walks (scan_records exits steps old.set_outs) (scan_records exits steps new.set_outs) offer old.found new.found

-- the same, and the points found stay under their criterion
pub record OriginTakes {A K V : Type 0} {c : _} (rules_of : K → Rules V) (criterion : K) (offer : Spellings → Offer A V)
    (old new : Origin K V c) : Type 0 where
  pub origin : ChangesOrigin criterion old new
  pub takes : (walks : List Footpath) → SourceTakes (rules_of criterion) walks offer (kept_of old) (kept_of new)

-- a start may be tried with the labels of a trip: its seconds and their values are within what the laws are about, and the points found are under the criterion
pub record CanSetOut {K V : Type 0} {c : _} (rules_of : K → Rules V) (criterion : K) (start : Option Footpath) (of_trip : List (Label V))
    (origin : Origin K V c) : Type 0 where
  pub secs : IfSome start (λ walk. IsSecs walk.secs)
  pub found : criterion_of origin.found ≡ criterion
  pub labels : AdmitsLabels (rules_of criterion) of_trip

-- it is made, and nothing is found for any question
pub record IsNewSource {K V O : Type 0} (IsUnder : K → ℕ → O → Type 0) (kept : O → ℕ → SourceValue V) (criterion : K) (stops : ℕ) (new : O)
    : Type 0 where
  pub under : IsUnder criterion stops new
  pub none : (index : ℕ) → (kept new index).found ≡ []

-- one may set out by a start with the labels of a trip: it begins at one of the stops, whether that is a source can be looked up, and its seconds and the
-- labels' values are within what the laws are about
pub record CanSetOutBy {K V O : Type 0} (rules_of : K → Rules V) (IsUnder : K → ℕ → O → Type 0) (query : ScanQuery K) (here : Hop V)
    (start : Option Footpath) (of_trip : List (Label V)) (kept : O) : Type 0 where
  pub stops : ℕ
  pub under : IsUnder query.criterion stops kept
  pub begins : starts_at here.connection start < stops
  pub knows : KnowsSources (question query.query).sources here query.starts start
  pub secs : IfSome start (λ walk. IsSecs walk.secs)
  pub labels : AdmitsLabels (rules_of query.criterion) of_trip

-- and for each question the points found take in what this start offers
pub record SetsOutBy {K V O : Type 0} (rules_of : K → Rules V) (IsUnder : K → ℕ → O → Type 0) (sources : List ℕ → ℕ → List ℕ)
    (kept : O → ℕ → SourceValue V) (query : ScanQuery K) (here : Hop V) (start : Option Footpath) (of_trip : List (Label V))
    (old new : O) : Type 0 where
  pub under : (stops : ℕ) → IsUnder query.criterion stops old → IsUnder query.criterion stops new
  pub set_outs : (index : ℕ) → Extends (kept old index).set_outs (kept new index).set_outs
  pub takes : (walks : List Footpath) (index : ℕ) → SourceTakes (rules_of query.criterion) walks
      (λ tags. settings_out_by (rules_of query.criterion) tags here.place here.connection (asked_from sources (question query.query) index)
      (label_points of_trip) start) (kept old index) (kept new index)

-- what is kept where journeys set out may take in the settings out at a hop, by labels of its trip
pub record CanSetOutAt {K V O : Type 0} (rules_of : K → Rules V) (IsUnder : K → ℕ → O → Type 0) (t : TimetableValue) (query : ScanQuery K)
    (here : Hop V) (of_trip : List (Label V)) (kept : O) : Type 0 where
  pub hop : IsHopOf (rules_of query.criterion) t (question query.query) query.starts here
  pub under : IsUnder query.criterion t.stops kept
  pub labels : AdmitsLabels (rules_of query.criterion) of_trip

-- nobody sets out at a hop for any question, in whatever timetable it is
abbrev pub NobodySetsOut : {K V : Type 0} → (K → Rules V) → (List ℕ → ℕ → List ℕ) → ScanQuery K → Hop V → Type 0
NobodySetsOut {V = V} rules_of sources query here =
    (t : TimetableValue) → IsHopOf (rules_of query.criterion) t (question query.query) query.starts here
    → (index : ℕ) (labels : List (Point V)) (way : SettingOut V)
    → MaySetOut t (asked_from sources (question query.query) index) here.place labels way → ⊥

-- no footpath leads to a hop from a source of any question, in whatever timetable it is
abbrev pub NoneLeads : {K V : Type 0} → (K → Rules V) → (List ℕ → ℕ → List ℕ) → ScanQuery K → Hop V → Type 0
NoneLeads rules_of sources query here =
    (t : TimetableValue) → IsHopOf (rules_of query.criterion) t (question query.query) query.starts here
    → (index : ℕ) → IsLed t (sources (question query.query).sources index) here.connection.from → ⊥

-- and it takes them in, for each question
pub record SetsOut {K V O : Type 0} (rules_of : K → Rules V) (IsUnder : K → ℕ → O → Type 0) (sources : List ℕ → ℕ → List ℕ)
    (kept : O → ℕ → SourceValue V) (t : TimetableValue) (query : ScanQuery K) (here : Hop V) (of_trip : List (Label V))
    (old new : O) : Type 0 where
  pub under : IsUnder query.criterion t.stops new
  pub set_outs : (index : ℕ) → Extends (kept old index).set_outs (kept new index).set_outs
  pub takes : (index : ℕ) → SourceTakes (rules_of query.criterion) t.footpaths
      (λ tags. settings_out (rules_of query.criterion) t (asked_from sources (question query.query) index) tags here.place (label_points of_trip))
      (kept old index) (kept new index)
