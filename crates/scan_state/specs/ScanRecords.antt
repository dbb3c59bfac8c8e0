-- What a scan writes down, and what that spells: how one goes on from each label, from each point of a stop, and from each
-- point found.
use Rattle.std.specs.Prelude.{◌≡◌, ℕ, zero, suc, List, [], ◌∷◌, length, Option, Some, None, slice_get}
use Rattle.bags.specs.declared.point.Point.{Point}
use Rattle.timetable.specs.declared.network.Footpath.{Footpath}
use Rattle.timetable.specs.JourneyValue.{JourneyValue}
use Rattle.fronts.specs.declared.entry.Step.{Step}
use Rattle.fronts.specs.Front.{Extends}
use Rattle.scan_state.specs.Continuations.{Onward, Aboard}
use Rattle.scan_state.specs.Matching.{Spelling, Spellings}
use Rattle.scan_state.specs.Steps.{boarded}
use Rattle.scan_state.specs.declared.scan_records.Exit.{Exit}
use Rattle.scan_state.specs.declared.scan_records.Exit.TheVariants.{Ends, Changes}
use Rattle.scan_state.specs.declared.scan_records.SetOut.{SetOut}

-- a walk of one footpath, or of none
abbrev pub walk_of : Option Footpath → List Footpath
walk_of None = []
walk_of (Some f) = f ∷ []

abbrev pub changed_at : ℕ → Option Onward → Option Aboard
changed_at last None = None
changed_at last (Some x) = Some (record { last = last; walk = x.walk; rides = x.rides })

abbrev pub boarded_after : Footpath → ℕ → Option Aboard → Option Onward
boarded_after walk first None = None
boarded_after walk first (Some x) = Some (record { walk = walk ∷ []; rides = boarded first x })

abbrev pub set_out_by : Option Footpath → ℕ → Option Aboard → Option JourneyValue
set_out_by start first None = None
set_out_by start first (Some x) = Some (record { start = start; rides = boarded first x })

-- a tag spells that one leaves a trip for good after a connection, by a footpath or none
abbrev pub SpellsEnd : Spellings → ℕ → Option Footpath → ℕ → Type 0
SpellsEnd tags last walk tag = tags.later.aboard tag ≡ Some (record { last = last; walk = walk_of walk; rides = [] })

-- a tag spells that one leaves a trip after a connection, and then goes on as an earlier tag spelled
abbrev pub SpellsChange : Spellings → ℕ → ℕ → ℕ → Type 0
SpellsChange tags last next tag =
    (x : Onward) → tags.earlier.onward next ≡ Some x
    → tags.later.aboard tag ≡ Some (record { last = last; walk = x.walk; rides = x.rides })

-- for each label how its trip is left, for each point of a stop the step that boards, and for each point found how one sets out; their tags are the indices
pub record ScanRecords : Type 0 where
  pub exits : List Exit
  pub steps : List Step
  pub set_outs : List SetOut

abbrev pub scan_records : List Exit → List Step → List SetOut → ScanRecords
scan_records exits steps set_outs = record { exits = exits; steps = steps; set_outs = set_outs }

-- what is kept where journeys set out: the points found, and how one sets out for each; a point's tag is the index
pub record SourceValue (V : Type 0) : Type 0 where
  pub found : List (Point V)
  pub set_outs : List SetOut

-- what is kept of trips and stops: the points of each stop, the labels of each trip as points, how trips are left, and the steps that board
pub record KeptValue (V : Type 0) : Type 0 where
  pub bag : ℕ → List (Point V)
  pub labels : ℕ → List (Point V)
  pub exits : List Exit
  pub steps : List Step

-- records, and the same with more written down after it
pub record Grows (old new : ScanRecords) : Type 0 where
  pub exits : Extends old.exits new.exits
  pub steps : Extends old.steps new.steps
  pub set_outs : Extends old.set_outs new.set_outs

-- what an exit spells, given what the steps spell
abbrev pub exit_spells : (ℕ → Option Onward) → Option Exit → Option Aboard
exit_spells onward None = None
exit_spells onward (Some (Ends last walk)) = Some (record { last = last; walk = walk_of walk; rides = [] })
exit_spells onward (Some (Changes last step)) = changed_at last (onward step)

-- what a step spells, given what the labels spell
abbrev pub boards_by : ℕ → Option Aboard → Option Footpath → Option Onward
boards_by first x None = None
boards_by first x (Some f) = boarded_after f first x

abbrev pub step_spells : List Footpath → (ℕ → Option Aboard) → Option Step → Option Onward
step_spells walks aboard None = None
step_spells walks aboard (Some s) = boards_by s.first (aboard s.label) (slice_get walks s.walk)

-- what a way to set out spells, given what the labels spell
abbrev pub set_out_spells : (ℕ → Option Aboard) → Option SetOut → Option JourneyValue
set_out_spells aboard None = None
set_out_spells aboard (Some s) = set_out_by s.start s.first (aboard s.label)

-- what a label spells, in at most n legs
unfoldable pub label_spells : List Footpath → ScanRecords → ℕ → ℕ → Option Aboard
label_spells walks s zero label = None
label_spells walks s (suc n) label = exit_spells
    (λ tag. step_spells walks (label_spells walks s n) (slice_get s.steps tag)) (slice_get s.exits label)

-- what each tag spells: as that of a point of a stop, of a label, or of a point found
abbrev pub spelling_of : List Footpath → ScanRecords → Spelling
spelling_of walks s = record {
  onward = λ tag. step_spells walks (label_spells walks s (length s.exits)) (slice_get s.steps tag);
  aboard = label_spells walks s (length s.exits);
  journey = λ tag. set_out_spells (label_spells walks s (length s.exits)) (slice_get s.set_outs tag);
}

-- the same of what is kept, with ways to set out
abbrev pub spelled_by : {V : Type 0} → List Footpath → KeptValue V → List SetOut → Spelling
spelled_by walks kept set_outs = spelling_of walks (scan_records kept.exits kept.steps set_outs)

-- in `tags.later` the tag spells what the exit means, with earlier tags read by `tags.earlier`
abbrev pub IsExit : Spellings → Exit → ℕ → Type 0
IsExit tags (Ends last walk) tag = SpellsEnd tags last walk tag
IsExit tags (Changes last step) tag = SpellsChange tags last step tag
