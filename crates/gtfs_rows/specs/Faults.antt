-- The first fault of records.
use Rattle.std.specs.Prelude.{◌+◌, ◌==◌, if◌then◌else◌, ℕ, List, [], ◌∷◌, ◌++◌, length, option_map, Option, Some, None, Bool, true, false}
use Rattle.std.specs.Option.{option_or}
use Rattle.gtfs_rows.specs.Source.{Record}
use Rattle.gtfs_rows.specs.declared.fault.FaultKind.{FaultKind}
use Rattle.gtfs_rows.specs.declared.fault.FaultKind.TheVariants as kinds

-- what is wrong with a record, given the records before it
abbrev pub Judge : Type 0
Judge = List Record → Record → Option FaultKind

-- what is wrong with a record: first, that it doesn't have as many fields as the header
abbrev pub length_first : ℕ → Judge → Judge
length_first width judge before r = if length r == width then judge before r else Some kinds.RowLength

-- the first fault of the records that follow others, and the number of its record; the first of all records has number 1
abbrev pub first_fault : Judge → List Record → List Record → Option (ℕ × FaultKind)
first_fault judge before [] = None
first_fault judge before (r ∷ rest) =
    option_or (option_map (λ kind. (length before + 1, kind)) (judge before r)) (first_fault judge (before ++ r ∷ []) rest)

-- the first of two faults, if either is there
abbrev pub or_fault : Option FaultKind → Option FaultKind → Option FaultKind
or_fault (Some kind) later = Some kind
or_fault None later = later

-- a fault if the condition holds
abbrev pub fault_if : Bool → FaultKind → Option FaultKind
fault_if true kind = Some kind
fault_if false kind = None

-- a fault if there is no value
abbrev pub fault_unless : {X : Type 0} → Option X → FaultKind → Option FaultKind
fault_unless (Some x) kind = None
fault_unless None kind = Some kind
