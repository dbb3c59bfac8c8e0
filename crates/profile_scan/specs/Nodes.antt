-- What nodes spell, each by what the earlier nodes spell.
use Rattle.std.specs.Prelude.{◌≡◌, ℕ, List, [], ◌∷◌, ◌++◌, Option, Some, None, slice_index_or}
pub use Rattle.reasoning.specs.Lists.{Extends}
use Rattle.timetable.specs.JourneyValue.{JourneyValue}
use Rattle.scan_state.specs.Continuations.{Onward, Aboard}
use Rattle.scan_state.specs.Matching.{Spelling, Spellings}
use Rattle.scan_state.specs.Steps.{boarded}
use Rattle.scan_state.specs.ScanRecords.{SpellsChange, SpellsEnd, boarded_after, changed_at, set_out_by, walk_of}
use Rattle.profile_scan.specs.declared.nodes.Node.{Node}
use Rattle.profile_scan.specs.declared.nodes.Node.TheVariants.{Ends, Changes, Boards, SetsOut}

-- what one node spells: how one goes on from a stop, in a trip, or a whole journey
pub record Spelled : Type 0 where
  pub onward : Option Onward
  pub aboard : Option Aboard
  pub journey : Option JourneyValue

abbrev pub nothing : Spelled
nothing = record { onward = None; aboard = None; journey = None }

-- what a node spells, given what the earlier ones spell
abbrev pub spells : (ℕ → Spelled) → Node → Spelled
spells earlier (Ends last walk) = record nothing
    { aboard = Some (record { last = last; walk = walk_of walk; rides = [] }) }
spells earlier (Changes last next) = record nothing { aboard = changed_at last (earlier next).onward }
spells earlier (Boards walk first next) = record nothing { onward = boarded_after walk first (earlier next).aboard }
spells earlier (SetsOut start first next) = record nothing { journey = set_out_by start first (earlier next).aboard }

-- what the node of a number spells, or nothing
abbrev pub at_number : List Spelled → ℕ → Spelled
at_number done k = slice_index_or done k nothing

-- what nodes spell one after the other, given what those before them spell
unfoldable pub spelled_on : List Spelled → List Node → List Spelled
spelled_on done [] = done
spelled_on done (node ∷ nodes) = spelled_on (done ++ spells (at_number done) node ∷ []) nodes

-- what the node of a number spells
abbrev pub spelled : List Node → ℕ → Spelled
spelled nodes k = at_number (spelled_on [] nodes) k

-- the numbers of nodes as tags
abbrev pub spelling : List Node → Spelling
spelling nodes = record {
  onward = λ k. (spelled nodes k).onward;
  aboard = λ k. (spelled nodes k).aboard;
  journey = λ k.
      (spelled nodes k).journey;
}

-- a tag spells what a node says, by what earlier tags spelled
abbrev pub IsSpelled : Spellings → Node → ℕ → Type 0
IsSpelled tags (Ends last walk) tag = SpellsEnd tags last walk tag
IsSpelled tags (Changes last next) tag = SpellsChange tags last next tag
IsSpelled tags (Boards walk first next) tag =
    (x : Aboard) → tags.earlier.aboard next ≡ Some x
    → tags.later.onward tag ≡ Some (record { walk = walk ∷ []; rides = boarded first x })
IsSpelled tags (SetsOut start first next) tag =
    (x : Aboard) → tags.earlier.aboard next ≡ Some x
    → tags.later.journey tag ≡ Some (record { start = start; rides = boarded first x })
