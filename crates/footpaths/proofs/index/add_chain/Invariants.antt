use Rattle.std.proofs.Common.{◌≡◌, ◌≤◌, ◌+◌, ℕ, length}
use Rattle.timetable.specs.declared.network.Footpath.{Footpath}
use Rattle.timetable.specs.Legal.{At}
use Rattle.footpaths.specs.Index.{IsLastInto, AddsThoseFrom}
use Rattle.footpaths.proofs.index.add_chain.Given as goal

abbrev pub invariant-loop-position : goal.invariant-loop-position
invariant-loop-position l = record {
  in_range : l.position ≤ length l.listed;
  into : (stop : ℕ) → IsLastInto l.listed stop (length l.listed) l.last → (i : ℕ) (f : Footpath) → l.position ≡ i + 1 → At l.listed i f → f.to ≡ stop;
  adds : (stop : ℕ) → IsLastInto l.listed stop (length l.listed) l.last → AddsThoseFrom l.listed stop l.position l.initial.paths.items l.paths.items;
}

abbrev pub decreases-loop-position : goal.decreases-loop-position
decreases-loop-position l = l.position
