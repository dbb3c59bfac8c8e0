use Rattle.std.proofs.Common.{◌≡◌, Contains, false}
use Rattle.fronts.specs.declared.entry.Item.{Item}
use Rattle.fronts.specs.Front.{front, Extends}
use Rattle.fronts.specs.Putting.{betters}
use Rattle.fronts.specs.Walking.{AreBoardings, AllWalked}
use Rattle.fronts.proofs.keeping.keep_walked.Given as goal

abbrev pub invariant-loop-i : goal.invariant-loop-i
invariant-loop-i g l = record {
  more : Extends l.fn.steps.items l.steps.items;
  boarded : AreBoardings (g.C.Criterion.rules l.criterion) l.steps.items l.boarding l.ridden l.kept.items;
  fresh : (p : Item g.row.C-V.Denot) → Contains l.kept.items p
      → betters (g.C.Criterion.rules l.criterion) (front l.arena.entries.now l.arena.items.now l.index) p.value ≡ false;
  all : AllWalked (g.C.Criterion.rules l.criterion) (front l.arena.entries.now l.arena.items.now l.index) l.boarding.secs l.ridden l.i l.kept.items;
}
