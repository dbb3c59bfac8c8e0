use Rattle.std.proofs.Common.{List, ◌+◌, subst, sym, refl, rules}
use Rattle.std.specs.Arc.{arc_value}
use Rattle.shelf_steps.specs.Blocks.{EachHas}
use Rattle.shelf_steps.specs.declared.edition.Edition.{Edition}
use Rattle.shelf_steps.proofs.Editions.{each_grows}
use Rattle.shelf_steps.proofs.blocks.editions_of.Goals as goal

pub loop-i-preserved : goal.loop-i-preserved
loop-i-preserved c =
    subst (λ (l : List Edition). EachHas c.args.version (arc_value c.args.image.now) (c.loop-i._i + 1) l) (sym c.in_ok-push.ensures.items)
    (each_grows c.args.version (arc_value c.args.image.now) c.loop-i._i c.loop-i.editions.items _ c.loop-i.invariant refl (search rules))
