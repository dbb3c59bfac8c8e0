use Rattle.std.proofs.Common.{◌∙◌, arith}
use Rattle.image_layout.specs.Spelling.{footpath_count_below}
use Rattle.image_layout.proofs.Spelled.{below_rises}
use Rattle.image_writer.proofs.NameCounts.{index_next}
use Rattle.image_writer.proofs.network.write_foot_index.Goals as goal

pub loop-stop-preserved : goal.loop-stop-preserved
loop-stop-preserved c = (
  c.in_ok-push.ensures.items ∙ index_next _ _ (footpath_count_below c.args.footpaths.now) c.loop-stop.stop _ c.loop-stop.invariant.0 c.first_into-index.ensures,
  omega (arith, c.first_into-index.ensures, below_rises c.args.footpaths.now c.loop-stop.stop),
)
