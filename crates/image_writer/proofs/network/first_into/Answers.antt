use Rattle.std.proofs.Common.{arith}
use Rattle.std.proofs.lemmas.Option.{slice_get-get_or}
use Rattle.image_layout.proofs.Spelled.{offset_below, offset_above}
use Rattle.image_writer.proofs.network.first_into.Goals as goal

pub loop-index-preserved : goal.loop-index-preserved
loop-index-preserved c =
    let paths = c.args.footpaths.now in
    let below = offset_below paths c.loop-index.index c.args.stop _
    (λ i d e at_d at_e. (c.requires.ordered i d e at_d at_e).0)
    (slice_get-get_or paths c.loop-index.index _ c.loop-index-test.true) c.if-footpaths-index.true in
    omega (arith, below)

pub returns-else-footpaths-index : goal.returns-else-footpaths-index
returns-else-footpaths-index c =
    let paths = c.args.footpaths.now in
    let above = offset_above paths c.loop-index.index c.args.stop _
    (λ i d e at_d at_e. (c.requires.ordered i d e at_d at_e).0)
    (slice_get-get_or paths c.loop-index.index (record {
      from = 0;
      to = 0;
      secs =
          0;
    }) c.loop-index-test.true) (omega (arith, c.if-footpaths-index.false)) in
    omega (arith, above, c.loop-index.invariant)
