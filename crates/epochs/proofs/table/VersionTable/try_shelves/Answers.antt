use Rattle.epochs.proofs.TryLemmas.{one_more_tried, all_tried}
use Rattle.epochs.proofs.table.VersionTable.try_shelves.Goals as goal

pub loop-shelf-preserved : goal.loop-shelf-preserved
loop-shelf-preserved c =
    one_more_tried c.loop-shelf.shelf _ c.loop-shelf.self c.try_shelf-freed.new.self c.loop-shelf.found.freed
    c.loop-shelf.found.busy c.try_shelf-freed.result.0 c.try_shelf-freed.result.1 c.runs_in_parts.ensures.join
    c.loop-shelf-test.true c.loop-shelf.invariant c.try_shelf-freed.ensures

pub returns : goal.returns
returns c = all_tried c.loop-shelf.shelf c.args.self.now c.loop-shelf.found c.loop-shelf.self c.history.ensures.kept
    c.loop-shelf-test.false c.loop-shelf.invariant
