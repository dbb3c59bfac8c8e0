use Rattle.std.proofs.Common.{◌*◌}
use Rattle.image_layout.specs.Image.{ImageValue}
use Rattle.shelf_steps.specs.Blocks.{laid, EachHas}
use Rattle.shelf_steps.proofs.Editions.{laid_have}
use Rattle.shelf_steps.proofs.Loadings.{LoadsOn, loads_on}
use Rattle.shelf_steps.proofs.loading.load_editions.Goals as goal
use Rattle.shelf_steps.proofs.loading.load_editions.Goals.{After-fill_block}

filled : (c : goal.After-fill_block) (image : ImageValue) → EachHas c.args.version image 16 c.args.editions.items
    → LoadsOn c.args.shelf c.args.version c.args.former c.args.loader.now.me.0 image c.fill_block.new.loader.me
filled c image has =
    loads_on c.args.shelf c.args.version c.args.former c.args.loader.now.me.0 image (laid c.args.editions.items (16 * c.args.shelf))
    c.args.loader.now.me.1 c.gather.new.loader.me c.fill_block.new.loader.me c.requires.ready
    (laid_have c.args.version image c.args.editions.items c.args.shelf has) c.gather.ensures.gather c.fill_block.ensures.block

pub open-requires-clause-ready : goal.open-requires-clause-ready
open-requires-clause-ready c =
    (filled (goal.at.open-requires-clause-ready c).After-fill_block c.requires.editions.0 c.requires.editions.1).0 c.requires.numbers.1

pub publish-requires-clause-ready : goal.publish-requires-clause-ready
publish-requires-clause-ready c =
    ((filled (goal.at.publish-requires-clause-ready c).After-fill_block c.requires.editions.0 c.requires.editions.1).1
    c.open.new.loader.me c.open.ensures.open).0

pub close-requires-clause-ready : goal.close-requires-clause-ready
close-requires-clause-ready c =
    (((filled (goal.at.close-requires-clause-ready c).After-fill_block c.requires.editions.0 c.requires.editions.1).1
    c.open.new.loader.me c.open.ensures.open).1 c.publish.new.loader.me c.publish.ensures.publish).0

pub returns-clause-load : goal.returns-clause-load
returns-clause-load c image has =
    ((((filled (goal.at.returns-clause-load c).After-fill_block image has).1
    c.open.new.loader.me c.open.ensures.open).1 c.publish.new.loader.me c.publish.ensures.publish).1
    c.close.new.loader.me c.close.ensures.close).0
