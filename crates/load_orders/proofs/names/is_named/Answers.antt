use Rattle.load_orders.proofs.NameLemmas.{named}
use Rattle.load_orders.proofs.names.is_named.Goals as goal

pub returns : goal.returns
returns c = named c.args.names.now c.args.index c.index-names-index.result c.args.name.now c.is_text.result c.requires c.index-names-index.is c.is_text.ensures
