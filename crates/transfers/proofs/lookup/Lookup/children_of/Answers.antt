use Rattle.transfers.proofs.ClaimLemmas.{children_are}
use Rattle.transfers.proofs.lookup.Lookup.children_of.Goals as goal

pub returns : goal.returns
returns c = λ all rows l. children_are all c.args.station c.group.result.now (c.group.ensures _ l.children)
