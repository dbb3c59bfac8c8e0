use Rattle.std.proofs.Common.{arith}
use Rattle.matrix_rows.proofs.Sought.{item_sought, none_sought}
use Rattle.matrix_rows.proofs.listed_names.names_of.Goals as goal

pub loop-name-init : goal.loop-name-init
loop-name-init c = none_sought c.new-found.result c.new-found.ensures.empty

pub loop-name-preserved : goal.loop-name-preserved
loop-name-preserved c =
    item_sought (λ name. name.now) c.args.listed.now c.loop-name.name-index _ c.loop-name.found c.add_name.new.found (omega arith)
    c.loop-name.invariant c.in_ok-add_name.ensures
