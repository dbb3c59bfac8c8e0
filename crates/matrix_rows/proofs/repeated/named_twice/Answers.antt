use Rattle.std.proofs.Common.{◌∙◌, sym, arith, map}
use Rattle.matrix_rows.proofs.Repeats.{item_placed, item_repeated, none_placed}
use Rattle.matrix_rows.proofs.repeated.named_twice.Goals as goal

pub loop-index-init : goal.loop-index-init
loop-index-init c = none_placed (map (λ name. name.now) c.args.listed.now) c.new-list_indices.result c.new-list_indices.ensures.empty

pub loop-index-preserved : goal.loop-index-preserved
loop-index-preserved c =
    item_placed (λ name. name.now) c.args.listed.now c.loop-index.index _ c.loop-index.list_indices c.add_index.new.list_indices
    (omega arith) c.loop-index.invariant (sym c.first_index_of.ensures ∙ c.in_default.is) c.in_ok-add_index.ensures

pub returns-in-Some : goal.returns-in-Some
returns-in-Some c =
    item_repeated (λ name. name.now) c.args.listed.now c.loop-index.index c.in-Some.first _ c.loop-index.list_indices
    (omega arith) c.loop-index.invariant (sym c.first_index_of.ensures ∙ c.in-Some.is)
