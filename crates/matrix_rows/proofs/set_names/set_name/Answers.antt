use Rattle.std.proofs.Common.{◌∙◌, arith, sym}
use Rattle.image_files.specs.Naming.{names_in}
use Rattle.matrix_rows.proofs.SetLemmas.{all_names, name_more, no_name}
use Rattle.matrix_rows.proofs.set_names.set_name.Goals as goal

pub loop-index-init : goal.loop-index-init
loop-index-init c = c.new-names.ensures.bytes ∙ sym (no_name (names_in c.args.form c.args.image.now.names))

pub loop-index-preserved : goal.loop-index-preserved
loop-index-preserved c =
    name_more (names_in c.args.form c.args.image.now.names) c.args.stops.now c.loop-index.index _ _ _ _ (omega arith)
    c.loop-index.invariant (c.as_str.ensures.value ∙ c.in_ok-name.ensures) c.in_ok-put_name.ensures

pub returns : goal.returns
returns c = c.loop-index.invariant ∙ all_names (names_in c.args.form c.args.image.now.names) c.args.stops.now c.loop-index.index (omega arith)
