use Rattle.std.proofs.Common.{◌∙◌, sym}
use Rattle.shelf_steps.proofs.Loadings.{freed_block}
use Rattle.shelf_steps.proofs.loading.try_shelf.Goals as goal

pub empty_block-requires-clause-block : goal.empty_block-requires-clause-block
empty_block-requires-clause-block c = freed_block c.args.shelf c.args.version c.collect-word.result
    c.args.loader.now.me.0 c.args.loader.now.me.1 c.collect-word.new.loader.me c.collect-word.ensures.collect
    (sym c.is_word.ensures ∙ c.if-is_word.true)
