use Rattle.std.proofs.Common.{◌++◌, ◌∷◌, [], ◌∙◌, ap}
use Rattle.std.proofs.lemmas.List.{replicate-append-replicate}
use Rattle.fronts.proofs.vectors.copies.Goals as goal

pub loop-k-preserved : goal.loop-k-preserved
loop-k-preserved g c =
    c.in_ok-push.ensures.items ∙ ap (λ xs. xs ++ c.args.item ∷ []) c.loop-k.invariant
    ∙ replicate-append-replicate c.loop-k.k 1 c.args.item
