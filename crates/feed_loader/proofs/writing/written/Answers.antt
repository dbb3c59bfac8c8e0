use Rattle.std.proofs.Common.{inr}
use Rattle.std.proofs.lemmas.Result.{IfErr-weaker}
use Rattle.feed_loader.proofs.writing.written.Goals as goal

-- the words were written, so only their verification wanted memory
pub returns-in-Ok-clause-err : goal.returns-in-Ok-clause-err
returns-in-Ok-clause-err c =
    IfErr-weaker c.verified.result _ _ (λ fault is. inr (is, c.in-Ok.words.items, c.in-Ok.ensures.image))
    (c.verified.ensures.err _ _ c.in-Ok.ensures.image)
