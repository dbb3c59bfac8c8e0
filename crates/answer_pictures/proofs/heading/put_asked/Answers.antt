use Rattle.std.proofs.Common.{string_bytes}
use Rattle.answer_pictures.proofs.Joined.{four}
use Rattle.answer_pictures.proofs.heading.put_asked.Goals as goal

pub returns : goal.returns
returns c =
    four (string_bytes c.args.out.now) (string_bytes c.put_own.new.out) (string_bytes c.put_own-2.new.out)
    (string_bytes c.put_own-3.new.out) (string_bytes c.put_best.new.out) _ _ _ _
    c.in_ok-put_own.ensures c.in_ok-put_own-2.ensures c.in_ok-put_own-3.ensures c.in_ok-put_best.ensures
