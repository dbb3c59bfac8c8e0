use Rattle.std.proofs.Common.{string_bytes}
use Rattle.answer_pictures.specs.Moments.{moment_text}
use Rattle.answer_pictures.proofs.Joined.{three}
use Rattle.answer_pictures.proofs.moments.put_moment.Goals as goal

pub returns : goal.returns
unfolding moment_text
returns c =
    three (string_bytes c.args.out.now) (string_bytes c.put_minute.new.out) (string_bytes c.put_seconds.new.out)
    (string_bytes c.put_days.new.out) _ _ _
    c.in_ok-put_minute.ensures c.in_ok-put_seconds.ensures c.in_ok-put_days.ensures
