use Rattle.std.proofs.Common.{string_bytes}
use Rattle.feed_days.specs.Days.{dated_text}
use Rattle.text_pieces.proofs.Joined.{three}
use Rattle.feed_days.proofs.putting.put_dated.Goals as goal

pub returns : goal.returns
unfolding dated_text
returns c =
    three (string_bytes c.args.lines.now) (string_bytes c.put_text.new.out) (string_bytes c.put_date.new.lines)
    (string_bytes c.put_text-2.new.out) _ _ _ c.in_ok-put_text.ensures c.in_ok-put_date.ensures c.in_ok-put_text-2.ensures
