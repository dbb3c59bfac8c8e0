use Rattle.std.proofs.Common.{string_bytes}
use Rattle.feed_days.specs.Days.{date_text}
use Rattle.text_pieces.proofs.Joined.{four}
use Rattle.feed_days.proofs.putting.put_date.Goals as goal

pub returns : goal.returns
unfolding date_text
returns c =
    four (string_bytes c.args.lines.now) (string_bytes c.put_two.new.out) (string_bytes c.put_two-2.new.out)
    (string_bytes c.put_two-3.new.out) (string_bytes c.put_two-4.new.out) _ _ _ _
    c.in_ok-put_two.ensures c.in_ok-put_two-2.ensures c.in_ok-put_two-3.ensures c.in_ok-put_two-4.ensures
