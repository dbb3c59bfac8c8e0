use Rattle.std.proofs.Common.{string_bytes}
use Rattle.feed_days.specs.Days.{trips_member}
use Rattle.text_pieces.proofs.Joined.{three}
use Rattle.feed_days.proofs.listing.append_trips_member.Goals as goal

pub returns : goal.returns
unfolding trips_member
returns c =
    three (string_bytes c.args.lines.now) (string_bytes c.put_text.new.out) (string_bytes c.put_date.new.lines)
    (string_bytes c.put_number.new.out) _ _ _
    c.in_ok-put_text.ensures c.in_ok-put_date.ensures c.in_ok-put_number.ensures
