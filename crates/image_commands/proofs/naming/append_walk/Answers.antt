use Rattle.std.proofs.Common.{string_bytes}
use Rattle.image_commands.specs.Listing.{named_walk}
use Rattle.text_pieces.proofs.Joined.{four}
use Rattle.image_commands.proofs.naming.append_walk.Goals as goal

pub returns : goal.returns
unfolding named_walk
returns c =
    four (string_bytes c.args.lines.now) (string_bytes c.put_text.new.out) (string_bytes c.append_stop.new.lines) (string_bytes c.append_stop-2.new.lines)
    (string_bytes c.append_seconds.new.lines) _ _ _ _
    c.in_ok-put_text.ensures c.in_ok-append_stop.ensures c.in_ok-append_stop-2.ensures c.in_ok-append_seconds.ensures
