use Rattle.std.proofs.Common.{string_bytes}
use Rattle.image_commands.specs.Listing.{named_hops}
use Rattle.text_pieces.proofs.Joined.{four}
use Rattle.image_commands.proofs.naming.append_hops.Goals as goal

pub returns : goal.returns
unfolding named_hops
returns c =
    four (string_bytes c.args.lines.now) (string_bytes c.put_text.new.out) (string_bytes c.append_trip.new.lines) (string_bytes c.append_call.new.lines)
    (string_bytes c.append_call-2.new.lines) _ _ _ _
    c.in_ok-put_text.ensures c.in_ok-append_trip.ensures c.in_ok-append_call.ensures c.in_ok-append_call-2.ensures
