use Rattle.std.proofs.Common.{string_bytes}
use Rattle.image_commands.specs.Listing.{end_line}
use Rattle.text_pieces.proofs.Joined.{four}
use Rattle.image_commands.proofs.listing.append_end.Goals as goal

pub returns : goal.returns
unfolding end_line
returns c =
    four (string_bytes c.args.lines.now) (string_bytes c.put_number.new.out) (string_bytes c.put_number-2.new.out) (string_bytes c.append_direct.new.lines)
    (string_bytes c.put_text.new.out) _ _ _ _
    c.in_ok-put_number.ensures c.in_ok-put_number-2.ensures c.in_ok-append_direct.ensures c.in_ok-put_text.ensures
