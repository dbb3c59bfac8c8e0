use Rattle.std.proofs.Common.{string_bytes}
use Rattle.departure_lines.specs.Words.{values_text}
use Rattle.text_pieces.proofs.Joined.{three}
use Rattle.departure_lines.proofs.listing.append_values.Goals as goal

pub returns : goal.returns
unfolding values_text
returns c =
    three (string_bytes c.args.lines.now) (string_bytes c.append_times.new.lines) (string_bytes c.append_number.new.lines)
    (string_bytes c.append_number-2.new.lines)
    _ _ _
    c.in_ok-append_times.ensures c.in_ok-append_number.ensures c.in_ok-append_number-2.ensures
