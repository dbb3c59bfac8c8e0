use Rattle.std.proofs.Common.{string_bytes}
use Rattle.departure_lines.specs.Words.{point_text}
use Rattle.text_pieces.proofs.Joined.{two}
use Rattle.departure_lines.proofs.listing.append_point.Goals as goal

pub returns : goal.returns
unfolding point_text
returns c =
    two (string_bytes c.args.lines.now) (string_bytes c.append_values.new.lines) (string_bytes c.put_text.new.out) _ _
    c.in_ok-append_values.ensures c.in_ok-put_text.ensures
