use Rattle.std.proofs.Common.{string_bytes}
use Rattle.image_facts.specs.Facts.{number_line}
use Rattle.text_pieces.proofs.Joined.{two}
use Rattle.image_facts.proofs.putting.put_line.Goals as goal

pub returns : goal.returns
unfolding number_line
returns c =
    two (string_bytes c.args.lines.now) (string_bytes c.put_number.new.out) (string_bytes c.put_text.new.out) _ _
    c.in_ok-put_number.ensures c.in_ok-put_text.ensures
