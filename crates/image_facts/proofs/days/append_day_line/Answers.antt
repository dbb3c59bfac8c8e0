use Rattle.std.proofs.Common.{string_bytes}
use Rattle.image_facts.specs.Days.{day_line}
use Rattle.text_pieces.proofs.Joined.{three}
use Rattle.image_facts.proofs.days.append_day_line.Goals as goal

pub returns : goal.returns
unfolding day_line
returns c =
    three (string_bytes c.args.lines.now) (string_bytes c.put_number.new.out) (string_bytes c.put_number-2.new.out)
    (string_bytes c.put_text.new.out) _ _ _
    c.in_ok-put_number.ensures c.in_ok-put_number-2.ensures c.in_ok-put_text.ensures
