use Rattle.std.proofs.Common.{string_bytes}
use Rattle.image_facts.specs.Days.{day_member}
use Rattle.text_pieces.proofs.Joined.{two}
use Rattle.image_facts.proofs.days.append_day_member.Goals as goal

pub returns : goal.returns
unfolding day_member
returns c =
    two (string_bytes c.args.lines.now) (string_bytes c.put_number.new.out) (string_bytes c.put_number-2.new.out) _ _
    c.in_ok-put_number.ensures c.in_ok-put_number-2.ensures
