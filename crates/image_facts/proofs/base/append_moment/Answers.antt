use Rattle.std.proofs.Common.{string_bytes}
use Rattle.image_facts.specs.Base.{moment_text}
use Rattle.text_pieces.proofs.Joined.{five}
use Rattle.image_facts.proofs.base.append_moment.Goals as goal

pub returns : goal.returns
unfolding moment_text
returns c =
    five (string_bytes c.args.lines.now) (string_bytes c.put_text.new.out) (string_bytes c.append_date.new.lines)
    (string_bytes c.put_text-2.new.out) (string_bytes c.append_clock.new.lines) (string_bytes c.put_text-3.new.out) _ _ _ _ _
    c.in_ok-put_text.ensures c.in_ok-append_date.ensures c.in_ok-put_text-2.ensures c.in_ok-append_clock.ensures
    c.in_ok-put_text-3.ensures
