use Rattle.std.proofs.Common.{string_bytes}
use Rattle.feed_commands.specs.Building.{json_tail}
use Rattle.text_pieces.proofs.Joined.{five}
use Rattle.feed_commands.proofs.build.append_json_tail.Goals as goal

pub returns : goal.returns
unfolding json_tail
returns c =
    five (string_bytes c.args.json.now) (string_bytes c.put_number.new.out) (string_bytes c.put_number-2.new.out) (string_bytes c.put_number-3.new.out)
    (string_bytes c.put_number-4.new.out) (string_bytes c.put_text.new.out) _ _ _ _ _
    c.in_ok-put_number.ensures c.in_ok-put_number-2.ensures c.in_ok-put_number-3.ensures c.in_ok-put_number-4.ensures c.in_ok-put_text.ensures
