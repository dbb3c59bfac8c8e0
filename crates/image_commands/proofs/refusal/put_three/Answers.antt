use Rattle.std.proofs.Common.{string_bytes}
use Rattle.text_pieces.proofs.Joined.{three}
use Rattle.image_commands.proofs.refusal.put_three.Goals as goal

pub returns : goal.returns
returns c =
    three (string_bytes c.args.line.now) (string_bytes c.put_position.new.line) (string_bytes c.put_position-2.new.line)
    (string_bytes c.put_position-3.new.line) _ _ _
    c.in_ok-put_position.ensures c.in_ok-put_position-2.ensures c.in_ok-put_position-3.ensures
