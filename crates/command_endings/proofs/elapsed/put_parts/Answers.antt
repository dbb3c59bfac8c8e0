use Rattle.std.proofs.Common.{string_bytes}
use Rattle.command_endings.specs.Elapsed.{parts_text}
use Rattle.text_pieces.proofs.Joined.{four}
use Rattle.command_endings.proofs.elapsed.put_parts.Goals as goal

pub returns : goal.returns
unfolding parts_text
returns c =
    four (string_bytes c.args.line.now) (string_bytes c.put_number.new.out) (string_bytes c.put_number-2.new.out) (string_bytes c.put_number-3.new.out)
    (string_bytes c.put_number-4.new.out) _ _ _ _
    c.in_ok-put_number.ensures c.in_ok-put_number-2.ensures c.in_ok-put_number-3.ensures c.in_ok-put_number-4.ensures
