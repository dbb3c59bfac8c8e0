use Rattle.std.proofs.Common.{string_bytes}
use Rattle.text_pieces.proofs.Joined.{two}
use Rattle.feed_commands.proofs.refusing.put_record.Goals as goal

pub returns : goal.returns
returns c =
    two (string_bytes c.args.line.now) (string_bytes c.put_word.new.out) (string_bytes c.put_number.new.out) _ _
    c.in_ok-put_word.ensures c.in_ok-put_number.ensures
