use Rattle.std.proofs.Common.{string_bytes}
use Rattle.feed_commands.specs.Tabling.{services_text}
use Rattle.text_pieces.proofs.Joined.{three}
use Rattle.feed_commands.proofs.tables.append_services.Goals as goal

pub returns : goal.returns
unfolding services_text
returns c =
    three (string_bytes c.args.line.now) (string_bytes c.put_number.new.out) (string_bytes c.put_number-2.new.out) (string_bytes c.put_number-3.new.out) _ _ _
    c.in_ok-put_number.ensures c.in_ok-put_number-2.ensures c.in_ok-put_number-3.ensures
