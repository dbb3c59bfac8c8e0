use Rattle.std.proofs.Common.{string_bytes}
use Rattle.feed_commands.specs.Tabling.{services_json}
use Rattle.text_pieces.proofs.Joined.{three}
use Rattle.feed_commands.proofs.tables.append_services_json.Goals as goal

pub returns : goal.returns
unfolding services_json
returns c =
    three (string_bytes c.args.json.now) (string_bytes c.put_number.new.out) (string_bytes c.put_number-2.new.out) (string_bytes c.put_number-3.new.out) _ _ _
    c.in_ok-put_number.ensures c.in_ok-put_number-2.ensures c.in_ok-put_number-3.ensures
