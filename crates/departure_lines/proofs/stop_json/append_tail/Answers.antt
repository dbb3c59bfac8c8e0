use Rattle.std.proofs.Common.{string_bytes}
use Rattle.departure_lines.specs.Json.{json_tail}
use Rattle.text_pieces.proofs.Joined.{three}
use Rattle.departure_lines.proofs.stop_json.append_tail.Goals as goal

pub returns : goal.returns
unfolding json_tail
returns c =
    three (string_bytes c.args.lines.now) (string_bytes c.put_text.new.out) (string_bytes c.append_walk.new.lines) (string_bytes c.put_text-2.new.out) _ _ _
    c.in_ok-put_text.ensures c.in_ok-append_walk.ensures c.in_ok-put_text-2.ensures
