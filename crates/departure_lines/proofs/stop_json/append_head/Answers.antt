use Rattle.std.proofs.Common.{string_bytes}
use Rattle.departure_lines.specs.Json.{json_head}
use Rattle.text_pieces.proofs.Joined.{two}
use Rattle.departure_lines.proofs.stop_json.append_head.Goals as goal

pub returns : goal.returns
unfolding json_head
returns c =
    two (string_bytes c.args.lines.now) (string_bytes c.put_quoted.new.out) (string_bytes c.put_text.new.out) _ _
    c.in_ok-put_quoted.ensures c.in_ok-put_text.ensures
