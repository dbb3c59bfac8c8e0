use Rattle.std.proofs.Common.{string_bytes}
use Rattle.departure_lines.specs.Json.{sum_head}
use Rattle.text_pieces.proofs.Joined.{three}
use Rattle.departure_lines.proofs.stop_json.append_sum_head.Goals as goal

pub returns : goal.returns
unfolding sum_head
returns c =
    three (string_bytes c.args.lines.now) (string_bytes c.put_clock.new.out) (string_bytes c.put_quoted.new.out) (string_bytes c.put_clock-2.new.out) _ _ _
    c.in_ok-put_clock.ensures c.in_ok-put_quoted.ensures c.in_ok-put_clock-2.ensures
