use Rattle.std.proofs.Common.{string_bytes}
use Rattle.departure_lines.specs.Json.{times_json}
use Rattle.text_pieces.proofs.Joined.{three}
use Rattle.departure_lines.proofs.stop_json.append_times.Goals as goal

pub returns : goal.returns
unfolding times_json
returns c =
    three (string_bytes c.args.lines.now) (string_bytes c.put_clock.new.out) (string_bytes c.put_clock-2.new.out) (string_bytes c.put_text.new.out) _ _ _
    c.in_ok-put_clock.ensures c.in_ok-put_clock-2.ensures c.in_ok-put_text.ensures
