use Rattle.std.proofs.Common.{string_bytes}
use Rattle.departure_lines.specs.Json.{counts_json}
use Rattle.text_pieces.proofs.Joined.{three}
use Rattle.departure_lines.proofs.stop_json.append_counts.Goals as goal

pub returns : goal.returns
unfolding counts_json
returns c =
    three (string_bytes c.args.lines.now) (string_bytes c.append_number.new.lines)
    (string_bytes c.append_number-2.new.lines) (string_bytes c.put_text.new.out) _ _ _
    c.in_ok-append_number.ensures c.in_ok-append_number-2.ensures c.in_ok-put_text.ensures
