use Rattle.std.proofs.Common.{string_bytes}
use Rattle.departure_lines.specs.Json.{counts_json_line}
use Rattle.text_pieces.proofs.Joined.{four}
use Rattle.departure_lines.proofs.stop_json.append_json_counts.Goals as goal

pub returns : goal.returns
unfolding counts_json_line
returns c =
    four (string_bytes c.args.lines.now) (string_bytes c.put_number.new.out) (string_bytes c.put_number-2.new.out)
    (string_bytes c.put_number-3.new.out) (string_bytes c.put_text.new.out) _ _ _ _
    c.in_ok-put_number.ensures c.in_ok-put_number-2.ensures c.in_ok-put_number-3.ensures c.in_ok-put_text.ensures
