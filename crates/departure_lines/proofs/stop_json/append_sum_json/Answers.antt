use Rattle.std.proofs.Common.{◌++◌, ◌∙◌, ap, codes, decimal, string_bytes}
use Rattle.departure_lines.specs.Json.{sum_json}
use Rattle.text_pieces.proofs.Joined.{five}
use Rattle.departure_lines.proofs.stop_json.append_sum_json.Goals as goal

pub returns : goal.returns
unfolding sum_json
returns c =
    five (string_bytes c.args.lines.now) (string_bytes c.append_sum_head.new.lines) (string_bytes c.put_number.new.out)
    (string_bytes c.put_number-2.new.out) (string_bytes c.append_walk.new.lines) (string_bytes c.put_text.new.out) _ _ _ _ _
    c.in_ok-append_sum_head.ensures
    (c.in_ok-put_number.ensures ∙ ap (λ n. string_bytes c.append_sum_head.new.lines ++ (codes "\",\"least\":" ++ decimal n)) c.from.ensures)
    c.in_ok-put_number-2.ensures c.in_ok-append_walk.ensures c.in_ok-put_text.ensures
