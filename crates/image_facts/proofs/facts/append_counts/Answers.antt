use Rattle.std.proofs.Common.{◌∙◌, ◌++◌, ap, codes, string_bytes}
use Rattle.image_facts.specs.Facts.{counts_text, number_line}
use Rattle.text_pieces.proofs.Joined.{five}
use Rattle.image_facts.proofs.facts.append_counts.Goals as goal

pub returns : goal.returns
unfolding counts_text
returns c =
    five (string_bytes c.args.lines.now) (string_bytes c.put_line.new.lines) (string_bytes c.put_line-2.new.lines) (string_bytes c.put_line-3.new.lines)
    (string_bytes c.put_line-4.new.lines) (string_bytes c.put_line-5.new.lines) _ _ _ _ _
    (c.in_ok-put_line.ensures ∙ ap (λ n. string_bytes c.args.lines.now ++ number_line (codes "stops ") n) c.stops.ensures.stops)
    (c.in_ok-put_line-2.ensures ∙ ap (λ n. string_bytes c.put_line.new.lines ++ number_line (codes "trips ") n) c.trips.ensures)
    (c.in_ok-put_line-3.ensures ∙ ap (λ n. string_bytes c.put_line-2.new.lines ++ number_line (codes "connections ") n) c.len.ensures)
    (c.in_ok-put_line-4.ensures ∙ ap (λ n. string_bytes c.put_line-3.new.lines ++ number_line (codes "footpaths ") n) c.footpath_count.ensures)
    (c.in_ok-put_line-5.ensures ∙ ap (λ n. string_bytes c.put_line-4.new.lines ++ number_line (codes "name-bytes ") n) c.header_of.ensures.names)
