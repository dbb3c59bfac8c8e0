use Rattle.std.proofs.Common.{◌∙◌, ◌++◌, List, ap, string_bytes, ℕ}
use Rattle.text_pieces.proofs.Joined.{five}
use Rattle.feed_stations.specs.Listing.{cell_text, row_line}
use Rattle.feed_stations.proofs.listing.append_line.Goals as goal

pub returns : goal.returns
unfolding row_line
returns c =
    five (string_bytes c.args.lines.now) (string_bytes c.put_text.new.out) (string_bytes c.put_cell.new.lines) (string_bytes c.put_cell-2.new.lines)
    (string_bytes c.append_stops.new.lines) (string_bytes c.put_text-2.new.out) _ _ _ _ _
    (c.in_ok-put_text.ensures ∙ ap (λ (kind : List ℕ). string_bytes c.args.lines.now ++ kind) c.kind.ensures)
    (c.in_ok-put_cell.ensures ∙ ap (λ (id : List ℕ). string_bytes c.put_text.new.out ++ cell_text id) c.id.ensures)
    (c.in_ok-put_cell-2.ensures ∙ ap (λ (name : List ℕ). string_bytes c.put_cell.new.lines ++ cell_text name) c.name.ensures)
    c.in_ok-append_stops.ensures c.in_ok-put_text-2.ensures
