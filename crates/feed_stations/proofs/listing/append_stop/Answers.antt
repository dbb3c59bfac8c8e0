use Rattle.std.proofs.Common.{◌∙◌, ◌++◌, List, ap, string_bytes, ℕ}
use Rattle.text_pieces.proofs.Joined.{two}
use Rattle.feed_stations.specs.Listing.{cell_text, stop_text}
use Rattle.feed_stations.proofs.listing.append_stop.Goals as goal

pub returns : goal.returns
unfolding stop_text
returns c =
    two (string_bytes c.args.lines.now) (string_bytes c.put_cell.new.lines) (string_bytes c.put_cell-2.new.lines) _ _
    (c.in_ok-put_cell.ensures ∙ ap (λ (id : List ℕ). string_bytes c.args.lines.now ++ cell_text id) c.id.ensures)
    (c.in_ok-put_cell-2.ensures ∙ ap (λ (code : List ℕ). string_bytes c.put_cell.new.lines ++ cell_text code) c.platform.ensures)
