use Rattle.std.proofs.Common.{string_bytes}
use Rattle.text_pieces.proofs.Joined.{two}
use Rattle.feed_stations.specs.Listing.{cell_text}
use Rattle.feed_stations.proofs.listing.put_cell.Goals as goal

pub returns : goal.returns
unfolding cell_text
returns c =
    two (string_bytes c.args.lines.now) (string_bytes c.put_text.new.out) (string_bytes c.put_flat.new.lines) _ _ c.in_ok-put_text.ensures
    c.in_ok-put_flat.ensures
