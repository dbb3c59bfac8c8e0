use Rattle.std.proofs.Common.{string_bytes}
use Rattle.feed_days.proofs.listing.days_json.Goals as goal

pub returns : goal.returns
returns c = (string_bytes c.in_ok-json.json, c.in_ok-json.ensures, c.in_ok-put_text.ensures)
