use Rattle.std.proofs.Common.{string_bytes}
use Rattle.text_pieces.proofs.Joined.{three}
use Rattle.feed_stations.specs.Json.{stops_json}
use Rattle.feed_stations.proofs.json.append_stops.Goals as goal

pub returns : goal.returns
unfolding stops_json
returns c =
    three (string_bytes c.args.out.now) (string_bytes c.put_text.new.out) (string_bytes c.append_each.new.out) (string_bytes c.put_text-2.new.out) _ _ _
    c.in_ok-put_text.ensures c.in_ok-append_each.ensures c.in_ok-put_text-2.ensures
