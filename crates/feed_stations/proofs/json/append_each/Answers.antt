use Rattle.std.proofs.Common.{◌<◌, ℕ, get_or, length, sym, string_bytes, arith}
use Rattle.std.proofs.lemmas.List.{append-nil, get_or_default}
use Rattle.text_pieces.specs.Json.{with_commas}
use Rattle.feed_stations.specs.Json.{stop_json}
use Rattle.text_pieces.proofs.Commas.{commas_all, commas_more}
use Rattle.feed_stations.proofs.json.append_each.Goals as goal

pub loop-row_index-init : goal.loop-row_index-init
unfolding with_commas
loop-row_index-init c = sym (append-nil (string_bytes c.args.out.now))

pub loop-row_index-preserved : goal.loop-row_index-preserved
loop-row_index-preserved c =
    let lt : c.loop-row_index.row_index < length c.args.stops.now = omega arith in
    let stop : ℕ = get_or c.args.stops.now c.loop-row_index.row_index 0 in
    commas_more (stop_json c.args.stop_table.now.rows.items c.args.stop_table.now.labels.items) c.args.stops.now c.loop-row_index.row_index stop
    (string_bytes c.args.out.now) (string_bytes c.loop-row_index.out) (string_bytes c.put_comma.new.out) (string_bytes c.append_stop.new.out)
    lt (get_or_default c.args.stops.now c.loop-row_index.row_index 0 stop lt) c.loop-row_index.invariant c.in_ok-put_comma.ensures c.in_ok-append_stop.ensures

pub returns : goal.returns
returns c =
    commas_all (stop_json c.args.stop_table.now.rows.items c.args.stop_table.now.labels.items) c.args.stops.now c.loop-row_index.row_index
    (string_bytes c.args.out.now)
    (string_bytes c.loop-row_index.out) (omega arith) c.loop-row_index.invariant
