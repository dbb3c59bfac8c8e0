use Rattle.std.proofs.Common.{◌<◌, length, sym, string_bytes, arith}
use Rattle.std.proofs.lemmas.List.{append-nil}
use Rattle.feed_stations.specs.Choosing.{json_at}
use Rattle.text_pieces.specs.Json.{with_commas}
use Rattle.text_pieces.proofs.Commas.{commas_all, commas_more}
use Rattle.feed_stations.proofs.texts.append_objects.Goals as goal

pub loop-at-init : goal.loop-at-init
unfolding with_commas
loop-at-init c = sym (append-nil (string_bytes c.args.out.now))

pub loop-at-preserved : goal.loop-at-preserved
loop-at-preserved c =
    let lt : c.loop-at.at < length c.args.choice.now.chosen.items = omega arith in
    commas_more (json_at c.args.stop_table.now c.args.choice.now.groups.items) c.args.choice.now.chosen.items c.loop-at.at c.index.result.now
    (string_bytes c.args.out.now) (string_bytes c.loop-at.out) (string_bytes c.put_comma.new.out) (string_bytes c.append_object.new.out)
    lt c.index.ensures c.loop-at.invariant c.in_ok-put_comma.ensures
    c.in_ok-append_object.ensures

pub returns : goal.returns
returns c =
    commas_all (json_at c.args.stop_table.now c.args.choice.now.groups.items) c.args.choice.now.chosen.items c.loop-at.at (string_bytes c.args.out.now)
    (string_bytes c.loop-at.out) (omega arith) c.loop-at.invariant
