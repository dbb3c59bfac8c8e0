use Rattle.std.proofs.Common.{◌<◌, ℕ, get_or, length, sym, string_bytes, arith}
use Rattle.std.proofs.lemmas.List.{append-nil, get_or_default}
use Rattle.text_pieces.specs.Json.{with_commas}
use Rattle.text_pieces.proofs.Commas.{commas_all, commas_more}
use Rattle.image_commands.specs.StopLines.{stop_json}
use Rattle.image_commands.proofs.stops.append_objects.Goals as goal

pub loop-at-init : goal.loop-at-init
unfolding with_commas
loop-at-init c = sym (append-nil (string_bytes c.args.json.now))

pub loop-at-preserved : goal.loop-at-preserved
loop-at-preserved c =
    let lt : c.loop-at.at < length c.args.found.now = omega arith in
    let stop : ℕ = get_or c.args.found.now c.loop-at.at 0 in
    commas_more (stop_json c.args.image.now.names) c.args.found.now c.loop-at.at stop
    (string_bytes c.args.json.now) (string_bytes c.loop-at.json) (string_bytes c.put_comma.new.out) (string_bytes c.append_object.new.json)
    lt (get_or_default c.args.found.now c.loop-at.at 0 stop lt) c.loop-at.invariant c.in_ok-put_comma.ensures c.in_ok-append_object.ensures

pub returns : goal.returns
returns c =
    commas_all (stop_json c.args.image.now.names) c.args.found.now c.loop-at.at (string_bytes c.args.json.now)
    (string_bytes c.loop-at.json) (omega arith) c.loop-at.invariant
