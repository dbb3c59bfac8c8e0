use Rattle.std.proofs.Common.{sym, string_bytes, arith}
use Rattle.std.proofs.lemmas.List.{append-nil}
use Rattle.text_pieces.specs.Json.{with_commas}
use Rattle.departure_lines.specs.Json.{point_json}
use Rattle.text_pieces.proofs.Commas.{commas_all, commas_more}
use Rattle.departure_lines.proofs.stop_json.append_points.Goals as goal

pub loop-index-init : goal.loop-index-init
unfolding with_commas
loop-index-init g c = sym (append-nil (string_bytes c.args.lines.now))

pub loop-index-preserved : goal.loop-index-preserved
loop-index-preserved g c =
    commas_more (point_json g.C.ShowsFigures.figures) c.args.points.now c.loop-index.index c.index-points-index.result (string_bytes c.args.lines.now)
    (string_bytes c.loop-index.lines) (string_bytes c.put_comma.new.out) (string_bytes c.append_point.new.lines)
    (omega arith) c.index-points-index.is c.loop-index.invariant c.in_ok-put_comma.ensures c.in_ok-append_point.ensures

pub returns : goal.returns
returns g c =
    commas_all (point_json g.C.ShowsFigures.figures) c.args.points.now c.loop-index.index (string_bytes c.args.lines.now) (string_bytes c.loop-index.lines)
    (omega arith) c.loop-index.invariant
