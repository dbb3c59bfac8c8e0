use Rattle.std.proofs.Common.{subst, sym, true}
use Rattle.std.specs.Cow.{cow_slice_items}
use Rattle.std.specs.List.{flat_map}
use Rattle.profile_scan.specs.Everywhere.{asked_to_any}
use Rattle.travel_times.specs.Rows.{text_of}
use Rattle.image_files.specs.Naming.{printed}
use Rattle.matrix_rows.specs.Tables.{Meet, point_row, set_bytes}
use Rattle.matrix_rows.proofs.Answering.{on_done, same_points}
use Rattle.matrix_rows.proofs.Sources.{set_has_rows, set_skipped}
use Rattle.matrix_rows.proofs.target.put_points_from.Goals as goal

pub returns-then-meet-clause-added : goal.returns-then-meet-clause-added
returns-then-meet-clause-added g c = λ before set same rows.
    let answered = c.args.answered.now in
    let d = asked_to_any answered.profiles.now in
    set_skipped g.C.ShowsFigures.figures (g.C.Criterion.rules answered.criterion.now) true (printed answered.names answered.image.now) d
    set c.args.sources.now before (text_of c.args.rows.now) same
    (subst (Meet c.args.sources.now) c.targets.ensures c.if-meet.ensures) rows

pub returns-clause-added : goal.returns-clause-added
returns-clause-added g c = λ before set same rows.
    let answered = c.args.answered.now in
    let d = asked_to_any answered.profiles.now in
    let names = (printed answered.names answered.image.now).names in
    let figures = g.C.ShowsFigures.figures in
    let sources = c.args.sources.now in
    let points = cow_slice_items c.in_ok-points.points in
    on_done c.put_points.result
    (λ adds. set_has_rows figures (g.C.Criterion.rules answered.criterion.now) true (printed answered.names answered.image.now) d
    set sources before (text_of c.args.rows.now) (flat_map (point_row figures c.args.from.now answered.to.now) c.as_slice.result.now)
    (text_of c.put_points.new.rows) same
    (λ met. c.if-meet.ensures (subst (Meet sources) (sym c.targets.ensures) met))
    rows
    (record {
      points = points;
      answer = c.in_ok-points.ensures;
      text_is = same_points figures c.args.from.now (set_bytes names sources) answered.to.now (set_bytes names d.targets)
          c.as_slice.result.now points c.requires.from c.requires.to c.as_slice.ensures.value;
    })
    adds.text_is)
    c.put_points.ensures
