use Rattle.std.proofs.Common.{◌++◌, ◌∙◌, ap, sym}
use Rattle.std.specs.List.{flat_map}
use Rattle.std.proofs.lemmas.List.{append-nil, take_all}
use Rattle.csv.specs.Writing.{default_writer, row_text}
use Rattle.criteria.specs.declared.figures.Figures.{Figures}
use Rattle.travel_times.specs.Fields.{point_fields}
use Rattle.travel_times.specs.Rows.{text_of}
use Rattle.matrix_rows.specs.Tables.{point_row}
use Rattle.matrix_rows.proofs.Answering.{rows_more}
use Rattle.matrix_rows.proofs.target.put_points.Goals as goal

pub loop-point-init : goal.loop-point-init
loop-point-init g c = record { whole = c.requires; text = sym (append-nil (text_of c.args.rows.now)) }

pub loop-point-preserved : goal.loop-point-preserved
loop-point-preserved g c =
    let from = c.args.from.now in
    let to = c.args.answered.now.to.now in
    let figures = g.C.ShowsFigures.figures in
    let point = c.point-item.result in
    record {
      whole = c.in_ok-put_point.ensures.whole;
      text = rows_more (point_row figures from to) c.args.points.now c.loop-point.point-index point (text_of c.args.rows.now) (text_of c.loop-point.rows)
          (text_of c.put_point.new.rows) (row_text default_writer (point_fields from to point.departure c.figures_of-figures.result)) c.loop-point-test.true
          c.loop-point.invariant.text c.in_ok-put_point.ensures.text_is
          (ap (λ (f : Figures). row_text default_writer (point_fields from to point.departure f)) c.figures_of-figures.ensures
          ∙ ap (point_row figures from to) c.point-item.is);
    }

pub returns : goal.returns
returns g c =
    let row = point_row g.C.ShowsFigures.figures c.args.from.now c.args.answered.now.to.now in
    record {
      text_is = c.loop-point.invariant.text
          ∙ ap (λ ps. text_of c.args.rows.now ++ flat_map row ps) (take_all c.loop-point.point-index c.args.points.now c.loop-point-test.false);
      whole = c.loop-point.invariant.whole;
    }
