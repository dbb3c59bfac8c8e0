use Rattle.std.proofs.Common.{◌∙◌, List, ap, subst, sym}
use Rattle.std.specs.Cow.{cow_slice_items}
use Rattle.travel_times.specs.Figures.{AreInOrder, mean_wait}
use Rattle.travel_times.specs.declared.spans.Span.{Span}
use Rattle.matrix_rows.specs.Tables.{spans_of}
use Rattle.matrix_rows.proofs.Answering.{in_order}
use Rattle.matrix_rows.proofs.target.mean_of.Goals as goal

pub mean_wait-requires-clause-ordered : goal.mean_wait-requires-clause-ordered
mean_wait-requires-clause-ordered g c =
    let figures = g.C.ShowsFigures.figures in
    let points = cow_slice_items c.in_ok-points.points in
    let there = c.deref.ensures.value ∙ c.in_ok-put_spans.ensures ∙ ap (spans_of figures) c.as_slice.ensures.value in
    subst AreInOrder (sym there) (in_order figures (g.C.Criterion.rules c.args.criterion.now) points c.in_ok-points.ensures.ordered)

pub returns : goal.returns
returns g c =
    let figures = g.C.ShowsFigures.figures in
    let there = c.deref.ensures.value ∙ c.in_ok-put_spans.ensures ∙ ap (spans_of figures) c.as_slice.ensures.value in
    record {
      waited = cow_slice_items c.in_ok-points.points;
      answer = c.in_ok-points.ensures;
      mean_is = c.mean_wait.ensures ∙ ap (λ (spans : List Span). mean_wait spans c.args.table.now.after c.args.table.now.until) there;
    }
