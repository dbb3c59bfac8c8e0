use Rattle.std.proofs.Common.{◌∙◌, ap, false, subst, sym}
use Rattle.std.specs.Cow.{cow_slice_items}
use Rattle.csv.specs.Writing.{default_writer, row_text}
use Rattle.profile_scan.specs.Everywhere.{asked_to_any}
use Rattle.travel_times.specs.Fields.{pair_fields}
use Rattle.travel_times.specs.Rows.{text_of}
use Rattle.image_files.specs.Naming.{printed}
use Rattle.matrix_rows.specs.Tables.{Meet, set_bytes, spans_of}
use Rattle.matrix_rows.proofs.Answering.{on_done, same_pair}
use Rattle.matrix_rows.proofs.Sources.{set_has_rows, set_skipped}
use Rattle.matrix_rows.proofs.target.put_pair_from.Goals as goal

pub returns-then-meet-clause-added : goal.returns-then-meet-clause-added
returns-then-meet-clause-added g c = λ before set same rows.
    let answered = c.args.answered.now in
    let d = asked_to_any answered.profiles.now in
    set_skipped g.C.ShowsFigures.figures (g.C.Criterion.rules answered.criterion.now) false (printed answered.names answered.image.now) d
    set c.args.sources.now before (text_of c.args.rows.now) same
    (subst (Meet c.args.sources.now) c.targets.ensures c.if-meet.ensures) rows

pub least_walk-requires-clause-apart : goal.least_walk-requires-clause-apart
least_walk-requires-clause-apart g c = λ met.
    c.if-meet.ensures (subst (Meet c.args.sources.now) (sym c.targets.ensures) met)

pub returns-clause-added : goal.returns-clause-added
returns-clause-added g c = λ before set same rows.
    let answered = c.args.answered.now in
    let d = asked_to_any answered.profiles.now in
    let names = (printed answered.names answered.image.now).names in
    let figures = g.C.ShowsFigures.figures in
    let sources = c.args.sources.now in
    let points = cow_slice_items c.in_ok-points.points in
    let walk = c.least_walk.result in
    on_done c.put_pair.result
    (λ adds. set_has_rows figures (g.C.Criterion.rules answered.criterion.now) false (printed answered.names answered.image.now) d
    set sources before (text_of c.args.rows.now)
    (row_text default_writer (pair_fields c.args.from.now answered.to.now c.deref.result.now c.args.mean walk))
    (text_of c.put_pair.new.rows) same
    (λ met. c.if-meet.ensures (subst (Meet sources) (sym c.targets.ensures) met))
    rows
    (record {
      points = points;
      mean = c.args.mean;
      walk = walk;
      answer = c.in_ok-points.ensures;
      waited = c.requires.mean;
      direct = c.least_walk.ensures;
      text_is = same_pair c.args.from.now (set_bytes names sources) answered.to.now (set_bytes names d.targets)
          c.deref.result.now (spans_of figures points) c.args.mean walk
          c.requires.from c.requires.to
          (c.deref.ensures.value ∙ c.in_ok-put_spans.ensures ∙ ap (spans_of figures) c.as_slice.ensures.value);
    })
    adds.text_is)
    c.put_pair.ensures
