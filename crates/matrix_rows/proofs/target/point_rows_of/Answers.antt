use Rattle.std.proofs.Common.{◌∙◌, ℕ, List, true, Contains, ap, arith, get_or, subst, sym, take}
use Rattle.std.specs.Global.{Vec}
use Rattle.std.proofs.lemmas.List.{take_all, take_more}
use Rattle.std.proofs.lemmas.List.Elements.{Contains-get_or}
use Rattle.profile_scan.specs.Everywhere.{asked_to_any}
use Rattle.travel_times.specs.Rows.{text_of}
use Rattle.image_files.specs.Naming.{printed}
use Rattle.matrix_rows.specs.Tables.{AreRowsTo, set_bytes}
use Rattle.matrix_rows.proofs.Answering.{on_ok}
use Rattle.matrix_rows.proofs.Names.{name_at}
use Rattle.matrix_rows.proofs.Sources.{no_rows}
use Rattle.matrix_rows.proofs.target.point_rows_of.Goals as goal

pub loop-list_index-init : goal.loop-list_index-init
loop-list_index-init g c = record {
  whole = c.new-rows.ensures.whole;
  rows = no_rows g.C.ShowsFigures.figures (g.C.Criterion.rules c.args.criterion.now) true
      (printed c.args.table.now.plain.names c.args.table.now.plain.image.now) (asked_to_any c.args.profiles.now)
      (text_of c.new-rows.result) c.new-rows.ensures.text;
}

pub loop-list_index-preserved : goal.loop-list_index-preserved
loop-list_index-preserved g c =
    let sources = c.args.table.now.plain.sources.now in
    let list_index = c.loop-list_index.list_index in
    let set = c.index-table-list_index-in-loop-list_index.result in
    record {
      whole = c.in_ok-put_points_from.ensures.whole;
      rows = subst (λ (ss : List (Vec ℕ)). AreRowsTo g.C.ShowsFigures.figures (g.C.Criterion.rules c.args.criterion.now) true
          (printed c.args.table.now.plain.names c.args.table.now.plain.image.now)
          (asked_to_any c.args.profiles.now) ss (text_of c.put_points_from.new.rows))
          (sym (take_more sources list_index set c.loop-list_index-test.true))
          (c.in_ok-put_points_from.ensures.added (take list_index sources) (get_or sources list_index set)
          (sym c.deref.ensures.value) c.loop-list_index.invariant.rows);
    }

pub put_points_from-requires-clause-sources : goal.put_points_from-requires-clause-sources
put_points_from-requires-clause-sources g c = λ stop h.
    let sources = c.args.table.now.plain.sources.now in
    let set = c.index-table-list_index-in-loop-list_index.result in
    c.requires.sources (get_or sources c.loop-list_index.list_index set) (Contains-get_or sources c.loop-list_index.list_index set c.loop-list_index-test.true)
    stop
    (subst (λ (xs : List ℕ). Contains xs stop) c.deref.ensures.value h)

pub put_points_from-requires-clause-to : goal.put_points_from-requires-clause-to
put_points_from-requires-clause-to g c =
    c.as_str.ensures.value ∙ c.in_ok-to.ensures ∙ ap (set_bytes (printed c.args.table.now.plain.names c.args.table.now.plain.image.now).names) c.targets.ensures

pub returns : goal.returns
returns g c =
    let sources = c.args.table.now.plain.sources.now in
    let rows = AreRowsTo g.C.ShowsFigures.figures (g.C.Criterion.rules c.args.criterion.now) true
    (printed c.args.table.now.plain.names c.args.table.now.plain.image.now)
    (asked_to_any c.args.profiles.now) in
    on_ok _ (λ text. rows sources text.items) c.into_text.result
    (λ text is. subst (rows sources) (sym is)
    (subst (λ (ss : List (Vec ℕ)). rows ss (text_of c.loop-list_index.rows))
    (take_all c.loop-list_index.list_index sources (let over = c.loop-list_index-test.false in omega (arith, over))) c.loop-list_index.invariant.rows))
    c.into_text.ensures

pub put_points_from-requires-clause-from : goal.put_points_from-requires-clause-from
put_points_from-requires-clause-from g c =
    let table = c.args.table.now in
    let names = (printed table.plain.names table.plain.image.now).names in
    c.as_str-from.ensures.value
    ∙ name_at names table.plain.sources.now table.names.now c.loop-list_index.list_index c.index-table-list_index-in-loop-list_index.result
    c.index-table-list_index.result table.named c.loop-list_index-test.true
    ∙ ap (set_bytes names) (sym c.deref.ensures.value)
