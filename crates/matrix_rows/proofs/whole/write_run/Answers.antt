use Rattle.std.proofs.Common.{ℕ, List, [], ◌++◌, Contains, arith, length, refl, subst, sym}
use Rattle.std.specs.Global.{Vec}
use Rattle.std.proofs.lemmas.List.{take_all}
use Rattle.std.proofs.lemmas.List.Elements.{Contains-get_or}
use Rattle.std.proofs.lemmas.Option.{slice_get_read}
use Rattle.matrix_rows.specs.Tables.{AreRowsBy, AreRowsOf, CanBeMade}
use Rattle.image_files.proofs.Appended.{appended_in_turns, nothing_appended}
use Rattle.matrix_rows.proofs.Runs.{all_begun, on_some, rows_more, target_begun, text_rows}
use Rattle.matrix_rows.proofs.Targets.{no_targets}
use Rattle.matrix_rows.proofs.whole.write_run.Goals as goal

pub loop-index-init : goal.loop-index-init
loop-index-init g c = ([], no_targets c.args.table.now.plain [] refl, nothing_appended _)

pub write_target-requires-clause-can : goal.write_target-requires-clause-can
write_target-requires-clause-can g c =
    let run = c.args.run.now in
    let target = c.index-run-index.result in
    let there : Contains run target =
    subst (λ (t : Vec ℕ). Contains run t) (sym c.index-run-index.is) (Contains-get_or run c.loop-index.index target c.loop-index-test.true) in
    subst (CanBeMade c.args.table.now.plain) (sym c.deref.ensures.value) (c.requires.can target there)

pub write_target-requires-clause-rows : goal.write_target-requires-clause-rows
write_target-requires-clause-rows g c =
    let run = c.args.run.now in
    let target = c.index-run-index.result in
    on_some _ _ c.text_made.result
    (λ text found. text_rows c.args.table.now.plain run c.args.made.now c.loop-index.index target c.deref.result.now text.now c.requires.rows
    (slice_get_read run (length run) c.loop-index.index target refl c.loop-index-test.true c.index-run-index.is) (sym c.deref.ensures.value) found)
    c.text_made.ensures

pub loop-index-preserved : goal.loop-index-preserved
loop-index-preserved g c =
    let table = c.args.table.now.plain in
    let target = c.index-run-index.result in
    let was = c.loop-index.invariant in
    let more = c.in_ok-write_target.ensures.written in (
      was.0 ++ more.0,
      rows_more table c.args.run.now c.loop-index.index target was.0 more.0 c.loop-index-test.true c.index-run-index.is was.1
          (subst (λ (stops : List ℕ). AreRowsBy table.criterion table stops more.0) c.deref.ensures.value more.1),
      appended_in_turns _ _ _ was.0 more.0 was.2 more.2,
    )

pub returns-clause-written : goal.returns-clause-written
returns-clause-written g c =
    let run = c.args.run.now in
    let was = c.loop-index.invariant in (
      was.0,
      subst (λ (sets : List (Vec ℕ)). AreRowsOf c.args.table.now.plain sets was.0)
          (take_all c.loop-index.index run (let over = c.loop-index-test.false in omega (arith, over))) was.1,
      was.2,
    )

pub returns-clause-begun : goal.returns-clause-begun
returns-clause-begun g c =
    let run = c.args.run.now in
    let was = c.loop-index.invariant in
    all_begun c.args.table.now.plain run was.0 _ _
    (subst (λ (sets : List (Vec ℕ)). AreRowsOf c.args.table.now.plain sets was.0)
    (take_all c.loop-index.index run (let over = c.loop-index-test.false in omega (arith, over))) was.1) was.2

pub returns-in_err-write_target-clause-begun : goal.returns-in_err-write_target-clause-begun
returns-in_err-write_target-clause-begun g c =
    let was = c.loop-index.invariant in
    target_begun c.args.table.now.plain c.args.run.now c.loop-index.index c.index-run-index.result c.deref.result.now was.0 _ _ _ c.loop-index-test.true
    c.index-run-index.is c.deref.ensures.value was.1 was.2 c.in_err-write_target.ensures.begun
