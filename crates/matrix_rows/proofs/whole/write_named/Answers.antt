use Rattle.std.proofs.Common.{◌≡◌, ◌∙◌, ℕ, List, [], ◌++◌, arith, length, refl, sym, subst, ap, rules, append_assoc}
use Rattle.std.proofs.lemmas.List.{append-nil, nil_from_length}
use Rattle.std.proofs.lemmas.Option.{slice_get_within}
use Rattle.std.specs.Global.{Vec}
use Rattle.std.specs.Io.KnownBytes.{Appends}
use Rattle.std.specs.Slice.Iter.{chunks_rest}
use Rattle.csv.specs.Writing.{default_writer, row_text}
use Rattle.matrix_rows.specs.Tables.{AreRowsOf, IsTableBegun, names_of}
use Rattle.image_files.proofs.Appended.{appended_and_kept, appended_in_turns, begun_by_all, begun_by_nothing}
use Rattle.image_files.specs.Watching.{IsBegun}
use Rattle.image_files.proofs.Faults.{flush_failed, if_failed}
use Rattle.matrix_rows.proofs.Joins.{at_error, at_value, in_middle, run_begun}
use Rattle.matrix_rows.proofs.Targets.{no_targets, targets_joined}
use Rattle.matrix_rows.proofs.whole.write_named.Goals as goal

pub loop-next-init : goal.loop-next-init
loop-next-init g c =
    let names = row_text default_writer (names_of c.args.table.now.plain.each) in
    let is : c.deref.result.now ≡ names ++ [] = c.deref.ensures.value ∙ c.in_ok-names.ensures ∙ sym (append-nil names) in (
      search rules,
      tt,
      λ k part there. absurd (omega (arith, slice_get_within c.new-made.result.items k part there, ap length c.new-made.ensures.items)),
      ([], [], no_targets c.args.table.now.plain [] refl, subst (Appends _ _) is c.in_ok-write_all.ensures.written, search rules),
    )

pub write_beside-requires-clause-can : goal.write_beside-requires-clause-can
write_beside-requires-clause-can g c κs within = λ target h.
    let written = c.loop-next.invariant.3 in
    c.requires.can target (in_middle written.0 c.loop-next.run.now _ c.args.table.now.plain.targets.now written.4 target h)

pub write_beside-requires-clause-able : goal.write_beside-requires-clause-able
write_beside-requires-clause-able g c κs within = λ target h.
    let written = c.loop-next.invariant.3 in
    let run = c.loop-next.run.now in
    c.requires.can target (in_middle (written.0 ++ run) c.in-Some.next.now _ c.args.table.now.plain.targets.now
    (append_assoc written.0 run _ ∙ ap (λ (t : List (Vec ℕ)). written.0 ++ (run ++ t)) (sym c.in-Some.ensures.steps.1.0) ∙ written.4) target h)

pub loop-next-preserved : goal.loop-next-preserved
loop-next-preserved g c =
    let written = c.loop-next.invariant.3 in
    let done = written.0 in
    let rows = written.1 in
    let run = c.loop-next.run.now in
    let more = c.in_ok-made.ensures.written in
    let names = row_text default_writer (names_of c.args.table.now.plain.each) in (
      search rules,
      tt,
      c.in_ok-made.ensures.made,
      (
        done ++ run,
        rows ++ more.0,
        targets_joined c.args.table.now.plain done run rows more.0 written.2 more.1,
        subst (Appends _ _) (append_assoc names rows more.0) (appended_in_turns _ _ _ (names ++ rows) more.0 written.3 more.2),
        append_assoc done run _ ∙ ap (λ (t : List (Vec ℕ)). done ++ (run ++ t)) (sym c.in-Some.ensures.steps.1.0) ∙ written.4,
      ),
    )

pub write_run-requires-clause-can : goal.write_run-requires-clause-can
write_run-requires-clause-can g c = λ target h.
    let written = c.loop-next.invariant.3 in
    c.requires.can target (in_middle written.0 c.loop-next.run.now _ c.args.table.now.plain.targets.now written.4 target h)

pub returns-clause-written : goal.returns-clause-written
returns-clause-written g c =
    let written = c.loop-next.invariant.3 in
    let done = written.0 in
    let run = c.loop-next.run.now in
    let more = c.in_ok-write_run.ensures.written in
    let names = row_text default_writer (names_of c.args.table.now.plain.each) in
    let none = nil_from_length (chunks_rest c.loop-next.next-iterator) c.in-None.ensures.steps.1.0 in
    let all : done ++ run ≡ c.args.table.now.plain.targets.now =
    ap (λ (t : List (Vec ℕ)). done ++ t) (sym (append-nil run) ∙ ap (λ (t : List (Vec ℕ)). run ++ t) (sym none)) ∙ written.4 in
    at_value c.finish.result (
      names ++ (written.1 ++ more.0),
      record {
        rows = written.1 ++ more.0;
        are = subst (λ (ts : List (Vec ℕ)). AreRowsOf c.args.table.now.plain ts (written.1 ++ more.0)) all
            (targets_joined c.args.table.now.plain done run written.1 more.0 written.2 more.1);
        text_is = refl;
      },
      appended_and_kept _ _ _ (names ++ (written.1 ++ more.0))
          (subst (Appends _ _) (append_assoc names written.1 more.0) (appended_in_turns _ _ _ (names ++ written.1) more.0 written.3 more.2))
          c.finish.ensures.bytes,
    )

pub returns-clause-begun : goal.returns-clause-begun
returns-clause-begun g c =
    let written = c.loop-next.invariant.3 in
    let done = written.0 in
    let run = c.loop-next.run.now in
    let more = c.in_ok-write_run.ensures.written in
    let names = row_text default_writer (names_of c.args.table.now.plain.each) in
    at_error c.finish.result (record {
      first = done ++ run;
      others = chunks_rest c.loop-next.next-iterator;
      rows = written.1 ++ more.0;
      targets = append_assoc done run _ ∙ written.4;
      are = targets_joined c.args.table.now.plain done run written.1 more.0 written.2 more.1;
      begun = begun_by_all _ _ _
          (appended_and_kept _ _ _ (names ++ (written.1 ++ more.0))
          (subst (Appends _ _) (append_assoc names written.1 more.0) (appended_in_turns _ _ _ (names ++ written.1) more.0 written.3 more.2))
          c.finish.ensures.bytes);
    })

pub returns-in_err-names-clause-begun : goal.returns-in_err-names-clause-begun
returns-in_err-names-clause-begun g c =
    let out = g.W.Write.contents c.args.out.now in
    at_error {P = IsTableBegun c.args.table.now.plain out out} c.from_residual.result (record {
      first = [];
      others = c.args.table.now.plain.targets.now;
      rows = [];
      targets = refl;
      are = no_targets c.args.table.now.plain [] refl;
      begun = begun_by_nothing _ _;
    })

pub returns-in_err-write_all-clause-begun : goal.returns-in_err-write_all-clause-begun
returns-in_err-write_all-clause-begun g c =
    at_error {P = IsTableBegun c.args.table.now.plain (g.W.Write.contents c.args.out.now) (g.W.Write.contents c.write_all.new.writer)}
    c.from_residual-in_err-write_all.result (record {
      first = [];
      others = c.args.table.now.plain.targets.now;
      rows = [];
      targets = refl;
      are = no_targets c.args.table.now.plain [] refl;
      begun = subst (IsBegun _ _)
          (c.deref.ensures.value ∙ c.in_ok-names.ensures ∙ sym (append-nil (row_text default_writer (names_of c.args.table.now.plain.each))))
          c.in_err-write_all.ensures.begun;
    })

pub returns-in_err-made-clause-begun : goal.returns-in_err-made-clause-begun
returns-in_err-made-clause-begun g c =
    let written = c.loop-next.invariant.3 in
    at_error _ (run_begun c.args.table.now.plain written.0 c.loop-next.run.now _ written.1 _ _ _ written.4 written.2 written.3
    c.in_err-made.ensures.begun)

pub returns-in_err-write_run-clause-begun : goal.returns-in_err-write_run-clause-begun
returns-in_err-write_run-clause-begun g c =
    let written = c.loop-next.invariant.3 in
    at_error _ (run_begun c.args.table.now.plain written.0 c.loop-next.run.now _ written.1 _ _ _ written.4 written.2 written.3
    c.in_err-write_run.ensures.begun)

pub returns-clause-failed : goal.returns-clause-failed
returns-clause-failed g c = if_failed _ _ c.finish.result (flush_failed _ _ c.finish.result c.finish.ensures.fault)
