use Rattle.std.proofs.Common.{◌≡◌, ◌∷◌, ◌∙◌, [], take}
use Rattle.gtfs_rows.specs.Source.{last_of, left_of}
use Rattle.gtfs_rows.specs.Tables.{judge_by}
use Rattle.gtfs_rows.proofs.FaultLemmas.{closed, judged, opened}
use Rattle.gtfs_rows.proofs.reader.add_records.Goals as goal

pub returns-in-Ok-false-clause-ok : goal.returns-in-Ok-false-clause-ok
returns-in-Ok-false-clause-ok g c =
    let none : left_of c.loop-taken.records ≡ [] = rw c.in-Ok-false.field-0-test at (c.in-Ok-false.ensures.reads c.loop-taken.invariant.reading) in
    let (short, whole) = closed c.loop-taken.taken (left_of c.args.records.now) (c.loop-taken.invariant.left ∙ none) in
    (rw none at c.loop-taken.invariant.fault, rw whole at c.loop-taken.invariant.held)

pub returns-in-Err-add_record-clause-err : goal.returns-in-Err-add_record-clause-err
returns-in-Err-add_record-clause-err g c =
    let next : left_of c.loop-taken.records ≡ last_of c.advance.new.self ∷ left_of c.advance.new.self =
    rw c.in-Ok-true.field-0-test at (c.in-Ok-true.ensures.reads c.loop-taken.invariant.reading) in
    let indices : c.advance.new.self.indices.items ≡ c.args.records.now.indices.items =
    c.in-Ok-true.ensures.same.indices ∙ c.loop-taken.invariant.same.indices in
    let width : c.advance.new.self.width ≡ c.args.records.now.width = c.in-Ok-true.ensures.same.width ∙ c.loop-taken.invariant.same.width in
    let fault = c.fault-in-Err-add_record.ensures in
    let found = judged (judge_by g.T.TableRows.TABLE c.args.records.now) (left_of c.args.records.now) (left_of c.advance.new.self) c.loop-taken.taken
    (last_of c.advance.new.self) (c.loop-taken.invariant.left ∙ next) (rw next at c.loop-taken.invariant.fault) in (
      rw c.TABLE-in-Err-add_record.ensures at fault.file,
      λ other. rw (fault.row, fault.kind) (found.1 c.in-Err-add_record.kind ((rw (indices, width) at c.in-Err-add_record.ensures.err)
          (take c.loop-taken.taken (left_of c.args.records.now)) c.loop-taken.invariant.held (rw fault.kind at other))),
    )

pub loop-taken-preserved : goal.loop-taken-preserved
loop-taken-preserved g c =
    let next : left_of c.loop-taken.records ≡ last_of c.advance.new.self ∷ left_of c.advance.new.self =
    rw c.in-Ok-true.field-0-test at (c.in-Ok-true.ensures.reads c.loop-taken.invariant.reading) in
    let indices : c.advance.new.self.indices.items ≡ c.args.records.now.indices.items =
    c.in-Ok-true.ensures.same.indices ∙ c.loop-taken.invariant.same.indices in
    let width : c.advance.new.self.width ≡ c.args.records.now.width = c.in-Ok-true.ensures.same.width ∙ c.loop-taken.invariant.same.width in
    let here = c.loop-taken.invariant.left ∙ next in
    let (less, head, after, more) = opened [] c.loop-taken.taken (left_of c.args.records.now)
    (left_of c.advance.new.self) (last_of c.advance.new.self) here in
    let good = (rw (indices, width) at c.in_default.ensures.ok) (take c.loop-taken.taken (left_of c.args.records.now)) c.loop-taken.invariant.held in
    let found = judged (judge_by g.T.TableRows.TABLE c.args.records.now) (left_of c.args.records.now) (left_of c.advance.new.self) c.loop-taken.taken
    (last_of c.advance.new.self) here (rw next at c.loop-taken.invariant.fault) in
    record {
      reading = c.in-Ok-true.ensures.reading c.loop-taken.invariant.reading;
      text = (rw next at c.loop-taken.invariant.text).1;
      left = after;
      same = record { indices = indices; width = width; lines = c.in-Ok-true.ensures.same.lines ∙ c.loop-taken.invariant.same.lines };
      fault = found.0 good.0;
      held = rw more good.1;
      hashes = c.in_default.ensures.hashes ∙ c.loop-taken.invariant.hashes;
    }
