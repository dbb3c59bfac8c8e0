use Rattle.std.proofs.Common.{◌≡◌, ◌∷◌, ◌∙◌, [], ◌+◌, ap, arith, sym}
use Rattle.csv.specs.Records.{fields_of}
use Rattle.gtfs_rows.specs.Source.{last_of, left_of, table_records}
use Rattle.gtfs_rows.proofs.FaultLemmas.{closed, opened}
use Rattle.gtfs_rows.proofs.records.find_record.Goals as goal

pub loop-taken-preserved : goal.loop-taken-preserved
loop-taken-preserved c =
    let next : left_of c.loop-taken.records ≡ last_of c.advance-in-loop-taken.new.self ∷ left_of c.advance-in-loop-taken.new.self =
    rw c.if-not-branch-2.false at (c.in_ok-advance-2.ensures.reads c.loop-taken.invariant.reading) in
    let (less, head, after, more) = opened [] (c.loop-taken.taken + 1) (table_records c.args.bytes.now)
    (left_of c.advance-in-loop-taken.new.self) (last_of c.advance-in-loop-taken.new.self) (c.loop-taken.invariant.left ∙ next) in
    let counted : c.advance-in-loop-taken.new.self.count ≡ c.loop-taken.records.count + 1 = rw c.if-not-branch-2.false at c.in_ok-advance-2.ensures.count in
    record {
      reading = c.in_ok-advance-2.ensures.reading c.loop-taken.invariant.reading;
      within = less;
      last = head;
      left = after;
      count = omega (arith, counted, c.loop-taken.invariant.count);
      lines = c.in_ok-advance-2.ensures.same.lines ∙ c.loop-taken.invariant.lines;
    }

pub returns-then-not-branch-2 : goal.returns-then-not-branch-2
returns-then-not-branch-2 c =
    let none : left_of c.loop-taken.records ≡ [] = rw c.if-not-branch-2.true at (c.in_ok-advance-2.ensures.reads c.loop-taken.invariant.reading) in
    let (short, whole) = closed (c.loop-taken.taken + 1) (table_records c.args.bytes.now) (c.loop-taken.invariant.left ∙ none) in
    omega arith

pub returns : goal.returns
returns c =
    let all : c.loop-taken.taken ≡ c.args.number = omega arith in
    let whole : table_records c.args.bytes.now ≡ last_of c.advance.new.self ∷ left_of c.advance.new.self =
    sym c.open-records.ensures.left ∙ (rw c.if-not-branch.false at (c.in_ok-advance.ensures.reads c.open-records.ensures.reading)) in
    record {
      within = rw all at c.loop-taken.invariant.within;
      header = rw whole (ap fields_of c.in_ok-header.ensures.cases ∙ c.last.ensures);
      fields = ap fields_of c.in_ok-record.ensures.cases ∙ c.last-2.ensures ∙ sym (rw all at c.loop-taken.invariant.last);
      number_is = omega (arith, c.position.ensures.number, c.loop-taken.invariant.count);
      line = rw c.loop-taken.invariant.lines at c.position.ensures.line;
    }
