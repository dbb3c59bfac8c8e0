use Rattle.std.proofs.Common.{◌≡◌, [], drop, take}
use Rattle.gtfs_rows.specs.Source.{AllRecordsText, IsReading, IsSame, left_of}
use Rattle.gtfs_rows.specs.Faults.{first_fault}
use Rattle.gtfs_rows.specs.Tables.{judge_by}
use Rattle.gtfs_rows.proofs.reader.add_records.Given as goal

abbrev pub invariant-loop-taken : goal.invariant-loop-taken
invariant-loop-taken g l = record {
  reading : IsReading l.records;
  text : AllRecordsText (left_of l.records);
  left : drop l.taken (left_of l.initial.records) ≡ left_of l.records;
  same : IsSame l.initial.records l.records;
  fault : first_fault (judge_by g.T.TableRows.TABLE l.initial.records) [] (left_of l.initial.records)
      ≡ first_fault (judge_by g.T.TableRows.TABLE l.initial.records) (take l.taken (left_of l.initial.records)) (left_of l.records);
  held : g.T.TableRows.holds l.initial.records.indices.items (take l.taken (left_of l.initial.records)) l.rows;
  hashes : g.T.TableRows.hashes l.rows ≡ g.T.TableRows.hashes l.initial.rows;
}
