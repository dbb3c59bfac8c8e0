use Rattle.std.proofs.Common.{◌≡◌, ◌∙◌, [], List, ℕ, refl}
use Rattle.std.proofs.lemmas.Result.{IfErr-weaker, IfOk-weaker}
use Rattle.std.proofs.lemmas.Str.{IsUtf8-from_is_utf8}
use Rattle.gtfs_rows.specs.Faults.{first_fault}
use Rattle.gtfs_rows.specs.Source.{left_of}
use Rattle.gtfs_rows.specs.Tables.{IsOpened, fault_of, judge_by}
use Rattle.gtfs_rows.specs.declared.fault.Table.{Table}
use Rattle.gtfs_rows.specs.declared.records.Records.{Records}
use Rattle.gtfs_rows.proofs.CellLemmas.{records_text}
use Rattle.gtfs_rows.proofs.reader.read_table.Goals as goal

pub add_records-requires-clause-text : goal.add_records-requires-clause-text
add_records-requires-clause-text g c =
    let o = c.in-Ok.ensures.ok in
    (rw o.records at (records_text c.args.bytes.now (IsUtf8-from_is_utf8 c.args.bytes.now o.text))).1

-- the first fault of an opened file's records is that of the file
opened_fault : (table : Table) (bytes : List ℕ) (r : Records) → IsOpened table bytes r → fault_of table bytes ≡ first_fault (judge_by table r) [] (left_of r)
opened_fault table bytes r o =
    let there = rw o.indices at o.there in
    rw (o.text, o.records, there, o.indices, o.width) refl

pub returns-in-Ok-clause-ok : goal.returns-in-Ok-clause-ok
returns-in-Ok-clause-ok g c =
    let o = rw c.TABLE.ensures at c.in-Ok.ensures.ok in
    IfOk-weaker c.add_records.result _ _ (λ t found. (
      opened_fault g.T.TableRows.TABLE c.args.bytes.now c.in-Ok.records o ∙ found.0,
      rw o.records (rw o.indices at found.1),
    )) c.add_records.ensures.ok

pub returns-in-Ok-clause-err : goal.returns-in-Ok-clause-err
returns-in-Ok-clause-err g c =
    let o = rw c.TABLE.ensures at c.in-Ok.ensures.ok in
    IfErr-weaker c.add_records.result _ _ (λ fault found. (
      found.0,
      λ other. opened_fault g.T.TableRows.TABLE c.args.bytes.now c.in-Ok.records o ∙ found.1 other,
    )) c.add_records.ensures.err
