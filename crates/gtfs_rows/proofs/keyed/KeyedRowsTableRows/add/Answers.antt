use Rattle.std.proofs.Common.{◌≡◌}
use Rattle.std.proofs.lemmas.Result.{on_ok_weaker}
use Rattle.reasoning.proofs.ListLemmas.{all_zip-push}
use Rattle.gtfs_rows.specs.Source.{last_of}
use Rattle.gtfs_rows.specs.Tables.{key_of}
use Rattle.gtfs_rows.proofs.keyed.KeyedRowsTableRows.add.Goals as goal

pub returns-clause-ok : goal.returns-clause-ok
returns-clause-ok g c = λ before held.
    let indices = c.args.records.now.indices.items in
    let r = last_of c.args.records.now in
    let key : c.key.result ≡ key_of g.R.Row.TABLE = rw c.TABLE.ensures at c.key.ensures in
    let kept = (rw key at c.in_ok-keep.ensures.ok) before held.1 in
    on_ok_weaker c.add_row.result (λ items. (
      rw c.in_ok-row.ensures.ok.0 kept.0,
      (rw items (all_zip-push (g.R.Row.spells indices) before c.args.self.now.rows.items r c.in_ok-row.row held.0 c.in_ok-row.ensures.ok.1), kept.1),
    )) c.add_row.ensures.ok
