-- The tables that are counted are those of the folder, and the fault is their first one.
use Rattle.std.proofs.Common.{ap, inl, inr, refl}
use Rattle.std.proofs.lemmas.Result.{err_from_is_err_and}
use Rattle.gtfs_rows.specs.declared.fault.TableFault.{TableFault}
use Rattle.feed_files.specs.Reading.{HoldsTables, NoTables}
use Rattle.feed_commands.proofs.OfFolder.{of_read_weaker}
use Rattle.feed_commands.proofs.tables.count_records.Goals as goal

pub returns-in_err-tables-clause-refused : goal.returns-in_err-tables-clause-refused
returns-in_err-tables-clause-refused g c =
    let refusal = c.in_err-tables.field-0.0 in
    let figures = err_from_is_err_and c.from_residual.result c.from_residual.ensures.1 in
    rw (figures.1, figures.2) (λ unless. of_read_weaker (λ content. NoTables content refusal) _
    (λ content first. inl (record {
      refusal = refusal;
      is = refl;
      first = first;
    })) c.in_err-tables.ensures.refused)

pub returns-in_err-counts-clause-refused : goal.returns-in_err-counts-clause-refused
returns-in_err-counts-clause-refused g c =
    let tables = c.in_ok-tables.tables in
    let figures = err_from_is_err_and c.from_residual-in_err-counts.result c.from_residual-in_err-counts.ensures.1 in
    rw (figures.1, figures.2) (λ unless. of_read_weaker (λ content. HoldsTables content tables) _
    (λ content held. inr (record {
      t = tables;
      held = held;
      refusal = c.in_err-counts.field-0.0;
      is = refl;
      first = c.in_err-counts.ensures.refused (λ memory. unless (ap (λ (fault : TableFault). fault.kind) memory));
    })) c.in_ok-tables.ensures.held)

pub returns-clause-counts : goal.returns-clause-counts
returns-clause-counts g c = (c.in_ok-tables.tables, c.in_ok-tables.ensures.tables, c.in_ok-counts.ensures.counts)
