-- The feed is that of the folder, and the fault is its first one.
use Rattle.std.proofs.Common.{ap, inl, inr, refl}
use Rattle.std.proofs.lemmas.Result.{err_from_is_err_and}
use Rattle.gtfs_rows.specs.declared.fault.TableFault.{TableFault}
use Rattle.feed_files.specs.Reading.{HoldsTables, NoTables}
use Rattle.feed_commands.proofs.OfFolder.{of_read_weaker}
use Rattle.feed_commands.proofs.days.read_feed.Goals as goal

pub returns-in_err-tables-clause-refused : goal.returns-in_err-tables-clause-refused
returns-in_err-tables-clause-refused g c =
    let refusal = c.in_err-tables.field-0.0 in
    let figures = err_from_is_err_and c.from_residual.result c.from_residual.ensures.1 in
    rw (figures.1, figures.2) (λ unless. of_read_weaker (λ content. NoTables content refusal) _
    (λ content first. inl (record {
      refusal = refusal;
      is = refl;
      first = first;
    })) c.in_err-tables.ensures.refused)

pub returns-in_err-feed-clause-refused : goal.returns-in_err-feed-clause-refused
returns-in_err-feed-clause-refused g c =
    let tables = c.in_ok-tables.tables in
    let figures = err_from_is_err_and c.from_residual-in_err-feed.result c.from_residual-in_err-feed.ensures.1 in
    rw (figures.1, figures.2) (λ unless. of_read_weaker (λ content. HoldsTables content tables) _
    (λ content held. inr (record {
      t = tables;
      held = held;
      refusal = c.in_err-feed.field-0.0;
      is = refl;
      first = c.in_err-feed.ensures.err (λ memory. unless (ap (λ (fault : TableFault). fault.kind) memory));
    })) c.in_ok-tables.ensures.held)

pub returns-clause-feed : goal.returns-clause-feed
returns-clause-feed g c = (c.in_ok-tables.tables, c.in_ok-tables.ensures.tables, c.in_ok-feed.ensures.ok)
