use Rattle.feed_files.proofs.ReadLemmas.{have_all, have_first, shown_gave}
use Rattle.feed_files.proofs.reading.read_tables.Goals as goal

pub returns-clause-all_read : goal.returns-clause-all_read
returns-clause-all_read g c = have_all _ _ _ c.tables_of.result c.tables_of.ensures.read.asked

pub returns-clause-first_read : goal.returns-clause-first_read
returns-clause-first_read g c = have_first _ _ _ c.tables_of.result c.tables_of.ensures.read.asked

pub returns-clause-ok : goal.returns-clause-ok
returns-clause-ok g c content shows = c.tables_of.ensures.ok content (shown_gave content c.tables_of.result c.tables_of.ensures.read shows)

pub returns-clause-err : goal.returns-clause-err
returns-clause-err g c content shows = c.tables_of.ensures.err content (shown_gave content c.tables_of.result c.tables_of.ensures.read shows)
