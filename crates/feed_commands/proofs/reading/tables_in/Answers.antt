-- What was read is what the folder's files may give.
use Rattle.std.proofs.Common.{inr}
use Rattle.feed_commands.proofs.OfFolder.{held_known, refused_known, tables_known}
use Rattle.feed_commands.proofs.reading.tables_in.Goals as goal

pub returns-clause-tables : goal.returns-clause-tables
returns-clause-tables g c =
    let began = c.new-files.result in
    let then = c.read_tables.new.files in
    let read = c.read_tables.ensures in
    tables_known g.H.Disk.gives then.disk.now then.state c.args.folder.now began.folder.now then.folder.now began.reads then.reads
    c.read_tables.result c.new-files.ensures.folder read.all_read then.given (λ content ts is. read.ok content (inr (ts, is)))

pub returns-clause-held : goal.returns-clause-held
returns-clause-held g c =
    let began = c.new-files.result in
    let then = c.read_tables.new.files in
    let read = c.read_tables.ensures in
    let new = c.new-files.ensures in
    held_known g.H.Disk.gives then.disk.now then.state c.args.folder.now began.folder.now then.folder.now began.reads then.reads
    c.read_tables.result began.failed then.failed new.folder new.reads new.failed read.first_read then.given then.unread read.read.failed
    (λ content ts is. read.ok content (inr (ts, is)))

pub returns-clause-refused : goal.returns-clause-refused
returns-clause-refused g c =
    let began = c.new-files.result in
    let then = c.read_tables.new.files in
    let read = c.read_tables.ensures in
    let new = c.new-files.ensures in
    refused_known g.H.Disk.gives then.disk.now then.state c.args.folder.now began.folder.now then.folder.now began.reads then.reads
    c.read_tables.result began.failed then.failed new.folder new.reads new.failed read.first_read then.given then.unread read.read.failed
    (λ content ts is. read.err content (inr (ts, is)))
