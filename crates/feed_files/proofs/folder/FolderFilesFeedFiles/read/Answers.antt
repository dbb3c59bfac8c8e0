-- What the disk gave is noted.
use Rattle.std.proofs.Common.{◌≡◌, Err, rules}
use Rattle.feed_files.specs.declared.files.FileFault.TheVariants as faults
use Rattle.feed_files.proofs.FolderReads.{one_failed, one_more}
use Rattle.feed_files.proofs.folder.FolderFilesFeedFiles.read.Goals as goal

pub invariant_of-self : goal.invariant_of-self
invariant_of-self g c =
    let files = c.args.self.now in
    rw c.ask-read.ensures.disk (record {
      shown = files.shown;
      given = one_more (g.H.Disk.gives files.disk.now files.folder.now files.state) files.reads c.note.new.self c.args.name.now c.in-Ok.file
          c.ask-read.result c.in-Ok.is c.ask-read.ensures.gives c.note.ensures files.given;
      unread = files.unread;
    })

pub invariant_of-self-in-Err-Failed : goal.invariant_of-self-in-Err-Failed
invariant_of-self-in-Err-Failed g c =
    let files = c.args.self.now in
    let failed : c.ask-read.result ≡ Err faults.Failed = search rules in
    rw c.ask-read.ensures.disk (record {
      shown = files.shown;
      given = files.given;
      unread = one_failed (g.H.Disk.gives files.disk.now files.folder.now files.state) files.failed c.note-in-Err-Failed.new.self c.args.name.now
          c.ask-read.result failed c.ask-read.ensures.gives c.note-in-Err-Failed.ensures files.unread;
    })

pub invariant_of-self-in-Err-OutOfMemory : goal.invariant_of-self-in-Err-OutOfMemory
invariant_of-self-in-Err-OutOfMemory g c =
    let files = c.args.self.now in
    rw c.ask-read.ensures.disk (record { shown = files.shown; given = files.given; unread = files.unread })
