use Rattle.feed_files.proofs.FolderReads.{may_hold, same_folder}
use Rattle.feed_files.proofs.laws.reads_are_of_one_folder.Goals as goal

pub returns-clause-folder : goal.returns-clause-folder
returns-clause-folder g c content ts read =
    let before = c.args.before.now in
    let then = c.args.then.now in
    same_folder content ts before.folder.now then.folder.now before.reads then.reads read

pub returns-clause-read : goal.returns-clause-read
returns-clause-read g c content ts read =
    let before = c.args.before.now in
    let then = c.args.then.now in
    may_hold (λ folder. g.H.Disk.gives then.disk.now folder then.state) content ts before.folder.now then.folder.now before.reads then.reads read then.given
