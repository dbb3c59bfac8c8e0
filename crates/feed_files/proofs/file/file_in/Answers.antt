-- The fault of the file at the path is that of the file in the folder.
use Rattle.std.proofs.Common.{◌∙◌, inl, subst}
use Rattle.feed_files.specs.Seen.{IsFaultAt}
use Rattle.feed_files.proofs.file.file_in.Goals as goal

pub returns : goal.returns
returns g c =
    inl (subst (λ path. IsFaultAt (g.D.OpenDisk.seen c.args.disk.now) c.args.limit path c.in-Err.fault) (c.as_str.ensures ∙ c.in-Ok.ensures.path)
    c.in-Err.ensures.err)
