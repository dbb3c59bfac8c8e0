-- The first bytes of what is left of a file.
use Rattle.std.proofs.Common.{◌∙◌, ap, take}
use Rattle.std.specs.Prelude.{option_map}
use Rattle.feed_files.proofs.FolderLemmas.{first_read}
use Rattle.feed_files.proofs.disk.first_bytes.Goals as goal

pub returns-clause-ok : goal.returns-clause-ok
returns-clause-ok g c =
    let cut = ap (λ n. option_map (take n) (g.F.Read.remaining c.take.result.inner)) c.take.ensures.limit
    ∙ ap (λ file. option_map (take c.args.most) (g.F.Read.remaining file)) c.take.ensures.inner in
    first_read c.args.most (g.F.Read.remaining c.args.file) _ _ _ cut c.in_ok-bytes.ensures.items c.in_ok-read_to_end.ensures.bytes
