use Rattle.std.proofs.Common.{subst}
use Rattle.std.specs.Io.KnownBytes.{Appends}
use Rattle.image_files.proofs.Appended.{begun_by_all}
use Rattle.command_endings.proofs.status.write_text.Goals as goal

pub returns-in-Ok-clause-begun : goal.returns-in-Ok-clause-begun
returns-in-Ok-clause-begun g c =
    begun_by_all _ _ c.args.text.now (subst (Appends _ _) c.as_bytes.ensures.value c.in-Ok.ensures.written)
