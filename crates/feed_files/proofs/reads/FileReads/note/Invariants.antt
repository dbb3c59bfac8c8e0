use Rattle.std.proofs.Common.{◌++◌, ◌∷◌, []}
use Rattle.feed_files.specs.Files.{given}
use Rattle.feed_files.proofs.reads.FileReads.note.Given as goal

abbrev pub ghost-at : goal.ghost-at
ghost-at a = a.first.now.value ++ given a.second.now.0.now a.second.now.1.now ∷ []
