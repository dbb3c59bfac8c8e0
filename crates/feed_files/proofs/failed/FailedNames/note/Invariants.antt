use Rattle.std.proofs.Common.{◌++◌, ◌∷◌, []}
use Rattle.feed_files.proofs.failed.FailedNames.note.Given as goal

abbrev pub ghost-at : goal.ghost-at
ghost-at a = a.first.now.value ++ a.second.now.now ∷ []
