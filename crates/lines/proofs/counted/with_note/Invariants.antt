use Rattle.std.proofs.Common.{◌++◌, ◌∷◌, []}
use Rattle.lines.proofs.counted.with_note.Given as goal

abbrev pub ghost-at : goal.ghost-at
ghost-at g a = a.first.now.value ++ a.second.now.value ∷ []
