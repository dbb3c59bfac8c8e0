use Rattle.version_core.proofs.Keeps.{note_kept}
use Rattle.version_core.proofs.machine.Core.note.Goals as goal

pub invariant_of-self-2 : goal.invariant_of-self-2
invariant_of-self-2 c = rw c.in_ok-push.ensures.items (note_kept _ c.self.invariant)
