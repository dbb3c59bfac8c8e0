use Rattle.epochs.proofs.LoadLemmas.{held_have_images}
use Rattle.epochs.proofs.table.VersionTable.history.Goals as goal

pub returns-clause-held : goal.returns-clause-held
returns-clause-held c = rw (← c.self.view_is)
    (held_have_images c.self.inside.core c.self.inside.events c.self.inside.images c.current.ensures.kept
    c.self.invariant.0)
