use Rattle.std.proofs.Common.{refl}
use Rattle.version_core.specs.declared.event.Event.{Event}
use Rattle.epochs.proofs.HistoryLemmas.{worker_leaves, history_goes_on, still_shelved}
use Rattle.epochs.proofs.table.VersionTable.leave.Goals as goal

pub invariant_of-self : goal.invariant_of-self
invariant_of-self c =
    let drop = worker_leaves c.self.inside.core c.leave-dropped.new.self (Event.Drop c.args.worker) c.args.worker c.leave-dropped.result refl
    c.leave-dropped.ensures in (
      history_goes_on c.self.inside.core c.leave-dropped.new.self c.self.inside.events c.note.new.self
          c.self.inside.images (Event.Drop c.args.worker) c.leave-dropped.result c.laws.ensures.grow
          c.laws.ensures.stays c.self.invariant.0 tt c.leave-dropped.ensures drop.editions c.note.ensures,
      still_shelved c.self.inside.core c.leave-dropped.new.self c.self.inside.editions c.self.inside.images drop c.self.invariant.1,
    )
