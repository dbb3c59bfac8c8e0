use Rattle.std.proofs.Common.{ap, sym, subst, set, None}
use Rattle.version_core.specs.declared.event.Event.{Event}
use Rattle.version_core.specs.declared.event.Reply.{Reply}
use Rattle.version_core.specs.State.{State}
use Rattle.epochs.specs.History.{AreShelved}
use Rattle.epochs.proofs.HistoryLemmas.{history_goes_on}
use Rattle.epochs.proofs.TryLemmas.{tries_freed, tries_busy, free_shelved}
use Rattle.epochs.proofs.table.VersionTable.try_closing.Goals as goal

pub invariant_of-self : goal.invariant_of-self
invariant_of-self c =
    let step = c.in-Freed.ensures in (
      history_goes_on c.self.inside.core c.collect-reply.new.self c.self.inside.events c.note.new.self
          c.self.inside.images (Event.Collect c.args.shelf) Reply.Freed c.runs_in_parts.ensures.grow
          c.at_rest.ensures.stays c.self.invariant.0 tt step (ap (λ (x : State). x.editions) step.3) c.note.ensures,
      subst (λ (x : State). AreShelved x.shelves (set c.self.inside.editions c.args.shelf None) c.self.inside.images)
          (sym step.3) (free_shelved c.self.inside.core.shelves c.self.inside.editions c.self.inside.images c.args.shelf
          _ step.1 c.requires.small c.self.invariant.1),
    )

pub invariant_of-self-in-Busy : goal.invariant_of-self-in-Busy
invariant_of-self-in-Busy c =
    let step = c.in-Busy.ensures in (
      history_goes_on c.self.inside.core c.collect-reply.new.self c.self.inside.events c.note.new.self
          c.self.inside.images (Event.Collect c.args.shelf) (Reply.Busy c.in-Busy.count) c.runs_in_parts.ensures.grow
          c.at_rest.ensures.stays c.self.invariant.0 tt step (ap (λ (x : State). x.editions) step.4) c.note.ensures,
      subst (λ (x : State). AreShelved x.shelves c.self.inside.editions c.self.inside.images) (sym step.4) c.self.invariant.1,
    )

pub returns-in-Freed : goal.returns-in-Freed
returns-in-Freed c =
    let step = c.in-Freed.ensures in
    rw (← c.self.view_is) (tries_freed c.self.inside.core c.collect-reply.new.self c.args.shelf step.0
    c.self.inside.events c.note.new.self c.self.inside.images step.1 step.2 step.3 step c.note.ensures)

pub returns-in-Busy : goal.returns-in-Busy
returns-in-Busy c =
    let step = c.in-Busy.ensures in
    rw (← c.self.view_is) (tries_busy c.self.inside.core c.collect-reply.new.self c.args.shelf step.0 c.in-Busy.count
    c.self.inside.events c.note.new.self c.self.inside.images step.1 step.2 step.3 step.4 step c.note.ensures)
