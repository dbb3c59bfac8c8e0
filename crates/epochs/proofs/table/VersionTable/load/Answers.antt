use Rattle.std.proofs.Common.{refl, subst}
use Rattle.version_core.specs.declared.event.Event.{Event}
use Rattle.version_core.specs.Steps.{OpensLeast}
use Rattle.epochs.proofs.LoadLemmas.{load_facts, load_kept, load_publishes}
use Rattle.epochs.proofs.table.VersionTable.load.Goals as goal

pub invariant_of-self-2 : goal.invariant_of-self-2
invariant_of-self-2 c =
    let now = c.current-number.ensures in
    load_kept c.self.inside.core c.close-closing.new.self c.current-number.result.0 c.in-Ok-Opened.version
    c.in-Ok-Opened.shelf c.publish-published.result c.close-closing.result c.self.inside.events c.note-3.new.self
    c.self.inside.editions c.self.inside.images c.note-4.new.self
    (record { version = c.in-Ok-Opened.version; image = c.args.image }) (record {
      grow =
          c.runs_in_parts.ensures.grow_by_run;
      loads =
          c.at_rest.ensures.loads;
    }) now.kept c.self.invariant.0 c.self.invariant.1
    (load_facts _ c.open.new.self c.publish-published.new.self _ _ _ _ _ _ _ _ _ _ _ _ _ _ _ _ now.shelf
    c.in-Ok-Opened.field-0-is c.deref.ensures c.in-Ok-Opened.ensures.step c.publish-published.ensures
    c.close-closing.ensures
    c.note.ensures c.note-2.ensures c.note-3.ensures c.note-4.ensures) now.version refl

pub returns-clause-published : goal.returns-clause-published
returns-clause-published c =
    let now = c.current-number.ensures in
    let least = subst (λ r. OpensLeast c.self.inside.core (Event.Open c.current-number.result.0) r) c.in-Ok-Opened.field-0-is c.in-Ok-Opened.ensures.least in
    rw (← c.self.view_is)
    (load_publishes c.self.inside.core c.close-closing.new.self c.current-number.result.0 c.in-Ok-Opened.version
    c.in-Ok-Opened.shelf c.publish-published.result c.close-closing.result c.self.inside.events c.note-3.new.self
    c.self.inside.images c.note-4.new.self _
    c.at_rest.ensures.loads now.kept c.self.invariant.0
    (load_facts _ c.open.new.self c.publish-published.new.self _ _ _ _ _ _ _ _ _ _ _ _ _ _ _ _ now.shelf
    c.in-Ok-Opened.field-0-is c.deref.ensures c.in-Ok-Opened.ensures.step c.publish-published.ensures
    c.close-closing.ensures
    c.note.ensures c.note-2.ensures c.note-3.ensures c.note-4.ensures) least now.version)
