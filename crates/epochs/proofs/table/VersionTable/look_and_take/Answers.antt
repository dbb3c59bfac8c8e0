use Rattle.std.proofs.Common.{◌∙◌, refl, ap, List, [], ◌∷◌, ◌++◌, append_assoc}
use Rattle.version_core.specs.declared.event.Event.{Event}
use Rattle.epochs.proofs.HistoryLemmas.{worker_leaves, history_goes_on, still_shelved, looks_and_takes}
use Rattle.epochs.proofs.table.VersionTable.look_and_take.Goals as goal

pub invariant_of-self : goal.invariant_of-self
invariant_of-self c =
    let w = c.args.worker in let laws = c.laws.ensures in
    let look = worker_leaves c.self.inside.core c.look-looked.new.self (Event.Look w) w c.look-looked.result refl c.look-looked.ensures in
    let take = worker_leaves c.look-looked.new.self c.take-held.new.self (Event.Take w) w c.take-held.result refl c.take-held.ensures in
    let first = history_goes_on c.self.inside.core c.look-looked.new.self c.self.inside.events c.note.new.self
    c.self.inside.images (Event.Look c.args.worker) c.look-looked.result laws.grow laws.stays c.self.invariant.0
    tt c.look-looked.ensures look.editions c.note.ensures in (
      history_goes_on c.look-looked.new.self c.take-held.new.self c.note.new.self c.note-2.new.self c.self.inside.images
          (Event.Take c.args.worker) c.take-held.result laws.grow laws.stays first tt c.take-held.ensures take.editions
          c.note-2.ensures,
      still_shelved c.look-looked.new.self c.take-held.new.self c.self.inside.editions c.self.inside.images take
          (still_shelved c.self.inside.core c.look-looked.new.self c.self.inside.editions c.self.inside.images look
          c.self.invariant.1),
    )

pub returns : goal.returns
returns c =
    let idle = rw (← c.self.view_is) at c.requires in let kept = rw (← c.self.view_is) at c.laws.ensures.kept in
    rw (← c.self.view_is)
    (looks_and_takes c.self.inside.core c.look-looked.new.self c.take-held.new.self c.args.worker c.look-looked.result
    c.take-held.result c.self.inside.events c.note-2.new.self c.self.inside.images c.laws.ensures.takes kept idle
    c.look-looked.ensures c.take-held.ensures
    (c.note-2.ensures ∙ (ap (λ (l : List Event). l ++ Event.Take c.args.worker ∷ []) c.note.ensures
    ∙ append_assoc c.self.inside.events (Event.Look c.args.worker ∷ []) (Event.Take c.args.worker ∷ []))))
