use Rattle.std.proofs.Common.{[], ◌<◌, ◌∷◌, ◌++◌, length, IfOk, refl, ◌∙◌, ap, subst}
use Rattle.fronts.specs.Front.{points_from}
use Rattle.fronts.specs.Lists.{lists_criterion, entries_of, items_of}
use Rattle.fronts.specs.Walking.{TakesBoardings}
use Rattle.fronts.specs.declared.entry.Boarding.{Boarding}
use Rattle.fronts.proofs.Growth.{more_lists}
use Rattle.fronts.proofs.Mapped.{taken_if_ok}
use Rattle.fronts.proofs.front_lists.FrontLists.insert_behind.Goals as goal

pub returns-clause-more : goal.returns-clause-more
returns-clause-more g c = more_lists g.C.Criterion.rules c.args.self.now _ c.insert.ensures.more refl c.insert.ensures.steps

pub returns-clause-taken : goal.returns-clause-taken
returns-clause-taken g c =
    let lists = c.args.self.now in
    let by : Boarding = record { departure = c.args.departure; first = c.args.first; walk = c.args.walk; secs = c.args.secs } in
    let alone = c.deref.ensures.value ∙ c.in_ok-push.ensures.items ∙ ap (λ rs. rs ++ c.args.ride ∷ []) c.clear.ensures.items in
    taken_if_ok g.C.Criterion.rules by (c.args.ride ∷ []) lists _ c.args.head c.insert.result
    (subst (λ rs. IfOk c.insert.result (λ taken. (taken < length c.insert.new.entries.items) × TakesBoardings (g.C.Criterion.rules (lists_criterion lists))
    c.insert.new.steps.items by rs (points_from (entries_of lists) (items_of lists) c.args.head)
    (points_from c.insert.new.entries.items c.insert.new.items.items taken))) alone c.insert.ensures.takes)
