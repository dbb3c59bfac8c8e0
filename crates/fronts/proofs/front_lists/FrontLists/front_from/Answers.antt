use Rattle.std.proofs.Common.{subst}
use Rattle.fronts.specs.Putting.{IsLate}
use Rattle.fronts.specs.Lists.{lists_criterion, entries_of, items_of}
use Rattle.fronts.proofs.Mapped.{points_made_of, points_bettered}
use Rattle.fronts.proofs.front_lists.FrontLists.front_from.Goals as goal

pub returns : goal.returns
returns g c =
    let lists = c.args.self.now in
    let rules = g.C.Criterion.rules (lists_criterion lists) in
    let laws = g.met.C.Criterion.laws (lists_criterion lists) in
    let late = subst (λ es. IsLate es (items_of lists) c.args.head c.args.time c.late.result) c.deref.ensures.value
    (subst (λ ps. IsLate c.deref.result.now ps c.args.head c.args.time c.late.result) c.deref-2.ensures.value
    c.late.ensures) in
    record {
      within = late.within;
      made_of = points_made_of rules laws (entries_of lists) (items_of lists) c.requires.sound c.args.head c.args.time c.late.result late;
      betters = points_bettered rules laws (entries_of lists) (items_of lists) c.requires.sound c.args.head c.args.time c.late.result late;
    }
