use Rattle.std.proofs.Common.{sym, ◌∙◌}
use Rattle.epochs.proofs.HistoryLemmas.{current_there, current_is, never_none}
use Rattle.epochs.proofs.table.VersionTable.current_edition.Goals as goal

pub unreachable-requires : goal.unreachable-requires
unreachable-requires c =
    let current = c.current-version.ensures in
    let there = current_there c.self.inside.core c.self.inside.editions c.self.inside.images c.current-version.result.0
    c.current-version.result.1 c.index-self-shelf.result current.kept c.self.invariant.1 current.version
    current.shelf c.index-self-shelf.is in
    never_none _ _ c.index-self-shelf.result there (λ e is. c.in_default.not-Some e (sym c.index-self-shelf.is ∙ is))

pub returns : goal.returns
returns c =
    let current = c.current-version.ensures in
    let there = current_there c.self.inside.core c.self.inside.editions c.self.inside.images c.current-version.result.0
    c.current-version.result.1 c.index-self-shelf.result current.kept c.self.invariant.1 current.version
    current.shelf c.index-self-shelf.is in
    rw (← c.self.view_is) (record {
      current = current_is c.self.inside.core c.self.inside.events c.self.inside.images _ _ c.index-self-shelf.result
          c.in-Some.edition _ there (c.index-self-shelf.is
          ∙ c.in-Some.is) c.in_ok-image.ensures current.version current.shelf;
      kept = current.kept;
    })
