use Rattle.std.proofs.Common.{refl}
use Rattle.epochs.proofs.TryLemmas.{full_after}
use Rattle.epochs.proofs.table.VersionTable.make_room.Goals as goal

pub returns-else-has_free-2-clause-full : goal.returns-else-has_free-2-clause-full
returns-else-has_free-2-clause-full c = (
  c.requires,
  c.if-has_free.ensures,
  (c.try_shelves-found.result, c.try_shelves-found.ensures, refl),
  full_after c.args.self.now c.try_shelves-found.result c.try_shelves-found.new.self c.at_rest.ensures.full
      c.history.ensures.kept c.history.ensures.history.rest c.requires c.if-has_free.ensures c.if-has_free-2.ensures
      c.try_shelves-found.ensures,
)
