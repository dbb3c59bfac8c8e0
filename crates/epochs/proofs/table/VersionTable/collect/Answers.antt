use Rattle.epochs.proofs.SeatLemmas.{freed_never_busy}
use Rattle.epochs.proofs.table.VersionTable.collect.Goals as goal

pub returns-clause-loader : goal.returns-clause-loader
returns-clause-loader c = (
  freed_never_busy c.args.self.now c.try_shelves-found.result c.try_shelves-found.new.self
      c.history.ensures.kept c.try_shelves-found.ensures,
  c.note_answer.ensures,
)
