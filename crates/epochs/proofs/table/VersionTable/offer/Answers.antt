use Rattle.std.proofs.Common.{ap, ◌∙◌, Some, arith}
use Rattle.version_core.specs.declared.state.Worker.{Worker}
use Rattle.epochs.proofs.HistoryLemmas.{idle_seen}
use Rattle.epochs.proofs.table.VersionTable.offer.Goals as goal

pub returns-in-Ok-clause-offered : goal.returns-in-Ok-clause-offered
returns-in-Ok-clause-offered c =
    let empty = c.if-is_holding.ensures in
    let fits = c.if-not-fits.ensures in
    let idle = fits.0 ∙ ap (λ (w : Worker). Some w) empty.1 in
    let current = c.in-Ok.ensures.current in
    let older = idle_seen c.args.self.now.state c.args.seat.now.number c.args.seat.now.shown.seen c.in-Ok.ensures.kept idle fits.1 in
    let version = current.version_is in
    record { empty = empty.0; fits = fits; idle = idle; newer = omega arith; current = current }
