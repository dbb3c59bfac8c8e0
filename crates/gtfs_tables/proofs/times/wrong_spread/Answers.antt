use Rattle.std.proofs.Common.{◌∙◌, sym, ap, length}
use Rattle.gtfs_rows.specs.declared.fault.FaultKind.TheVariants.{HopWithoutDuration}
use Rattle.gtfs_tables.specs.First.{first_index}
use Rattle.gtfs_tables.specs.Times.{is_short, wrong_at}
use Rattle.gtfs_tables.proofs.TimeLemmas.{hop_same}
use Rattle.gtfs_tables.proofs.times.wrong_spread.Goals as goal

pub returns-in-Some : goal.returns-in-Some
returns-in-Some c =
    ap (wrong_at HopWithoutDuration) (sym c.in-Some.is ∙ c.no_duration.ensures ∙ ap (λ times. first_index (is_short times) (length times)) c.deref.ensures.value
    ∙ hop_same c.args.rows.now c.in_ok-times.times.items c.in_ok-times.ensures c.requires.fine)

pub returns : goal.returns
returns c =
    ap (wrong_at HopWithoutDuration) (sym c.in-None.is ∙ c.no_duration.ensures ∙ ap (λ times. first_index (is_short times) (length times)) c.deref.ensures.value
    ∙ hop_same c.args.rows.now c.in_ok-times.times.items c.in_ok-times.ensures c.requires.fine)
