use Rattle.std.proofs.Common.{List, subst}
use Rattle.std.proofs.lemmas.List.{take_all}
use Rattle.gtfs_tables.specs.declared.tables.Frequency.{Frequency}
use Rattle.connections.specs.Grouping.{AreGrouped}
use Rattle.connections.proofs.GroupSteps.{hold_unlisted, rows_more}
use Rattle.connections.proofs.trip_starts.starts_by_trip.Goals as goal

pub loop-row-init : goal.loop-row-init
loop-row-init c = c.in_ok-groups.ensures

pub loop-row-preserved : goal.loop-row-preserved
loop-row-preserved c =
    let none : Frequency = record { trip = 0; start = 0; end = 0; headway = 0 } in
    rows_more c.args.rows.now c.loop-row.row-index c.args.trips none c.loop-row.groups.items c.add_row.new.groups.items c.loop-row-test.true
    c.loop-row.invariant c.in_ok-add_row.ensures

pub returns : goal.returns
returns c =
    hold_unlisted c.args.rows.now c.args.trips c.loop-row.groups.items
    (subst (λ (rows : List Frequency). AreGrouped rows c.args.trips c.loop-row.groups.items)
    (take_all c.loop-row.row-index c.args.rows.now c.loop-row-test.false) c.loop-row.invariant)
