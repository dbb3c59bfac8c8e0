use Rattle.std.proofs.Common.{◌≡◌, ◌∙◌, List, ap, length}
use Rattle.std.proofs.lemmas.List.{length-map}
use Rattle.std.proofs.lemmas.Result.{IfOk-weaker}
use Rattle.gtfs_rows.specs.declared.rows.StopTimeRow.{StopTimeRow}
use Rattle.gtfs_tables.specs.Feeds.{trip_fault}
use Rattle.gtfs_tables.specs.First.{all_below}
use Rattle.gtfs_tables.specs.TimeFaults.{rows_in}
use Rattle.gtfs_tables.specs.declared.order.SortKey.{SortKey}
use Rattle.gtfs_tables.proofs.trip_faults.time_faults.Goals.{After-deref-3}
use Rattle.gtfs_tables.proofs.trip_faults.time_faults.Goals as goal

ordered : (c : After-deref-3) → c.deref-3.result.now ≡ rows_in c.args.trips.items c.args.stops.items c.args.rows.now c.in_ok-sort_keys.sort_keys.items
ordered c =
    c.deref-3.ensures.value ∙ c.in_ok-ordered.ensures
    ∙ ap (λ (sort_keys : List SortKey). rows_in c.args.trips.items c.args.stops.items c.args.rows.now sort_keys) c.deref-2.ensures.value

pub faults_of_trips-requires-clause-len : goal.faults_of_trips-requires-clause-len
faults_of_trips-requires-clause-len c =
    ap length (ordered (goal.at.faults_of_trips-requires-clause-len c).After-deref-3) ∙ length-map c.in_ok-sort_keys.sort_keys.items _

pub returns : goal.returns
returns c =
    let rows = ordered (goal.at.returns c).After-deref-3 in
    IfOk-weaker c.faults_of_trips.result _ _ (λ faults is. record {
      sort_keys = c.in_ok-sort_keys.sort_keys.items;
      in_order = rw c.deref.ensures.value at c.in_ok-sort_keys.ensures;
      faults_are = is ∙ ap (λ (rows : List StopTimeRow). all_below (trip_fault c.args.strict c.in_ok-sort_keys.sort_keys.items rows) c.args.count) rows;
    }) c.faults_of_trips.ensures
