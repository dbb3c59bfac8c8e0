use Rattle.std.proofs.Common.{◌≡◌, ◌<◌, ◌∙◌, ap, length, false, arith, rules}
use Rattle.std.proofs.lemmas.Grind.{common_steps}
use Rattle.std.specs.Prelude.{is_none}
use Rattle.std.proofs.lemmas.List.{take_all}
use Rattle.std.proofs.lemmas.List.Folds.{list_any_more}
use Rattle.gtfs_rows.specs.declared.rows.StopTimeRow.{StopTimeRow}
use Rattle.gtfs_tables.specs.Order.{comes_before, no_row}
use Rattle.gtfs_tables.specs.Rows.{lack_stops}
use Rattle.gtfs_tables.proofs.SortKeyLemmas.{rising_all, rising_more, rising_one}
use Rattle.gtfs_tables.proofs.order.in_file_order.Goals as goal

pub loop-at-init : goal.loop-at-init
loop-at-init c =
    let some : 0 < length c.args.rows.now = search rules in
    record {
      rising = rising_one c.args.trips.now c.args.rows.now c.sort_key_of-last.result some c.sort_key_of-last.ensures;
      stops = let one = list_any_more (λ (row : StopTimeRow). is_none row.stop) c.args.rows.now 0 no_row some in grind (arith, common_steps, one);
    }

pub loop-at-preserved : goal.loop-at-preserved
loop-at-preserved c =
    let some : 0 < c.loop-at.at = (let low = c.loop-at.auto.at in omega (arith, low)) in
    let up : comes_before c.sort_key_of-sort_key.result c.loop-at.last ≡ false = search rules in
    record {
      rising = rising_more c.args.trips.now c.args.rows.now c.loop-at.at c.loop-at.last c.sort_key_of-sort_key.result some c.loop-at-test.true
          c.sort_key_of-sort_key.ensures up c.loop-at.invariant.rising;
      stops = let more = list_any_more (λ (row : StopTimeRow). is_none row.stop) c.args.rows.now c.loop-at.at no_row c.loop-at-test.true in
          grind (arith, common_steps, more, c.loop-at.invariant.stops);
    }

pub returns : goal.returns
returns c =
    let some : 0 < length c.args.rows.now = search rules in
    let over = c.loop-at-test.false in
    let under = c.loop-at.auto.at-end in
    let end : length c.args.rows.now ≡ c.loop-at.at = omega (arith, over, under, some) in
    record {
      order = rising_all c.args.trips.now c.args.rows.now c.loop-at.at c.loop-at.last end c.loop-at.invariant.rising;
      stops = c.loop-at.invariant.stops ∙ ap lack_stops (take_all c.loop-at.at c.args.rows.now over);
    }
