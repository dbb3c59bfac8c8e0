use Rattle.std.proofs.Common.{◌≡◌, ◌∙◌, ◌<◌, Option, None, Some, ap, arith, length, sym, ℕ}
use Rattle.std.specs.Prelude.{if◌then◌else◌}
use Rattle.std.specs.Option.{option_or}
use Rattle.std.specs.Str.{bytes_eq}
use Rattle.std.specs.String.{string_bytes}
use Rattle.reasoning.proofs.FirstLemmas.{first_below-start}
use Rattle.gtfs_tables.specs.Names.{held_at}
use Rattle.gtfs_tables.proofs.NameLemmas.{held-none}
use Rattle.feed_stations.proofs.Named.{other-more, station-more}
use Rattle.feed_stations.proofs.homes.stations_by_id.Goals as goal
use Rattle.feed_stations.proofs.homes.stations_by_id.Goals.{then-is_station+in_ok-add_first, else-is_station}

pub loop-row_index-init : goal.loop-row_index-init
loop-row_index-init c = record {
  held = λ id. held-none c.in_ok-stations.stations id c.in_ok-stations.ensures.empty ∙ sym (first_below-start _);
  hash = c.in_ok-stations.ensures.hasher;
}

pub loop-row_index-preserved : goal.loop-row_index-preserved
loop-row_index-preserved c = record {
  held = λ id.
      let lt : c.loop-row_index.row_index < length c.args.rows.now = omega arith in
      elim c.if-is_station.branch [
        | then-is_station+in_ok-add_first w ↦
            rw (w.stations-is, w.in_ok-add_first.ensures.adds id, c.loop-row_index.invariant.held id, w.as_str.ensures.value)
            (sym (station-more c.args.rows.now c.loop-row_index.row_index c.index-rows-row_index.result id lt c.index-rows-row_index.is
            (sym c.is_station.ensures ∙ w.if-is_station.true)))
        | else-is_station w ↦
            rw (w.stations-is, c.loop-row_index.invariant.held id)
            (sym (other-more c.args.rows.now c.loop-row_index.row_index c.index-rows-row_index.result id lt c.index-rows-row_index.is
            (sym c.is_station.ensures ∙ w.if-is_station.false)))
      ];
  hash = elim c.if-is_station.branch [
    | then-is_station+in_ok-add_first w ↦ rw w.stations-is (w.in_ok-add_first.ensures.hash ∙ c.loop-row_index.invariant.hash)
    | else-is_station w ↦ rw w.stations-is c.loop-row_index.invariant.hash
  ];
}
