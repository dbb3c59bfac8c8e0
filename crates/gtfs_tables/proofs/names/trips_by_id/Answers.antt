use Rattle.std.proofs.Common.{◌∙◌, sym, arith}
use Rattle.reasoning.proofs.FirstLemmas.{first_below-start}
use Rattle.gtfs_tables.proofs.NameLemmas.{held-none, trip_named-more}
use Rattle.gtfs_tables.proofs.names.trips_by_id.Goals as goal

pub loop-index-init : goal.loop-index-init
loop-index-init c = record {
  held = λ id. held-none c.in_ok-indices.indices id c.in_ok-indices.ensures.empty ∙ sym (first_below-start _);
  hash = c.in_ok-indices.ensures.hasher;
}

pub loop-index-preserved : goal.loop-index-preserved
loop-index-preserved c = record {
  held = λ id.
      let before = c.loop-index.invariant.held id in
      let step = trip_named-more c.args.trips.now c.loop-index.index c.index-trips-index.result id (omega arith) c.index-trips-index.is in
      let put = c.in_ok-add_first.ensures.adds id in
      let text = c.as_str.ensures.value in
      cc;
  hash = c.in_ok-add_first.ensures.hash ∙ c.loop-index.invariant.hash;
}
