use Rattle.std.proofs.Common.{◌∙◌, sym, arith, rules}
use Rattle.std.proofs.lemmas.Grind.{common_steps}
use Rattle.std.proofs.lemmas.List.Sums.{count_by_more_yes, count_by_more_no}
use Rattle.reasoning.proofs.FirstLemmas.{first_below-start}
use Rattle.gtfs_rows.specs.Tables.{is_stop}
use Rattle.gtfs_tables.proofs.NameLemmas.{held-none, stop_named-more}
use Rattle.gtfs_tables.proofs.names.stops_by_id.Goals as goal
use Rattle.gtfs_tables.proofs.names.stops_by_id.Goals.{then-eq, else-eq}

pub loop-index-init : goal.loop-index-init
loop-index-init c = record {
  number = search rules;
  held = λ id. held-none c.in_ok-names.names id c.in_ok-names.ensures.empty ∙ sym (first_below-start _);
  hash = c.in_ok-names.ensures.hasher;
}

pub loop-index-preserved : goal.loop-index-preserved
loop-index-preserved c = record {
  number = elim c.if-eq.branch [
    | then-eq w ↦
        grind (
          arith,
          common_steps,
          count_by_more_yes is_stop c.args.stops.now c.loop-index.index
              c.index-stops-index.result,
        )
    | else-eq w ↦
        grind (
          arith,
          common_steps,
          count_by_more_no is_stop c.args.stops.now c.loop-index.index
              c.index-stops-index.result,
        )
  ];
  held = λ id.
      let before = c.loop-index.invariant.held id in
      let count = c.loop-index.invariant.number in
      let step = stop_named-more c.args.stops.now c.loop-index.index c.index-stops-index.result id (omega arith) c.index-stops-index.is in
      let put = c.in_ok-add_first.ensures.adds id in
      let text = c.as_str.ensures.value in
      let name = c.of-name.ensures in
      cc;
  hash = c.in_ok-add_first.ensures.hash ∙ c.loop-index.invariant.hash;
}
