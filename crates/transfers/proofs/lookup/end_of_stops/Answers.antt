use Rattle.std.proofs.Common.{◌+◌, List, All, take, arith, sym, subst}
use Rattle.gtfs_tables.specs.declared.tables.Transfer.{Transfer}
use Rattle.transfers.proofs.RangeLemmas.{NamedBelow, named_more, named_all}
use Rattle.transfers.proofs.lookup.end_of_stops.Goals as goal

pub loop-row-preserved : goal.loop-row-preserved
loop-row-preserved c =
    let rows = c.deref-row-items.result.now in
    let i = c.loop-row.row-index in
    let end = c.end_with-end-in-loop-row.result in
    let before : All (NamedBelow c.loop-row.end) (take i rows) = subst
    (λ (xs : List Transfer). All (NamedBelow c.loop-row.end) (take i xs)) (sym c.deref-row-items.ensures.value) c.loop-row.invariant.named in
    record {
      stops = omega (arith, c.loop-row.invariant.stops, c.end_with-end.ensures.more, c.end_with-end-in-loop-row.ensures.more);
      small = c.end_with-end-in-loop-row.ensures.small (c.end_with-end.ensures.small c.loop-row.invariant.small);
      named = subst (λ (xs : List Transfer). All (NamedBelow end) (take (i + 1) xs)) c.deref-row-items.ensures.value
          (named_more rows i c.loop-row.end c.end_with-end.result end _
          (omega arith) c.end_with-end.ensures.more c.end_with-end-in-loop-row.ensures.more before c.end_with-end.ensures.below
          c.end_with-end-in-loop-row.ensures.below);
    }

pub returns-clause-below : goal.returns-clause-below
returns-clause-below c = record {
  stops = c.loop-row.invariant.stops;
  named = named_all c.args.feed.now.transfers.items c.loop-row.row-index c.loop-row.end (omega arith) c.loop-row.invariant.named;
}
