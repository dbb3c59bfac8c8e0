use Rattle.std.proofs.Common.{ap, arith, get_or}
use Rattle.std.proofs.lemmas.List.{get_or_default}
use Rattle.bags.specs.declared.entry.BagEntry.{BagEntry}
use Rattle.bags.proofs.Order.{falling_to}
use Rattle.bags.proofs.search.count_late.Goals as goal

pub returns-then-entries-count : goal.returns-then-entries-count
returns-then-entries-count g c = record {
  within = omega arith;
  late = c.loop-count.invariant;
  early = λ k d from lt.
      let entries = c.args.entries.now in
      let e = get_or entries k d in
      let falls = falling_to (λ (x : BagEntry g.row.V.Denot). x.point.departure) entries c.requires k e lt
      (get_or_default entries k d e lt) c.loop-count.count c.index-entries-count.result from in
      let here = ap (λ (x : BagEntry g.row.V.Denot). x.point.departure) c.index-entries-count.is in
      let early = c.if-entries-count.true in
      omega arith;
}
