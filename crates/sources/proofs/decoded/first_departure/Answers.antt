use Rattle.std.proofs.Common.{ltb, ltb-true, ltb-false, arith, rules}
use Rattle.std.proofs.lemmas.List.Sorted.{IsPartitionPoint-from_clause, IsPartitionedBy-ltb}
use Rattle.timetable.specs.declared.network.Connection.{Connection}
use Rattle.sources.proofs.decoded.first_departure.Goals as goal

pub returns-clause-before : goal.returns-clause-before
returns-clause-before c =
    let parted = IsPartitionedBy-ltb (λ (x : Connection). x.dep) _ c.args.time c.requires in
    let point = IsPartitionPoint-from_clause (λ (x : Connection). ltb x.dep c.args.time) _ _
    c.partition_point.ensures.partitioned parted (λ a r q k. search rules) in
    λ k d h. ltb-true _ _ (point.0 k d (omega arith) h)

pub returns-clause-after : goal.returns-clause-after
returns-clause-after c =
    let parted = IsPartitionedBy-ltb (λ (x : Connection). x.dep) _ c.args.time c.requires in
    let point = IsPartitionPoint-from_clause (λ (x : Connection). ltb x.dep c.args.time) _ _
    c.partition_point.ensures.partitioned parted (λ a r q k. search rules) in
    λ k d low high. ltb-false _ _ (point.1 k d low high)
