use Rattle.std.proofs.Common.{◌≡◌, ◌+◌, ℕ, List, ltb, leb, arith, rules, length, subst, sym, ap, ◌∙◌}
use Rattle.std.specs.List.{slice_range}
use Rattle.std.specs.List.Sorted.{IsNonDecreasing}
use Rattle.std.proofs.lemmas.List.Sorted.{IsPartitionPoint-from_clause, IsPartitionedBy-ltb, IsPartitionedBy-leb}
use Rattle.transfers.specs.Groups.{IsGroup}
use Rattle.transfers.proofs.BorderLemmas.{IsBorder, border_lt, border_le, borders_in_order, between_borders}
use Rattle.transfers.proofs.groups.Groups.group.Goals as goal

low : (c : goal.After-deref-3) → IsBorder c.args.self.now.keys.items c.args.key c.partition_point-first.result
low c =
    let rising : IsNonDecreasing c.deref.result.now = subst (λ (xs : List ℕ). IsNonDecreasing xs) (sym c.deref.ensures.value) c.args.self.now.rising in
    let parted = IsPartitionedBy-ltb (λ (x : ℕ). x) c.deref.result.now c.args.key rising in
    let point = IsPartitionPoint-from_clause (λ (x : ℕ). ltb x c.args.key) c.deref.result.now _ c.partition_point-first.ensures.partitioned parted
    (λ a r q k. search rules) in
    subst (λ (xs : List ℕ). IsBorder xs c.args.key c.partition_point-first.result) c.deref.ensures.value
    (border_lt c.deref.result.now c.args.key c.partition_point-first.result c.partition_point-first.ensures.bound point.0 point.1)

high : (c : goal.After-deref-3) → IsBorder c.args.self.now.keys.items (c.args.key + 1) c.partition_point-end.result
high c =
    let rising : IsNonDecreasing c.deref-2.result.now = subst (λ (xs : List ℕ). IsNonDecreasing xs) (sym c.deref-2.ensures.value) c.args.self.now.rising in
    let parted = IsPartitionedBy-leb (λ (x : ℕ). x) c.deref-2.result.now c.args.key rising in
    let point = IsPartitionPoint-from_clause (λ (x : ℕ). leb x c.args.key) c.deref-2.result.now _ c.partition_point-end.ensures.partitioned parted
    (λ a r q k. search rules) in
    subst (λ (xs : List ℕ). IsBorder xs (c.args.key + 1) c.partition_point-end.result) c.deref-2.ensures.value
    (border_le c.deref-2.result.now c.args.key c.partition_point-end.result c.partition_point-end.ensures.bound point.0 point.1)

pub part-requires : goal.part-requires
part-requires c =
    let size : length c.deref-3.result.now ≡ length c.args.self.now.numbers.items = ap (λ (xs : List ℕ). length xs) c.deref-3.ensures.value in
    let same : length c.args.self.now.keys.items ≡ length c.args.self.now.numbers.items = c.args.self.now.same_length in
    record {
      order = borders_in_order c.args.self.now.keys.items c.args.key c.partition_point-first.result c.partition_point-end.result (low c) (high c);
      inside = omega (arith, (high c).within, size, same);
    }

pub returns : goal.returns
returns c = λ all they_are.
    subst (λ (xs : List ℕ). IsGroup all c.args.key xs)
    (sym (c.part.ensures ∙ ap (λ (xs : List ℕ). slice_range xs c.partition_point-first.result c.partition_point-end.result) c.deref-3.ensures.value))
    (between_borders all c.args.self.now.keys.items c.args.self.now.numbers.items c.args.key c.partition_point-first.result c.partition_point-end.result
    (low c.before) (high c.before) c.args.self.now.same_length they_are)
