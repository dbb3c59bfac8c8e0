use Rattle.std.proofs.Common.{◌≡◌, map}
use Rattle.std.specs.String.{string_bytes}
use Rattle.gtfs_tables.specs.Names.{held_at}
use Rattle.gtfs_tables.proofs.names.named_each.Given as goal

abbrev pub invariant-loop-id : goal.invariant-loop-id
invariant-loop-id g l = l.named.items ≡ map (λ id. held_at l.names (string_bytes id.now)) l.yielded
